use Rattle.std.proofs.Common.{◌≡◌, map, take}
use Rattle.zero_one_rows.specs.Variables.{Voyage}
use Rattle.event_search.specs.Cores.{node_at}
use Rattle.event_search.proofs.event_nodes.paths_of.Given as goal

abbrev pub invariant-loop-k : goal.invariant-loop-k
invariant-loop-k l = (m : Voyage) → l.paths ≡ map (λ n. (node_at m l.ended n).path) (take l.k l.nodes)
