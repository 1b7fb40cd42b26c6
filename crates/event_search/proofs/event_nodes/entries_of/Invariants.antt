use Rattle.std.proofs.Common.{◌≡◌, map, take}
use Rattle.zero_one_rows.specs.Variables.{Voyage}
use Rattle.event_search.specs.Nodes.{placed, told_entry}
use Rattle.event_search.proofs.event_nodes.entries_of.Given as goal

abbrev pub invariant-loop-done : goal.invariant-loop-done
invariant-loop-done l = (m : Voyage) → map (placed m) l.entries ≡ map (told_entry m l.ended) (take l.done-index l.ended)
