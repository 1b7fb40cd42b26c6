use Rattle.std.proofs.Common.{◌≡◌, ◌++◌, map}
use Rattle.std.specs.Prelude.{filter}
use Rattle.std.specs.List.{range_with_len}
use Rattle.zero_one_rows.specs.Counted.{runs}
use Rattle.zero_one_rows.proofs.row_lists.push_pairs.Given as goal

abbrev pub ghost-is_running : goal.ghost-is_running
ghost-is_running g a = g.m

abbrev pub invariant-loop-g : goal.invariant-loop-g
invariant-loop-g g l = l.pairs ≡ l.initial.pairs ++ map (λ k. record { call = l.call; kind = k }) (filter (runs g.m l.call) (range_with_len 0 l.g))
