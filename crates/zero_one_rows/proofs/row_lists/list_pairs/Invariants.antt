use Rattle.std.proofs.Common.{◌≡◌}
use Rattle.std.specs.Prelude.{flat_map}
use Rattle.std.specs.List.{range_with_len}
use Rattle.zero_one_rows.specs.Counted.{pairs_at}
use Rattle.zero_one_rows.proofs.row_lists.list_pairs.Given as goal

abbrev pub ghost-push_pairs : goal.ghost-push_pairs
ghost-push_pairs g a = g.m

abbrev pub invariant-loop-i : goal.invariant-loop-i
invariant-loop-i g l = l.pairs ≡ flat_map (pairs_at g.m) (range_with_len 1 l.i)
