use Rattle.std.proofs.Common.{◌≡◌}
use Rattle.std.specs.Prelude.{flat_map}
use Rattle.std.specs.List.{range_with_len}
use Rattle.zero_one_rows.specs.Counted.{hatches_of}
use Rattle.zero_one_rows.proofs.row_lists.list_hatches.Given as goal

abbrev pub ghost-push_hatches : goal.ghost-push_hatches
ghost-push_hatches g a = g.m

abbrev pub invariant-loop-h : goal.invariant-loop-h
invariant-loop-h g l = l.list ≡ flat_map (hatches_of g.m) (range_with_len 0 l.h)
