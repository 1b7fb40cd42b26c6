use Rattle.std.proofs.Common.{◌≡◌}
use Rattle.std.specs.Prelude.{filter}
use Rattle.std.specs.List.{range_with_len}
use Rattle.zero_one_rows.specs.Counted.{has_below}
use Rattle.zero_one_rows.proofs.row_lists.list_uppers.Given as goal

abbrev pub ghost-is_upper : goal.ghost-is_upper
ghost-is_upper g a = g.m

abbrev pub invariant-loop-h : goal.invariant-loop-h
invariant-loop-h g l = l.list ≡ filter (has_below g.m) (range_with_len 0 l.h)
