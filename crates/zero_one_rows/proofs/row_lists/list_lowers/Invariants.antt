use Rattle.std.proofs.Common.{◌≡◌}
use Rattle.std.specs.Prelude.{filter}
use Rattle.std.specs.List.{range_with_len}
use Rattle.zero_one_rows.specs.Counted.{has_above}
use Rattle.zero_one_rows.proofs.row_lists.list_lowers.Given as goal

abbrev pub ghost-is_lower : goal.ghost-is_lower
ghost-is_lower g a = g.m

abbrev pub invariant-loop-h : goal.invariant-loop-h
invariant-loop-h g l = l.list ≡ filter (has_above g.m) (range_with_len 0 l.h)
