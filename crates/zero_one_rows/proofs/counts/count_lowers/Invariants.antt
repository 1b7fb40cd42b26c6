use Rattle.std.proofs.Common.{◌≡◌, ◌≤◌, length}
use Rattle.std.specs.Prelude.{filter}
use Rattle.std.specs.List.{range_with_len}
use Rattle.zero_one_rows.specs.Counted.{has_above}
use Rattle.zero_one_rows.proofs.counts.count_lowers.Given as goal

abbrev pub ghost-is_lower : goal.ghost-is_lower
ghost-is_lower g a = g.m

abbrev pub invariant-loop-h : goal.invariant-loop-h
invariant-loop-h g l = record { number : l.count ≡ length (filter (has_above g.m) (range_with_len 0 l.h)); low : l.count ≤ l.h }
