use Rattle.std.proofs.Common.{◌≡◌, ◌≤◌, length}
use Rattle.std.specs.Prelude.{filter}
use Rattle.std.specs.List.{range_with_len}
use Rattle.zero_one_rows.specs.Counted.{stands_at}
use Rattle.zero_one_rows.proofs.counts.count_filled.Given as goal

abbrev pub invariant-loop-p : goal.invariant-loop-p
invariant-loop-p g l = record { number : l.count ≡ length (filter (stands_at g.m) (range_with_len 0 l.p)); low : l.count ≤ l.p }
