use Rattle.std.proofs.Common.{◌≡◌, ◌≤◌, length}
use Rattle.std.specs.Prelude.{filter}
use Rattle.std.specs.List.{range_with_len}
use Rattle.zero_one_rows.specs.Counted.{is_hatch}
use Rattle.zero_one_rows.proofs.counts.count_lowest.Given as goal

abbrev pub ghost-is_under_hatch : goal.ghost-is_under_hatch
ghost-is_under_hatch g a = g.m

abbrev pub invariant-loop-d : goal.invariant-loop-d
invariant-loop-d g l = record { number : l.count ≡ length (filter (is_hatch g.m l.half) (range_with_len 0 l.d)); low : l.count ≤ l.d }
