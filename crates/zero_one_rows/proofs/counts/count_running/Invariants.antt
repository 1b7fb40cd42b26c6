use Rattle.std.proofs.Common.{◌≡◌, ◌≤◌, length}
use Rattle.std.specs.Prelude.{filter}
use Rattle.std.specs.List.{range_with_len}
use Rattle.zero_one_rows.specs.Counted.{runs}
use Rattle.zero_one_rows.proofs.counts.count_running.Given as goal

abbrev pub ghost-is_running : goal.ghost-is_running
ghost-is_running g a = g.m

abbrev pub invariant-loop-g : goal.invariant-loop-g
invariant-loop-g g l = record { number : l.count ≡ length (filter (runs g.m l.call) (range_with_len 0 l.g)); low : l.count ≤ l.g }
