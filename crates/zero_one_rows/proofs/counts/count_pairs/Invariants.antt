use Rattle.std.proofs.Common.{◌≡◌, ◌≤◌, ◌*◌, ◌^◌, length}
use Rattle.std.specs.Prelude.{flat_map}
use Rattle.std.specs.List.{range_with_len}
use Rattle.zero_one_rows.specs.Counted.{pairs_at}
use Rattle.zero_one_rows.proofs.counts.count_pairs.Given as goal

abbrev pub ghost-count_running : goal.ghost-count_running
ghost-count_running g a = g.m

abbrev pub invariant-loop-i : goal.invariant-loop-i
invariant-loop-i g l = record { number : l.count ≡ length (flat_map (pairs_at g.m) (range_with_len 1 l.i)); low : l.count ≤ l.i * 2 ^ 32 }
