use Rattle.std.proofs.Common.{◌≡◌, ◌≤◌, ◌*◌, length}
use Rattle.std.specs.Prelude.{flat_map}
use Rattle.std.specs.List.{range_with_len}
use Rattle.zero_one_rows.specs.Counted.{near_by}
use Rattle.zero_one_rows.proofs.counts.count_near.Given as goal

abbrev pub ghost-of : goal.ghost-of
ghost-of g a = g.m

abbrev pub invariant-loop-e : goal.invariant-loop-e
invariant-loop-e g l = record { number : l.count ≡ length (flat_map (near_by g.m) (range_with_len 0 l.e)); low : l.count ≤ l.e * 9000000 }
