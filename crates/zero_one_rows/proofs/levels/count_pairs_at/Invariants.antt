use Rattle.std.proofs.Common.{◌≡◌, ◌≤◌, ◌*◌, length}
use Rattle.std.specs.Prelude.{flat_map}
use Rattle.std.specs.List.{range_with_len}
use Rattle.zero_one_rows.specs.Levels.{pairs_with}
use Rattle.zero_one_rows.proofs.levels.count_pairs_at.Given as goal

abbrev pub ghost-count_with : goal.ghost-count_with
ghost-count_with g a = g.m

abbrev pub invariant-loop-p : goal.invariant-loop-p
invariant-loop-p g l = record { number : l.count ≡ length (flat_map (pairs_with g.m l.level) (range_with_len 0 l.p)); low : l.count ≤ l.p * 3000 }
