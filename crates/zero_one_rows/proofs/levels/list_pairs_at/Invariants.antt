use Rattle.std.proofs.Common.{◌≡◌}
use Rattle.std.specs.Prelude.{flat_map}
use Rattle.std.specs.List.{range_with_len}
use Rattle.zero_one_rows.specs.Levels.{pairs_with}
use Rattle.zero_one_rows.proofs.levels.list_pairs_at.Given as goal

abbrev pub ghost-push_with : goal.ghost-push_with
ghost-push_with g a = g.m

abbrev pub invariant-loop-p : goal.invariant-loop-p
invariant-loop-p g l = l.list ≡ flat_map (pairs_with g.m l.level) (range_with_len 0 l.p)
