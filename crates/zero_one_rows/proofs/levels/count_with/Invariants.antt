use Rattle.std.proofs.Common.{◌≡◌, ◌≤◌, length}
use Rattle.std.specs.Prelude.{filter}
use Rattle.std.specs.List.{range_with_len}
use Rattle.zero_one_rows.specs.Levels.{near_at}
use Rattle.zero_one_rows.proofs.levels.count_with.Given as goal

abbrev pub ghost-are_near : goal.ghost-are_near
ghost-are_near g a = g.m

abbrev pub invariant-loop-q : goal.invariant-loop-q
invariant-loop-q g l = record { number : l.count ≡ length (filter (near_at g.m l.level l.first) (range_with_len 0 l.q)); low : l.count ≤ l.q }
