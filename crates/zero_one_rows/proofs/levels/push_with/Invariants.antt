use Rattle.std.proofs.Common.{◌≡◌, ◌++◌, map}
use Rattle.std.specs.Prelude.{filter}
use Rattle.std.specs.List.{range_with_len}
use Rattle.zero_one_rows.specs.Levels.{near_at}
use Rattle.zero_one_rows.proofs.levels.push_with.Given as goal

abbrev pub ghost-are_near : goal.ghost-are_near
ghost-are_near g a = g.m

abbrev pub invariant-loop-q : goal.invariant-loop-q
invariant-loop-q g l = l.list ≡ l.initial.list ++ map (λ q. record { first = l.first; second = q }) (filter (near_at g.m l.level l.first) (range_with_len 0 l.q))
