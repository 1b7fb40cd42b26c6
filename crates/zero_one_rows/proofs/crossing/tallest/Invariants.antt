use Rattle.std.proofs.Common.{◌≡◌, ◌≤◌, take, max}
use Rattle.std.specs.List.{fold}
use Rattle.zero_one_rows.specs.Crossing.{tiers_for}
use Rattle.zero_one_rows.proofs.crossing.tallest.Given as goal

abbrev pub invariant-loop-s : goal.invariant-loop-s
invariant-loop-s l = record { value : l.most ≡ fold (λ t s. max t (tiers_for l.long s)) 0 (take l.s l.ship.stacks); low : l.most ≤ 39 }
