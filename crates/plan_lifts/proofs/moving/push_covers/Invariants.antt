use Rattle.std.proofs.Common.{◌≡◌, ◌++◌, ◌-◌, ℕ, cond}
use Rattle.voyage_meaning.specs.declared.moves.Move.TheVariants.{OffCover, OnCover}
use Rattle.plan_lifts.specs.Spread.{has}
use Rattle.plan_lifts.specs.Passes.{covers_down}
use Rattle.plan_lifts.proofs.moving.push_covers.Given as goal

abbrev pub invariant-loop-done : goal.invariant-loop-done
invariant-loop-done l = l.moves ++ covers_down (λ (k : ℕ). cond l.off (OffCover k) (OnCover k)) (has l.opened) (l.count - l.done) ≡ l.initial.moves ++ covers_down (λ (k : ℕ). cond l.off (OffCover k) (OnCover k)) (has l.opened) l.count
