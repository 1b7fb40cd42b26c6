use Rattle.std.proofs.Common.{◌≡◌, ◌++◌, ◌-◌, ℕ, ◌&&◌, not, cond}
use Rattle.plan_lifts.specs.Spread.{has}
use Rattle.plan_lifts.specs.Passes.{lifts_down}
use Rattle.plan_lifts.proofs.moving.push_lifts.Given as goal

abbrev pub invariant-loop-done : goal.invariant-loop-done
invariant-loop-done l = l.moves ++ lifts_down (λ (p : ℕ). has l.set p && cond l.on_deck (has l.deck p) (not (has l.deck p))) (l.count - l.done) ≡ l.initial.moves ++ lifts_down (λ (p : ℕ). has l.set p && cond l.on_deck (has l.deck p) (not (has l.deck p))) l.count
