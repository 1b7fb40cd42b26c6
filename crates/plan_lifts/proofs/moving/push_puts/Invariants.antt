use Rattle.std.proofs.Common.{◌≡◌, ◌++◌, ◌-◌, ℕ, ◌&&◌, not, cond, length}
use Rattle.stow_data.specs.Ship.{places}
use Rattle.plan_lifts.specs.Spread.{has}
use Rattle.plan_lifts.specs.Passes.{puts_from}
use Rattle.plan_lifts.proofs.moving.push_puts.Given as goal

abbrev pub invariant-loop-p : goal.invariant-loop-p
invariant-loop-p l = l.moves ++ puts_from (λ (p : ℕ). has l.set p && cond l.on_deck (has l.deck p) (not (has l.deck p))) l.plan l.p (length (places l.ship) - l.p) ≡ l.initial.moves ++ puts_from (λ (p : ℕ). has l.set p && cond l.on_deck (has l.deck p) (not (has l.deck p))) l.plan 0 (length (places l.ship))
