use Rattle.std.specs.Prelude.{◌≡◌, ◌↔◌, ℕ, Bool, List, true}
use Rattle.plan_lifts.specs.Spread.{has}
use Rattle.plan_lifts.specs.Passes.{IsFlaggedAt, IsListedAt}
use Rattle.plan_lifts.proofs.LiftsHold.{then_ok}
use Rattle.plan_lifts.proofs.Naming.{listed_at}
use Rattle.plan_lifts.proofs.moving.places_of.Goals as goal

pub returns-clause-listed : goal.returns-clause-listed
returns-clause-listed c = then_ok
    (λ (set : List Bool). (p : ℕ) → (has set p ≡ true) ↔ IsFlaggedAt c.args.plan.now (has c.in_ok-flags.flags) p)
    (λ (set : List Bool). (p : ℕ) → (has set p ≡ true) ↔ IsListedAt c.args.plan.now c.args.list.now p)
    c.flagged.result
    (λ set at. listed_at c.args.plan.now c.args.list.now (has c.in_ok-flags.flags) (has set) c.in_ok-flags.ensures.names at)
    c.flagged.ensures.flagged
