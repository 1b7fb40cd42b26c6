use Rattle.std.proofs.Common.{◌≡◌, ℕ, length, rules}
use Rattle.std.specs.Prelude.{slice_get}
use Rattle.stow_data.specs.Ship.{places}
use Rattle.plan_lifts.proofs.LiftsHold.{differs_inside}
use Rattle.plan_lifts.proofs.Picked.{told}
use Rattle.plan_lifts.proofs.lifting.changes.Goals as goal

pub returns-clause-differ : goal.returns-clause-differ
returns-clause-differ c = told c.places_where.result (length (places c.args.ship.now)) (λ (p : ℕ). slice_get c.args.before.now p ≡ slice_get c.args.after.now p → ⊥) _ c.places_where.ensures.answers c.places_where.ensures.each_flag (λ set answers p l. let answer = answers p l in search rules) (λ p x. differs_inside c.args.before.now c.args.after.now (length (places c.args.ship.now)) p c.requires.first c.requires.second x)
