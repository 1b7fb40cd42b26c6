use Rattle.std.specs.Prelude.{◌≡◌, ℕ, Some, slice_get}
use Rattle.std.proofs.Common.{refl, false, subst}
use Rattle.std.proofs.lemmas.Bool.{both_ways}
use Rattle.plan_lifts.specs.Spread.{has}
use Rattle.plan_lifts.proofs.Spreads.{one_under, none_under}
use Rattle.plan_lifts.proofs.spreading.opens_under.Goals as goal

pub returns-in-Some : goal.returns-in-Some
returns-in-Some c = one_under c.args.ship.now c.args.opened.now c.args.p c.in-Some.k c.place.result c.at.result.now c.place.ensures c.in-Some.ensures.is c.in-Some.ensures.back (subst (λ (n : ℕ). slice_get c.args.opened.now n ≡ Some c.at.result.now) c.k.view_is c.at.ensures)

pub returns-in-None : goal.returns-in-None
returns-in-None c = (λ h. absurd (both_ways false refl h), λ x. absurd (none_under c.args.ship.now (has c.args.opened.now) c.args.p c.place.result c.place.ensures c.in-None.ensures.is x))
