use Rattle.plan_lifts.specs.Spread.{has}
use Rattle.std.specs.Prelude.{◌≡◌, ℕ, Some, true, slice_get, slice_set}
use Rattle.std.proofs.Common.{ap, ◌∙◌, false, subst}
use Rattle.std.proofs.lemmas.Option.{get_or_from_slice_get}
use Rattle.plan_lifts.proofs.Spreads.{opens_one, opens_none}
use Rattle.plan_lifts.proofs.spreading.open_over.Goals as goal

pub returns-in-Some-clause-opens : goal.returns-in-Some-clause-opens
returns-in-Some-clause-opens c = opens_one c.args.ship.now c.args.set.now c.args.opened.now c.set.new.self c.args.p c.in-Some.k c.place.result (get_or_from_slice_get c.args.set.now c.args.p c.at.result.now false (subst (λ (n : ℕ). slice_get c.args.set.now n ≡ Some c.at.result.now) c.p.view_is c.at.ensures) ∙ c.if-not-at.false) c.place.ensures c.in-Some.ensures.is c.in-Some.ensures.back c.requires.each_cover (c.set.ensures ∙ ap (λ (n : ℕ). slice_set c.args.opened.now n true) c.k.view_is)

pub returns-in_default-clause-opens : goal.returns-in_default-clause-opens
returns-in_default-clause-opens c = opens_none c.args.ship.now (has c.args.set.now) (has c.args.opened.now) c.args.p c.place.result c.place.ensures c.in_default.ensures.is
