use Rattle.std.proofs.Common.{◌≡◌, ℕ, Some, sym, ◌∙◌, ap, subst}
use Rattle.std.specs.Prelude.{slice_get, slice_set}
use Rattle.std.proofs.lemmas.Option.{same_Some}
use Rattle.greedy_loader.specs.Kept.{AreEarliest}
use Rattle.greedy_loader.proofs.Putting.{earliest_off, earliest_put}
use Rattle.greedy_loader.proofs.layout.advance.Goals as goal

pub returns-in-None-clause-earliest : goal.returns-in-None-clause-earliest
returns-in-None-clause-earliest c = earliest_off c.args.ship.now c.args.cargo.now c.args.plan.now c.args.earliest.now c.args.p c.args.c c.args.place.now c.args.x.now c.requires.can c.in-None.ensures.is c.requires.earliest

pub returns-in-Some-clause-earliest : goal.returns-in-Some-clause-earliest
returns-in-Some-clause-earliest c =
    let made : c.set.new.self ≡ slice_set c.args.earliest.now c.in-Some.k c.earlier.result = c.set.ensures ∙ ap (λ (n : ℕ). slice_set c.args.earliest.now n c.earlier.result) c.k.view_is in
    let at : slice_get c.args.earliest.now c.in-Some.k ≡ Some c.at-before.result.now = ap (slice_get c.args.earliest.now) (sym c.k.view_is) ∙ c.at-before.ensures in
    subst (AreEarliest c.args.ship.now c.args.cargo.now (slice_set c.args.plan.now c.args.p (Some c.args.c))) (sym made) (earliest_put c.args.ship.now c.args.cargo.now c.args.plan.now c.args.earliest.now c.args.p c.args.c c.in-Some.k c.at-before.result.now c.earlier.result c.args.place.now c.args.x.now c.requires.can c.in-Some.ensures.is (λ j on. sym (same_Some c.in-Some.k j (c.in-Some.ensures.back j on))) at c.earlier.ensures c.requires.earliest)
