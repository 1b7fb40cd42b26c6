use Rattle.std.proofs.Common.{◌≡◌, ℕ, Some, true, sym, ◌∙◌, ap, subst}
use Rattle.std.specs.Prelude.{slice_set}
use Rattle.std.proofs.lemmas.Option.{same_Some}
use Rattle.greedy_loader.specs.Kept.{AreLaden}
use Rattle.greedy_loader.proofs.Putting.{laden_off, laden_put}
use Rattle.greedy_loader.proofs.layout.lade.Goals as goal

pub returns-in-None-clause-laden : goal.returns-in-None-clause-laden
returns-in-None-clause-laden c = laden_off c.args.ship.now c.args.cargo.now c.args.plan.now c.args.laden.now c.args.p c.args.c c.args.place.now c.args.x.now c.requires.can c.in-None.ensures.is c.requires.laden

pub returns-in-Some-clause-laden : goal.returns-in-Some-clause-laden
returns-in-Some-clause-laden c =
    let made : c.set.new.self ≡ slice_set c.args.laden.now c.in-Some.k true = c.set.ensures ∙ ap (λ (n : ℕ). slice_set c.args.laden.now n true) c.k.view_is in
    subst (AreLaden c.args.ship.now (slice_set c.args.plan.now c.args.p (Some c.args.c))) (sym made) (laden_put c.args.ship.now c.args.cargo.now c.args.plan.now c.args.laden.now c.args.p c.args.c c.in-Some.k c.args.place.now c.args.x.now c.requires.can c.in-Some.ensures.is (λ j on. sym (same_Some c.in-Some.k j (c.in-Some.ensures.back j on))) c.requires.laden)
