use Rattle.std.proofs.Common.{rules, ◌<◌, ◌≡◌, ℕ, refl, false, true, arith, length, ap, ◌∙◌, IsTrue}
use Rattle.std.proofs.lemmas.Bool.{both_ways}
use Rattle.stow_data.proofs.Turns.{serves_from_slice}
use Rattle.std.proofs.lemmas.Iterator.{cases_from_all, YieldsList-from_slice}
use Rattle.greedy_loader.specs.Rule.{IsApartBy}
use Rattle.greedy_loader.proofs.Parts.{apart_unnamed, has_some_class, tells_all_items, Told, told_true, told_false}
use Rattle.greedy_loader.proofs.opening.is_apart_under.Goals as goal

pub returns-then-not-names_class : goal.returns-then-not-names_class
returns-then-not-names_class c = (
  λ h. apart_unnamed c.args.ship.now c.args.cargo.now c.args.layout.now.plan c.args.x.now c.args.place.now c.args.e c.separation.result.now c.separation.ensures (λ named. both_ways c.names_class.result c.if-not-names_class.true (c.names_class.ensures.1 named)),
  λ x. refl,
)

pub returns : goal.returns
returns c =
    let at : ℕ → Type 0 = λ q. IsApartBy c.args.ship.now c.args.cargo.now c.args.layout.now.plan c.args.x.now c.args.place.now q c.args.e in
    tells_all_items at c.args.layout.now.classed c.all.result
    (cases_from_all _ _ _ at (λ q. at q → ⊥) c.all.ensures.ran (YieldsList-from_slice _ (c.iter.ensures.rest ∙ c.deref.ensures))
    (λ x q k. (search rules, (let told : Told (at x.now) = search (rules, told_true) in told).holds)) (λ x q k. (let told : Told (at x.now → ⊥) = search (rules, told_false) in told).holds))
    (λ h q d rule other y is stands named.
    let on = c.requires.kept.classed.each q d other y stands (has_some_class rule c.args.x.now y named) in
    h on.0 q on.1 on.2 d rule other y is stands named)
