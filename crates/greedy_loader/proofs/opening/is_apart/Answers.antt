use Rattle.std.proofs.Common.{ℕ, arith, refl, rules, true, false, IsTrue}
use Rattle.std.proofs.lemmas.Bool.{both_ways}
use Rattle.stow_data.proofs.Ranges.{all_from_Range, tells_all}
use Rattle.greedy_loader.specs.Rule.{IsApartBy}
use Rattle.greedy_loader.proofs.Parts.{apart_all, Told, told_true, told_false}
use Rattle.greedy_loader.proofs.opening.is_apart.Goals as goal

pub returns : goal.returns
returns c =
    let at : ℕ → Type 0 = λ n. (q : ℕ) → IsApartBy c.args.ship.now c.args.cargo.now c.args.layout.now.plan c.args.x.now c.args.place.now q n in
    tells_all at _ _ _ (all_from_Range _ _ _ _ at (λ n. at n → ⊥) c.all.ensures.ran
    (λ x q k. (search rules, (let told : Told (at x) = search (rules, told_true) in told).holds)) (λ x q k. (let told : Told (at x → ⊥) = search (rules, told_false) in told).holds))
    (apart_all c.args.ship.now c.args.cargo.now c.args.layout.now.plan c.args.x.now c.args.place.now c.separations.result (omega arith)) (λ h n q. h q n)
