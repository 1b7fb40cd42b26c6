use Rattle.std.proofs.Common.{ℕ, ◌≡◌, arith, rules, ap}
use Rattle.std.specs.Prelude.{slice_get}
use Rattle.stow_data.specs.Plans.{Plan}
use Rattle.stow_data.proofs.Ranges.{all_from_Range, tells_all}
use Rattle.voyage_meaning.proofs.RunsHold.{same_plans}
use Rattle.voyage_meaning.proofs.crane.is_same.Goals as goal

pub returns : goal.returns
returns c =
    let at : ℕ → Type 0 = λ n. slice_get c.args.a.now n ≡ slice_get c.args.b.now n in
    tells_all at _ _ _ (all_from_Range _ _ _ _ at (λ n. at n → ⊥) c.all.ensures.ran (λ x q k. search rules) (λ x q k. search rules))
    (same_plans c.args.a.now c.args.b.now c.places.result (omega arith) (omega arith)) (λ h n. ap (λ (y : Plan). slice_get y n) h)
