use Rattle.std.proofs.Common.{ℕ, arith, rules, ◌<◌, ◌≤◌, length, subst, sym, MatchOption, None, Some}
use Rattle.std.specs.Prelude.{Option}
use Rattle.std.proofs.lemmas.Iterator.{first_from_Range}
use Rattle.std.proofs.lemmas.Option.{slice_get_within}
use Rattle.stow_data.specs.Ship.{places}
use Rattle.stowage_rules.specs.Faults.{IsLeast, IsUnplugged}
use Rattle.stowage_rules.proofs.plugs.first_unplugged.Goals as goal

pub returns-in_err-first : goal.returns-in_err-first
returns-in_err-first c =
    let at = IsUnplugged c.args.ship.now c.args.cargo.now c.args.plan.now in
    let none : (k : ℕ) → 0 ≤ k → k < c.places.result → at k → ⊥ = first_from_Range _ _ _ None at (λ n. at n → ⊥) c.in_err-first.ensures.ran (λ x q k. search rules) (λ x q k. search rules) in
    subst (λ (r : Option ℕ). MatchOption r ((p : ℕ) → at p → ⊥) (IsLeast at)) (sym c.from_residual.ensures)
    (λ p x. none p (omega arith) (omega (arith, slice_get_within (places c.args.ship.now) p x.place x.stands.is_place)) x)

pub returns : goal.returns
returns c =
    let at = IsUnplugged c.args.ship.now c.args.cargo.now c.args.plan.now in
    let p : ℕ = c.in_ok-first.first in
    let found : (0 ≤ p) × (p < c.places.result) × at p × ((k : ℕ) → 0 ≤ k → k < p → at k → ⊥) = first_from_Range _ _ _ (Some p) at (λ n. at n → ⊥) c.in_ok-first.ensures.ran (λ x q k. search rules) (λ x q k. search rules) in
    record { holds = found.2; none_below = λ k l. found.3 k (omega arith) l }
