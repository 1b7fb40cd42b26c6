use Rattle.std.proofs.Common.{ℕ, arith, rules, ◌≡◌, ◌<◌, ◌≤◌, get_or, length, slice_get, subst, sym, ap, refl, MatchOption, None, Some, true, false, ◌∙◌}
use Rattle.std.specs.List.{AllWithin}
use Rattle.std.specs.Prelude.{Option}
use Rattle.std.proofs.lemmas.Iterator.{first_from_find, YieldsList-from_slice}
use Rattle.std.proofs.lemmas.Option.{slice_get-get_or}
use Rattle.stow_data.specs.Ship.{places}
use Rattle.stow_data.proofs.Turns.{serves_from_slice}
use Rattle.stowage_rules.specs.Faults.{AreTooNear, IsLeast}
use Rattle.stowage_rules.proofs.OfClass.{IsTold, none_told, none_before, none_at_all, too_near}
use Rattle.stowage_rules.proofs.separation.first_near_to.Goals as goal

pub find-requires-clause-callable : goal.find-requires-clause-callable
find-requires-clause-callable c = serves_from_slice (λ q x r k. search rules) (λ k x at. λ y e _ _ _ _ _ _ _.
    (c.requires.inside, subst (λ z. z.now < length (places c.args.ship.now)) (sym e) (c.requires.gathered.each k x.now (subst (λ xs. slice_get xs k ≡ Some x.now) c.iter.ensures.rest at)).0))

pub returns-in_err-first : goal.returns-in_err-first
returns-in_err-first c =
    let told = IsTold c.args.ship.now c.args.cargo.now c.args.plan.now c.args.rule.now c.args.p c.args.of_second.now in
    let none : AllWithin (told false) c.args.of_second.now 0 (length c.args.of_second.now) = first_from_find _ _ None (told true) (told false) c.in_err-first.ensures.ran (YieldsList-from_slice _ c.iter.ensures.rest) (λ x q k. search rules) (λ x q k. search rules) in
    subst (λ (r : Option ℕ). MatchOption r ((q : ℕ) → AreTooNear c.args.ship.now c.args.cargo.now c.args.plan.now c.args.rule.now c.args.p q → ⊥) (IsLeast (AreTooNear c.args.ship.now c.args.cargo.now c.args.plan.now c.args.rule.now c.args.p))) (sym c.from_residual.ensures)
    (none_at_all c.args.ship.now c.args.cargo.now c.args.plan.now c.args.rule.now c.args.p c.args.of_second.now _ c.requires.gathered (omega arith)
    (none_told c.args.ship.now c.args.cargo.now c.args.plan.now c.args.rule.now c.args.p c.args.of_second.now _ none))

pub returns : goal.returns
returns c =
    let told = IsTold c.args.ship.now c.args.cargo.now c.args.plan.now c.args.rule.now c.args.p c.args.of_second.now in
    let q : ℕ = c.in_ok-first.first.now in
    let found : told true q × (i : ℕ) × (i < length c.args.of_second.now) × ((d : ℕ) → get_or c.args.of_second.now i d ≡ q) × AllWithin (told false) c.args.of_second.now 0 i
    = first_from_find c.find.new.self _ (Some c.in_ok-first.first) (told true) (told false) c.in_ok-first.ensures.ran (YieldsList-from_slice _ c.iter.ensures.rest) (λ x q k. search rules) (λ x q k. search rules) in
    let at : slice_get c.args.of_second.now found.1 ≡ Some q = slice_get-get_or c.args.of_second.now found.1 0 found.2 ∙ ap Some (found.3 0) in
    let here = c.requires.gathered.each found.1 q at in
    record {
      holds = too_near c.args.ship.now c.args.cargo.now c.args.plan.now c.args.rule.now c.args.p q true c.requires.inside here.0 (c.has_class.ensures.0 c.if-not-has_class.false) here.1 found.0 refl;
      none_below = none_before c.args.ship.now c.args.cargo.now c.args.plan.now c.args.rule.now c.args.p c.args.of_second.now found.1 q c.requires.gathered at
          (none_told c.args.ship.now c.args.cargo.now c.args.plan.now c.args.rule.now c.args.p c.args.of_second.now found.1 found.4);
    }
