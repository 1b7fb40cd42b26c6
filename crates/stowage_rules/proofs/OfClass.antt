-- The places of a class, gathered in their order, and the first of them that is too near.
use Rattle.std.specs.Prelude.{◌≡◌, ℕ, suc, zero, ◌+◌, ◌<◌, ◌≤◌, ◌⊎◌, List, [], ◌∷◌, ◌++◌, Bool, true, false, Some, length, slice_get}
use Rattle.std.specs.List.{AllWithin}
use Rattle.std.proofs.Common.{get_or, refl, sym, ◌∙◌, ap, arith, subst, ⊎_elim}
use Rattle.std.proofs.lemmas.Bool.{both_ways, cases_order}
use Rattle.std.proofs.lemmas.Option.{none-some, same_Some, slice_get_within, slice_get-get_or}
use Rattle.stow_data.specs.declared.geometry.Place.{Place}
use Rattle.stow_data.specs.declared.geometry.Separation.{Separation as Separated}
use Rattle.stow_data.specs.Ship.{Ship, places}
use Rattle.stow_data.specs.Shipment.{Cargo}
use Rattle.stow_data.specs.Plans.{Plan}
use Rattle.stow_data.proofs.InOrder.{split_get, get_left, get_right}
use Rattle.stow_data.specs.Near.{near}
use Rattle.stowage_rules.specs.Faults.{HasClassAt, AreTooNear}
use Rattle.stowage_rules.specs.Places.{AreOfClass}
use Rattle.stowage_rules.proofs.Items.{slice_get_in}

-- a list of one item has no other
only : (n j q : ℕ) → slice_get (n ∷ []) j ≡ Some q → (j ≡ 0) × (n ≡ q)
only n zero q h = (refl, same_Some n q h)
only n (suc j) q h = absurd (none-some q h)

module _ (cargo : Cargo) (plan : Plan) (class : List ℕ) where
  pub gathered_none : AreOfClass cargo plan class 0 []
  gathered_none = record {
    each = λ k q h. absurd (none-some q h);
    all = λ q l h. absurd (omega arith);
    rising = λ j k p q l a b. absurd (none-some p a);
  }

  -- the next place isn't one
  pub gathered_same : (n : ℕ) (found : List ℕ) → AreOfClass cargo plan class n found → (HasClassAt cargo plan n class → ⊥) → AreOfClass cargo plan class (n + 1) found
  gathered_same n found was not_here = record {
    each = λ k q h. let e = was.each k q h in (omega (arith, e.0), e.1);
    all = λ q l h. ⊎_elim
        (λ (e : q ≡ n). absurd (not_here (subst (λ (z : ℕ). HasClassAt cargo plan z class) e h)))
        (λ (o : (q < n) ⊎ (n < q)). was.all q (⊎_elim (λ (x : q < n). x) (λ (x : n < q). omega arith) o) h)
        (cases_order q n);
    rising = was.rising;
  }

  -- the next place is one
  pub gathered_more : (n : ℕ) (found : List ℕ) → AreOfClass cargo plan class n found → HasClassAt cargo plan n class → AreOfClass cargo plan class (n + 1) (found ++ n ∷ [])
  gathered_more n found was here = record {
    each = λ k q h. ⊎_elim
        (λ (a : (k < length found) × (slice_get found k ≡ Some q)). let e = was.each k q a.1 in (omega (arith, e.0), e.1))
        (λ (a : (j : ℕ) × (k ≡ length found + j) × (slice_get (n ∷ []) j ≡ Some q)). let same : n ≡ q = (only n a.0 q a.2).1 in (omega (arith, same), subst (λ (z : ℕ). HasClassAt cargo plan z class) same here))
        (split_get found (n ∷ []) k q h);
    all = λ q l h. ⊎_elim
        (λ (e : q ≡ n). (length found, get_right found (n ∷ []) 0 (length found) (omega arith) ∙ ap Some (sym e)))
        (λ (o : (q < n) ⊎ (n < q)). let k = was.all q (⊎_elim (λ (x : q < n). x) (λ (x : n < q). omega arith) o) h in (k.0, get_left found (n ∷ []) k.0 q k.1))
        (cases_order q n);
    rising = λ j k p q l a b. ⊎_elim
        (λ (u : (k < length found) × (slice_get found k ≡ Some q)). ⊎_elim
        (λ (v : (j < length found) × (slice_get found j ≡ Some p)). was.rising j k p q l v.1 u.1)
        (λ (v : (i : ℕ) × (j ≡ length found + i) × (slice_get (n ∷ []) i ≡ Some p)). absurd (omega (arith, l, u.0, v.1)))
        (split_get found (n ∷ []) j p a))
        (λ (u : (i : ℕ) × (k ≡ length found + i) × (slice_get (n ∷ []) i ≡ Some q)). let last = only n u.0 q u.2 in ⊎_elim
        (λ (v : (j < length found) × (slice_get found j ≡ Some p)). let e = was.each j p v.1 in omega (arith, e.0, last.1))
        (λ (v : (i : ℕ) × (j ≡ length found + i) × (slice_get (n ∷ []) i ≡ Some p)). absurd (omega (arith, l, u.1, v.1, last.0, (only n v.0 p v.2).0)))
        (split_get found (n ∷ []) j p a))
        (split_get found (n ∷ []) k q b);
  }

module _ (ship : Ship) (cargo : Cargo) (plan : Plan) (rule : Separated) (p : ℕ) (found : List ℕ) where
  -- what a test for one place answered of this one
  abbrev pub IsTold : Bool → ℕ → Type 0
  IsTold answer q = (first second : Place) → slice_get (places ship) p ≡ Some first → slice_get (places ship) q ≡ Some second → answer ≡ near ship rule.level first second

  -- the first items, of which the test answered no, aren't too near
  pub none_told : (n : ℕ) → AllWithin (IsTold false) found 0 n → (j r : ℕ) → j < n → slice_get found j ≡ Some r → AreTooNear ship cargo plan rule p r → ⊥
  none_told n told j r l at x =
      let within : j < length found = slice_get_within found j r at in
      let same : get_or found j 0 ≡ r = same_Some _ _ (sym (slice_get-get_or found j 0 within) ∙ at) in
      both_ways false refl (subst (IsTold false) same (told j 0 (omega arith) l) x.first x.second x.is_first x.is_second ∙ x.near)

  -- where no item of the list before this one is too near, no place before it is
  pub none_before : (k q : ℕ) → AreOfClass cargo plan rule.b (length (places ship)) found → slice_get found k ≡ Some q → ((j r : ℕ) → j < k → slice_get found j ≡ Some r → AreTooNear ship cargo plan rule p r → ⊥) → (r : ℕ) → r < q → AreTooNear ship cargo plan rule p r → ⊥
  none_before k q gathered is before r l x =
      let at = gathered.all r (slice_get_within (places ship) r x.second x.is_second) x.has_b in ⊎_elim
      (λ (e : at.0 ≡ k). let same : r ≡ q = same_Some r q (sym at.1 ∙ (ap (slice_get found) e ∙ is)) in omega (arith, l, same))
      (λ (o : (at.0 < k) ⊎ (k < at.0)). ⊎_elim
      (λ (y : at.0 < k). before at.0 r y at.1 x)
      (λ (y : k < at.0). let up = gathered.rising k at.0 q r y is at.1 in omega (arith, l, up)) o)
      (cases_order at.0 k)

  -- where no item is too near, no place is
  pub none_at_all : (k : ℕ) → AreOfClass cargo plan rule.b (length (places ship)) found → length found ≤ k → ((j r : ℕ) → j < k → slice_get found j ≡ Some r → AreTooNear ship cargo plan rule p r → ⊥) → (r : ℕ) → AreTooNear ship cargo plan rule p r → ⊥
  none_at_all k gathered past before r x =
      let at = gathered.all r (slice_get_within (places ship) r x.second x.is_second) x.has_b in
      let i : at.0 < length found = slice_get_within found at.0 r at.1 in before at.0 r (omega (arith, i, past)) at.1 x

-- places of the two classes that were found near
pub too_near : (ship : Ship) (cargo : Cargo) (plan : Plan) (rule : Separated) (p q : ℕ) (answer : Bool) → p < length (places ship) → q < length (places ship) → HasClassAt cargo plan p rule.a → HasClassAt cargo plan q rule.b → ((first second : Place) → slice_get (places ship) p ≡ Some first → slice_get (places ship) q ≡ Some second → answer ≡ near ship rule.level first second) → answer ≡ true → AreTooNear ship cargo plan rule p q
too_near ship cargo plan rule p q answer l m a b told true_here =
    let first = slice_get_in (places ship) p l in
    let second = slice_get_in (places ship) q m in
    record { first = first.0; is_first = first.1; has_a = a; second = second.0; is_second = second.1; has_b = b; near = sym (told first.0 second.0 first.1 second.1) ∙ true_here }
