-- A box that goes to another, variable by variable.
use Rattle.std.proofs.Common.{◌≡◌, ◌≢◌, ℕ, zero, suc, ◌+◌, ◌<◌, ◌⊎◌, inl, inr, Bool, List, [], ◌∷◌, ◌++◌, Option, None, length, set, get_or, take, drop, refl, sym, ◌∙◌, ap, subst}
use Rattle.std.proofs.lemmas.Bool.Decides.{eqb_tells}
use Rattle.std.proofs.lemmas.List.{get_or-set_same, get_or-set_other, take_more, drop_more, ext_get_or}
use Rattle.proof_trees.specs.Boxes.{Box, at}
use Rattle.partial_plan.specs.Fixing.{freed}
use Rattle.partial_plan.proofs.Freeing.{freed_append}

abbrev Among : List ℕ → ℕ → Type 0
Among [] v = ⊥
Among (x ∷ xs) v = (v ≡ x) ⊎ Among xs v

pub set_twice : (b : Box) (v : ℕ) (o p : Option Bool) → set (set b v o) v p ≡ set b v p
set_twice [] v o p = refl
set_twice (z ∷ b) zero o p = refl
set_twice (z ∷ b) (suc v) o p = ap (λ c. z ∷ c) (set_twice b v o p)

-- each variable is as in the other box, or still to come
abbrev pub Nears : Box → List ℕ → Box → Type 0
Nears to xs b = (v : ℕ) → (at b v ≡ at to v) ⊎ Among xs v

same_or_other : (a b : ℕ) → (a ≡ b) ⊎ (a ≢ b)
same_or_other a b = elim (eqb_tells a b) [ inl h ↦ inl h.1 | inr h ↦ inr h.1 ]

pub near_first : (to : Box) (xs : List ℕ) → Nears to xs (freed to xs)
near_first to [] v = inl refl
near_first to (x ∷ xs) v = by (same_or_other v x) (near_first (set to x None) xs v)
  where
    by : (v ≡ x) ⊎ (v ≢ x) → (at (freed (set to x None) xs) v ≡ at (set to x None) v) ⊎ Among xs v → (at (freed (set to x None) xs) v ≡ at to v) ⊎ ((v ≡ x) ⊎ Among xs v)
    by (inl here) near = inr (inl here)
    by (inr other) (inl e) = inl (e ∙ get_or-set_other to x v None None other)
    by (inr other) (inr among) = inr (inr among)

near_one : (to b : Box) (xs : List ℕ) (x : ℕ) → x < length b → Nears to (x ∷ xs) b → Nears to xs (set b x (at to x))
near_one to b xs x lt near v = by (same_or_other v x) (near v)
  where
    by : (v ≡ x) ⊎ (v ≢ x) → (at b v ≡ at to v) ⊎ ((v ≡ x) ⊎ Among xs v) → (at (set b x (at to x)) v ≡ at to v) ⊎ Among xs v
    by (inl here) near = inl (ap (at (set b x (at to x))) here ∙ get_or-set_same b x (at to x) None lt ∙ ap (at to) (sym here))
    by (inr other) (inl e) = inl (get_or-set_other b x v (at to x) None other ∙ e)
    by (inr other) (inr (inl here)) = absurd (other here)
    by (inr other) (inr (inr among)) = inr among

module _ (xs : List ℕ) (k x : ℕ) (lt : k < length xs) (is : x ≡ get_or xs k x) where
  pub near_more : (to b c : Box) → x < length b → c ≡ set b x (at to x) → Nears to (drop k xs) b → Nears to (drop (k + 1) xs) c
  near_more to b c inside e near =
      let split : drop k xs ≡ x ∷ drop (k + 1) xs = drop_more xs k x lt ∙ ap (λ (y : ℕ). y ∷ drop (k + 1) xs) (sym is) in
      subst (Nears to (drop (k + 1) xs)) (sym e) (near_one to b (drop (k + 1) xs) x inside (subst (λ (ys : List ℕ). Nears to ys b) split near))

  pub free_more : (first b c : Box) → c ≡ set b x None → b ≡ freed first (take k xs) → c ≡ freed first (take (k + 1) xs)
  free_more first b c e h =
      e ∙ ap (λ (a : Box). set a x None) h ∙ sym (freed_append first (take k xs) (x ∷ [])) ∙ ap (freed first) (sym (take_more xs k x lt ∙ ap (λ (y : ℕ). take k xs ++ y ∷ []) (sym is)))

pub near_last : (to b : Box) → length b ≡ length to → Nears to [] b → b ≡ to
near_last to b len near = ext_get_or None b to len (λ v lt. by v (near v))
  where
    by : (v : ℕ) → (at b v ≡ at to v) ⊎ ⊥ → at b v ≡ at to v
    by v (inl e) = e
    by v (inr none_left) = absurd none_left
