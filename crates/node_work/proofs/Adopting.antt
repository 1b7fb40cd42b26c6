-- A box goes on to another one by the variables that are fixed there besides.
use Rattle.std.proofs.Common.{◌≡◌, ℕ, zero, suc, ◌+◌, ◌<◌, ◌⊎◌, inl, inr, Bool, All, List, [], ◌∷◌, Option, Some, None, length, get_or, set, refl, sym, subst, ◌∙◌, ap, arith}
use Rattle.std.proofs.lemmas.List.{ext_get_or, length-set, get_or-set_same, get_or-set_other, set-get_or}
use Rattle.std.specs.Prelude.{slice_get}
use Rattle.std.proofs.lemmas.Option.{get_or_from_slice_get}
use Rattle.zero_one_rows.specs.declared.program.Row.{Row}
use Rattle.zero_one_rows.specs.Variables.{Voyage}
use Rattle.proof_trees.specs.Boxes.{Box, at}
use Rattle.proof_trees.specs.Multipliers.{Multipliers}
use Rattle.dual_bound.specs.Gauging.{Gauging}
use Rattle.partial_plan.specs.Fixing.{freed, Fixes}
use Rattle.partial_plan.proofs.Freeing.{freed_length}
use Rattle.node_work.specs.Adopting.{or_else, adopted, adopted_all}

pub length_back : (b c : Box) (xs : List ℕ) → freed c xs ≡ b → length c ≡ length b
length_back b c xs h = sym (freed_length c xs) ∙ ap (λ (d : Box). length d) h

same_or_not : (v x : ℕ) → (v ≡ x) ⊎ (v ≡ x → ⊥)
same_or_not zero zero = inl refl
same_or_not zero (suc x) = inr (λ e. omega (arith, e))
same_or_not (suc v) zero = inr (λ e. omega (arith, e))
same_or_not (suc v) (suc x) = elim (same_or_not v x) [ inl e ↦ inl (ap suc e) | inr n ↦ inr (λ e. n (omega (arith, e))) ]

-- the variable is one of these
abbrev Among : ℕ → List ℕ → Type 0
Among v [] = ⊥
Among v (x ∷ xs) = (v ≡ x) ⊎ Among v xs

-- the first box is as the second, but for some of these variables, which are free
abbrev Waits : Box → Box → List ℕ → Type 0
Waits b c xs = (v : ℕ) → (at b v ≡ at c v) ⊎ ((at b v ≡ None) × Among v xs)

unset_at : (c : Box) (x : ℕ) → at (set c x None) x ≡ None
unset_at [] x = refl
unset_at (z ∷ c) zero = refl
unset_at (z ∷ c) (suc x) = unset_at c x

freed_waits : (xs : List ℕ) (c : Box) → Waits (freed c xs) c xs
freed_waits [] c = λ v. inl refl
freed_waits (x ∷ xs) c = λ v. elim (freed_waits xs (set c x None) v) [
  | inl e ↦ elim (same_or_not v x) [
    | inl same ↦ inr (e ∙ ap (at (set c x None)) same ∙ unset_at c x, inl same)
    | inr other ↦ inl (e ∙ get_or-set_other c x v None None other)
  ]
  | inr h ↦ inr (h.0, inr h.1)
]

or_is : (o p : Option Bool) → (o ≡ p) ⊎ (o ≡ None) → or_else o p ≡ p
or_is None p h = refl
or_is (Some y) p h = elim h [ inl e ↦ e | inr e ↦ absurd (cc) ]

module _ (b c : Box) (x : ℕ) (xs : List ℕ) (lt : x < length b) (w : Waits b c (x ∷ xs)) where
  adopted_here : at (adopted b c x) x ≡ at c x
  adopted_here =
      get_or-set_same b x (or_else (at b x) (at c x)) None lt
      ∙ or_is (at b x) (at c x) (elim (w x) [ inl e ↦ inl e | inr h ↦ inr h.0 ])

  adopted_waits : Waits (adopted b c x) c xs
  adopted_waits = λ v. elim (same_or_not v x) [
    | inl same ↦ inl (ap (at (adopted b c x)) same ∙ adopted_here ∙ sym (ap (at c) same))
    | inr other ↦ elim (w v) [
      | inl e ↦ inl (get_or-set_other b x v (or_else (at b x) (at c x)) None other ∙ e)
      | inr h ↦ elim h.1 [
        | inl same ↦ absurd (other same)
        | inr more ↦ inr (get_or-set_other b x v (or_else (at b x) (at c x)) None other ∙ h.0, more)
      ]
    ]
  ]

adopted_is : (xs : List ℕ) (b c : Box) → length b ≡ length c → All (λ v. v < length b) xs → Waits b c xs → adopted_all b c xs ≡ c
adopted_is [] b c len inside w = ext_get_or None b c len (λ v lt. elim (w v) [ inl e ↦ e | inr h ↦ absurd h.1 ])
adopted_is (x ∷ xs) b c len inside w =
    let same : length (adopted b c x) ≡ length b = length-set b x (or_else (at b x) (at c x)) in
    adopted_is xs (adopted b c x) c (same ∙ len) (λ k d lt. (let h : get_or xs k d < length b = inside (suc k) d (omega arith) in omega (arith, same))) (adopted_waits b c x xs (inside 0 x (omega arith)) w)

-- by all of them
pub adopted_by : (b c : Box) (xs : List ℕ) → Fixes b c xs → adopted_all b c xs ≡ c
adopted_by b c xs h = adopted_is xs b c (sym (length_back b c xs h.back)) h.inside (subst (λ (d : Box). Waits d c xs) h.back (freed_waits xs c))

-- ## One variable

pub adopted_value : (b c : Box) (x : ℕ) (o p : Option Bool) → at b x ≡ o → at c x ≡ p → adopted b c x ≡ set b x (or_else o p)
adopted_value b c x o p here there = ap (λ (q : Option Bool). set b x (or_else q (at c x))) here ∙ ap (λ (q : Option Bool). set b x (or_else o q)) there

-- what is fixed stays
pub adopted_fixed : (b c : Box) (x : ℕ) (y : Bool) → at b x ≡ Some y → b ≡ adopted b c x
adopted_fixed b c x y here = sym (set-get_or b x None) ∙ ap (set b x) here ∙ sym (adopted_value b c x (Some y) (at c x) here refl)

-- what is free there stays too
pub adopted_free : (b c : Box) (x : ℕ) → at b x ≡ None → at c x ≡ None → b ≡ adopted b c x
adopted_free b c x here there = sym (set-get_or b x None) ∙ ap (set b x) here ∙ sym (adopted_value b c x None None here there)

-- ## A box that is set variable by variable

pub set_again : (b : Box) (x : ℕ) (o p : Option Bool) → set (set b x o) x p ≡ set b x p
set_again [] x o p = refl
set_again (z ∷ b) zero o p = refl
set_again (z ∷ b) (suc x) o p = ap (λ (c : Box). z ∷ c) (set_again b x o p)

pub set_itself : (b : Box) (x : ℕ) (o : Option Bool) → slice_get b x ≡ Some o → b ≡ set b x o
set_itself b x o is = sym (set-get_or b x None) ∙ ap (set b x) (get_or_from_slice_get b x o None is)

pub set_next : (g b : Box) (v : ℕ) (o : Option Bool) → v < length g → slice_get b v ≡ Some o → ((k : ℕ) → k < v → at g k ≡ at b k) → (k : ℕ) → k < v + 1 → at (set g v o) k ≡ at b k
set_next g b v o lt is same k below = elim (same_or_not k v) [
  | inl here ↦ ap (at (set g v o)) here ∙ get_or-set_same g v o None lt ∙ sym (get_or_from_slice_get b v o None is) ∙ sym (ap (at b) here)
  | inr other ↦ get_or-set_other g v k o None other ∙ same k (omega (arith, other))
]

pub gauging_is : (g h : Gauging) (b : Box) → g.voyage ≡ h.voyage → g.multipliers ≡ h.multipliers → length g.box ≡ length b → ((k : ℕ) → k < length b → at g.box k ≡ at b k) → g ≡ record h { box = b }
gauging_is g h b voyage multipliers len same =
    ap (λ (m : Voyage). record g { voyage = m }) voyage
    ∙ ap (λ (ms : Multipliers Row). record { voyage = h.voyage; box = g.box; multipliers = ms }) multipliers
    ∙ ap (λ (d : Box). record h { box = d }) (ext_get_or None g.box b len (λ k lt. same k (omega (arith, len))))
