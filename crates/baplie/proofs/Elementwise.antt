-- Two elements, compared component by component.
use Rattle.std.proofs.Common.{◌≡◌, ◌∙◌, ℕ, suc, ◌≤◌, ◌<◌, ◌&&◌, List, [], ◌∷◌, Bool, true, false, length, slice_index_or, arith, ap, sym, refl}
use Prim.Native.Nat.{zero}
use Rattle.std.specs.Bool.{MatchBool}
use Rattle.baplie.specs.Segments.{same_element, same_text}

and_false : (b : Bool) → (b && false) ≡ false
and_false true = refl
and_false false = refl

-- what a comparison of two components answers
abbrev pub answers : List (List ℕ) → List (List ℕ) → Bool → ℕ → Type 0
answers xs ys answer k = same_text (slice_index_or xs k []) (slice_index_or ys k []) ≡ answer

all_same : (xs ys : List (List ℕ)) → length xs ≡ length ys → ((k : ℕ) → k < length xs → answers xs ys true k) → same_element xs ys ≡ true
all_same [] [] e h = refl
all_same [] (y ∷ ys) e h = absurd (omega arith)
all_same (x ∷ xs) [] e h = absurd (omega arith)
all_same (x ∷ xs) (y ∷ ys) e h = ap (λ c. c && same_element xs ys) (h 0 (omega arith)) ∙ all_same xs ys (omega arith) (λ k l. h (suc k) (omega arith))

one_other : (xs ys : List (List ℕ)) (k : ℕ) → k < length xs → length xs ≡ length ys → answers xs ys false k → same_element xs ys ≡ false
one_other [] ys k l e h = absurd (omega arith)
one_other (x ∷ xs) [] k l e h = absurd (omega arith)
one_other (x ∷ xs) (y ∷ ys) zero l e h = ap (λ c. c && same_element xs ys) h
one_other (x ∷ xs) (y ∷ ys) (suc k) l e h = ap (λ c. same_text x y && c) (one_other xs ys k (omega arith) (omega arith) h) ∙ and_false (same_text x y)

pub told : (xs ys : List (List ℕ)) (r : Bool) (n : ℕ) → n ≡ length xs → length xs ≡ length ys → MatchBool r ((k : ℕ) → 0 ≤ k → k < n → answers xs ys true k) ((k : ℕ) × (0 ≤ k) × (k < n) × answers xs ys false k) → r ≡ same_element xs ys
told xs ys true n is long h = sym (all_same xs ys long (λ k l. h k (omega arith) (omega (arith, l, is))))
told xs ys false n is long h = sym (one_other xs ys h.0 (omega (arith, h.2, is)) long h.3)
