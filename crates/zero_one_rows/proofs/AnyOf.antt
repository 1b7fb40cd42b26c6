-- A test of the numbers of a list's items is a test of its items.
use Rattle.std.proofs.Common.{◌≡◌, ◌∙◌, ℕ, suc, ◌≤◌, ◌<◌, ◌||◌, List, [], ◌∷◌, Bool, true, false, length, arith, ap, sym, refl, Some, slice_get}
use Prim.Native.Nat.{zero}
use Rattle.std.specs.Bool.{MatchBool}
use Rattle.std.specs.List.{list_any}

module _ {X : Type 0} (test : X → Bool) where
  or_true : (b : Bool) → (b || true) ≡ true
  or_true true = refl
  or_true false = refl

  some : (xs : List X) (k : ℕ) → k < length xs → ((x : X) → slice_get xs k ≡ Some x → test x ≡ true) → list_any test xs ≡ true
  some [] k l h = absurd (omega arith)
  some (y ∷ ys) zero l h = ap (λ b. b || list_any test ys) (h y refl)
  some (y ∷ ys) (suc k) l h = ap (λ b. test y || b) (some ys k (omega arith) h) ∙ or_true (test y)

  none : (xs : List X) → ((k : ℕ) → k < length xs → (x : X) → slice_get xs k ≡ Some x → test x ≡ false) → list_any test xs ≡ false
  none [] h = refl
  none (y ∷ ys) h = ap (λ b. b || list_any test ys) (h 0 (omega arith) y refl) ∙ none ys (λ k l x e. h (suc k) (omega arith) x e)

  pub tells_list_any : (xs : List X) (r : Bool) (n : ℕ) → n ≡ length xs
      → MatchBool r ((k : ℕ) × (0 ≤ k) × (k < n) × ((x : X) → slice_get xs k ≡ Some x → test x ≡ true)) ((k : ℕ) → 0 ≤ k → k < n → (x : X) → slice_get xs k ≡ Some x → test x ≡ false)
      → r ≡ list_any test xs
  tells_list_any xs true n e h = sym (some xs h.0 (omega (arith, h.2, e)) h.3)
  tells_list_any xs false n e h = sym (none xs (λ k l. h k (omega arith) (omega (arith, l, e))))
