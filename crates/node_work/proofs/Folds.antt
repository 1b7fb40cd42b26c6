-- What a list holds at a place, and what is left from there.
use Rattle.std.proofs.Common.{◌≡◌, ℕ, zero, suc, ◌+◌, ◌<◌, List, [], ◌∷◌, All, length, drop, get_or, refl, sym, subst, ap, add-one, arith}
use Rattle.std.proofs.Math.Seq.{drop-cons}

module _ {A : Type 0} (xs : List A) (k : ℕ) (x : A) (lt : k < length xs) (is : x ≡ get_or xs k x) where
  pub rest_cons : drop k xs ≡ x ∷ drop (k + 1) xs
  rest_cons = rw (add-one, drop-cons xs k x) (ap (λ (y : A). y ∷ drop (suc k) xs) (sym is))

  pub here_all : (P : A → Type 0) → All P xs → P x
  here_all P h = subst P (sym is) (h k x lt)

-- what lies inside doesn't depend on what stands for nothing
pub default_any : {A : Type 0} (xs : List A) (k : ℕ) (d e : A) → k < length xs → get_or xs k d ≡ get_or xs k e
default_any [] k d e lt = absurd (omega arith)
default_any (x ∷ xs) zero d e lt = refl
default_any (x ∷ xs) (suc k) d e lt = default_any xs k d e (omega arith)
