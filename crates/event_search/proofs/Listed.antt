-- What a list holds at a place, before it and from there.
use Rattle.std.proofs.Common.{◌≡◌, Bool, true, false, ℕ, zero, suc, ◌+◌, ◌<◌, List, [], ◌∷◌, All, map, take, drop, length, get_or, refl, sym, subst, ◌∙◌, ap, add-one, arith}
use Rattle.std.proofs.Math.Seq.{drop-cons}
use Rattle.std.proofs.lemmas.List.{get_or-map, length-map}
use Rattle.std.proofs.lemmas.List.Elements.{All-cons, All-nil}

module _ {A : Type 0} (xs : List A) (k : ℕ) (x : A) (lt : k < length xs) (is : x ≡ get_or xs k x) where
  pub rest_cons : drop k xs ≡ x ∷ drop (k + 1) xs
  rest_cons = rw (add-one, drop-cons xs k x) (ap (λ (y : A). y ∷ drop (suc k) xs) (sym is))

  pub here_all : (P : A → Type 0) → All P xs → P x
  here_all P h = subst P (sym is) (h k x lt)

-- what lies inside doesn't depend on what stands for nothing
pub default_any : {A : Type 0} (xs : List A) (k : ℕ) (d e : A) → k < length xs → get_or xs k d ≡ get_or xs k e
default_any [] k d e lt = absurd (omega arith)
default_any (x ∷ xs) zero d e lt = refl
default_any (x ∷ xs) (suc k) d e lt = default_any xs k d e (omega arith)

pub all_map : {A B : Type 0} (f : A → B) (P : B → Type 0) (xs : List A) → All P (map f xs) → All (λ x. P (f x)) xs
all_map f P xs h = λ k d lt. subst P (get_or-map f xs k d (f d) lt) (h k (f d) (let n : length (map f xs) ≡ length xs = length-map xs f in omega arith))

pub all_mapped : {A B : Type 0} (f : A → B) (P : B → Type 0) (xs : List A) → All (λ x. P (f x)) xs → All P (map f xs)
all_mapped f P [] h = All-nil P
all_mapped f P (x ∷ xs) h = All-cons P (f x) (map f xs) (h zero x (omega arith)) (all_mapped f P xs (λ k d lt. h (suc k) d (omega arith)))

take_length : {A : Type 0} (xs : List A) → take (length xs) xs ≡ xs
take_length [] = refl
take_length (x ∷ xs) = ap (λ (ys : List _). x ∷ ys) (take_length xs)

pub take_all : {A : Type 0} (xs : List A) (n : ℕ) → n ≡ length xs → take n xs ≡ xs
take_all xs n is = ap (λ (k : ℕ). take k xs) is ∙ take_length xs

-- no test answers both ways
pub never : (b : Bool) → b ≡ false → b ≡ true → ⊥
never b e h = let no : false ≡ true = sym e ∙ h in cc
