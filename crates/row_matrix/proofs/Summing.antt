-- Sums over all variables, and over some of them.
use Rattle.std.proofs.Common.{◌≡◌, ◌≢◌, ℕ, zero, suc, ◌+◌, ◌*◌, ◌<◌, ◌≤◌, ◌⊎◌, inl, inr, Bool, true, false, ◌||◌, List, [], ◌∷◌, length, take, get_or, ℤ, pos, ◌+ℤ◌, arith, refl, sym, ◌∙◌, ap, add-one}
use Rattle.std.specs.Prelude.{nat_eq}
use Rattle.std.specs.List.{AllPairs, list_any}
use Rattle.std.specs.Int.RustNames.{unsigned_abs}
use borrow.Author.Differences.{ints}
use Rattle.std.proofs.lemmas.Bool.Decides.{eqb_tells, nat_tests}
use Rattle.std.proofs.lemmas.List.{get_or-take, length-take}
use Rattle.std.proofs.lemmas.List.Folds.{list_any_none, list_any_more}
use Rattle.std.proofs.lemmas.Grind.{common_steps}
use Rattle.proof_trees.specs.Program.{sum_to, where_set}

pub same_or_other : (a b : ℕ) → (a ≡ b) ⊎ (a ≢ b)
same_or_other a b = elim (eqb_tells a b) [ inl h ↦ inl h.1 | inr h ↦ inr h.1 ]

pub unequal : (a b : ℕ) → a ≢ b → nat_eq a b ≡ false
unequal a b h = grind (arith, nat_tests)

pub equal : (a : ℕ) → nat_eq a a ≡ true
equal a = grind (arith, nat_tests)

or_true : (a : Bool) → (a || true) ≡ true
or_true true = refl
or_true false = refl

or_false : (a : Bool) → (a || false) ≡ a
or_false true = refl
or_false false = refl

pub sum_same : (n : ℕ) (f g : ℕ → ℤ) → ((v : ℕ) → v < n → f v ≡ g v) → sum_to n f ≡ sum_to n g
sum_same zero f g h = refl
sum_same (suc n) f g h = let e : sum_to n f ≡ sum_to n g = sum_same n f g (λ v p. h v (omega arith)) in let k : f n ≡ g n = h n (omega arith) in cc

-- two sums that differ at one place
module _ (f g : ℕ → ℤ) (a : ℕ) (same : (v : ℕ) → v ≢ a → f v ≡ g v) where
  one_more : (n : ℕ) → a < suc n → (a < n → sum_to n f +ℤ g a ≡ sum_to n g +ℤ f a) → (n ≡ a) ⊎ (n ≢ a) → sum_to (suc n) f +ℤ g a ≡ sum_to (suc n) g +ℤ f a
  one_more n lt below (inl here) =
      let low : sum_to n f ≡ sum_to n g = sum_same n f g (λ v v_lt. same v (omega arith)) in
      let e : f n ≡ f a = ap f here in
      let k : g n ≡ g a = ap g here in
      omega (arith, ints)
  one_more n lt below (inr other) = omega (arith, ints, below (omega arith), same n other)

  pub sum_one : (n : ℕ) → a < n → sum_to n f +ℤ g a ≡ sum_to n g +ℤ f a
  sum_one zero lt = absurd (omega arith)
  sum_one (suc n) lt = one_more n lt (λ lt'. sum_one n lt') (same_or_other n a)

pub sum_size : (n low : ℕ) (f : ℕ → ℤ) → ((v : ℕ) → v < n → unsigned_abs (f v) ≤ low) → unsigned_abs (sum_to n f) ≤ n * low
sum_size zero low f h = omega arith
sum_size (suc n) low f h =
    let below : unsigned_abs (sum_to n f) ≤ n * low = sum_size n low f (λ v lt. h v (omega arith)) in
    let here : unsigned_abs (f n) ≤ low = h n (omega arith) in
    let m : suc n * low ≡ n * low + low = grind arith in
    omega (arith, ints)

pub sum_to_more : (n : ℕ) (f : ℕ → ℤ) → sum_to (n + 1) f ≡ sum_to n f +ℤ f n
sum_to_more n f = rw add-one refl

pub get_or_any : {X : Type 0} (xs : List X) (i : ℕ) (d e : X) → i < length xs → get_or xs i d ≡ get_or xs i e
get_or_any [] i d e lt = absurd (omega arith)
get_or_any (y ∷ xs) zero d e lt = refl
get_or_any (y ∷ xs) (suc i) d e lt = get_or_any xs i d e (omega arith)

pub all_taken : {X : Type 0} (xs : List X) (k : ℕ) → length xs ≤ k → take k xs ≡ xs
all_taken xs k le = grind (arith, common_steps)

pub any_here : (xs : List ℕ) (i v : ℕ) → i < length xs → v ≡ get_or xs i 0 → list_any (nat_eq v) (take (i + 1) xs) ≡ true
any_here xs i v lt same = list_any_more (nat_eq v) xs i 0 lt ∙ ap (λ (b : Bool). list_any (nat_eq v) (take i xs) || b) (ap (λ (w : ℕ). nat_eq v w) (sym same) ∙ equal v) ∙ or_true (list_any (nat_eq v) (take i xs))

pub any_there : (xs : List ℕ) (i v : ℕ) → i < length xs → v ≢ get_or xs i 0 → list_any (nat_eq v) (take (i + 1) xs) ≡ list_any (nat_eq v) (take i xs)
any_there xs i v lt other = list_any_more (nat_eq v) xs i 0 lt ∙ ap (λ (b : Bool). list_any (nat_eq v) (take i xs) || b) (unequal v (get_or xs i 0) other) ∙ or_false (list_any (nat_eq v) (take i xs))

pub apart : (xs : List ℕ) (i : ℕ) → AllPairs (λ v w. v ≢ w) xs → i < length xs → list_any (nat_eq (get_or xs i 0)) (take i xs) ≡ false
apart xs i once lt = list_any_none (nat_eq (get_or xs i 0)) (take i xs) (λ k d k_lt.
    let below : k < i = omega (arith, length-take i xs) in
    let inside : k < length xs = omega arith in
    rw (get_or-take, get_or_any xs k d 0 inside) (unequal (get_or xs i 0) (get_or xs k 0) (λ e. once k i 0 below lt (sym e))))

-- the sum over the first i of these variables
abbrev pub sum_of_first : ℕ → (ℕ → ℤ) → List ℕ → ℕ → ℤ
sum_of_first n f xs i = sum_to n (λ v. where_set (list_any (nat_eq v) (take i xs)) (f v))

pub none_yet : (n : ℕ) (f : ℕ → ℤ) (xs : List ℕ) → sum_of_first n f xs 0 ≡ pos 0
none_yet zero f xs = refl
none_yet (suc n) f xs = omega (arith, ints, none_yet n f xs)

one_further : (n : ℕ) (f : ℕ → ℤ) (xs : List ℕ) (i : ℕ) → AllPairs (λ v w. v ≢ w) xs → i < length xs → get_or xs i 0 < n → sum_of_first n f xs (i + 1) ≡ sum_of_first n f xs i +ℤ f (get_or xs i 0)
one_further n f xs i once lt inside =
    let new : ℕ → ℤ = λ v. where_set (list_any (nat_eq v) (take (i + 1) xs)) (f v) in
    let old : ℕ → ℤ = λ v. where_set (list_any (nat_eq v) (take i xs)) (f v) in
    let s : sum_to n new +ℤ old (get_or xs i 0) ≡ sum_to n old +ℤ new (get_or xs i 0) = sum_one new old (get_or xs i 0) (λ v other. ap (λ (b : Bool). where_set b (f v)) (any_there xs i v lt other)) n inside in
    let a : new (get_or xs i 0) ≡ f (get_or xs i 0) = ap (λ (b : Bool). where_set b (f (get_or xs i 0))) (any_here xs i (get_or xs i 0) lt refl) in
    let o : old (get_or xs i 0) ≡ pos 0 = ap (λ (b : Bool). where_set b (f (get_or xs i 0))) (apart xs i once lt) in
    omega (arith, ints)

pub further : (n : ℕ) (f : ℕ → ℤ) (xs : List ℕ) (i x : ℕ) (y total : ℤ) → AllPairs (λ v w. v ≢ w) xs → i < length xs → x ≡ get_or xs i 0 → x < n → y ≡ f x → total ≡ sum_of_first n f xs i +ℤ y → total ≡ sum_of_first n f xs (i + 1)
further n f xs i x y total once lt here inside is e =
    let inside' : get_or xs i 0 < n = omega arith in
    let y_is : y ≡ f (get_or xs i 0) = is ∙ ap f here in
    omega (arith, ints, one_further n f xs i once lt inside')

where_small : (b : Bool) (z : ℤ) (low : ℕ) → unsigned_abs z ≤ low → unsigned_abs (where_set b z) ≤ low
where_small true z low h = h
where_small false z low h = omega arith

pub first_small : (n low : ℕ) (f : ℕ → ℤ) (xs : List ℕ) (i : ℕ) → ((v : ℕ) → v < n → unsigned_abs (f v) ≤ low) → unsigned_abs (sum_of_first n f xs i) ≤ n * low
first_small n low f xs i h = sum_size n low (λ v. where_set (list_any (nat_eq v) (take i xs)) (f v)) (λ v lt. where_small (list_any (nat_eq v) (take i xs)) (f v) low (h v lt))

-- all of them: those that are left out bring nothing
pub all_of : (n : ℕ) (f : ℕ → ℤ) (xs : List ℕ) → ((v : ℕ) → v < n → list_any (nat_eq v) xs ≡ false → f v ≡ pos 0) → sum_to n (λ v. where_set (list_any (nat_eq v) xs) (f v)) ≡ sum_to n f
all_of n f xs none = sum_same n (λ v. where_set (list_any (nat_eq v) xs) (f v)) f (λ v lt. by v (list_any (nat_eq v) xs) (none v lt))
  where
    by : (v : ℕ) (b : Bool) → (b ≡ false → f v ≡ pos 0) → where_set b (f v) ≡ f v
    by v true h = refl
    by v false h = sym (h refl)

pub one_more_of : (n : ℕ) (f : ℕ → ℤ) (total more result : ℤ) → total ≡ sum_to n f → more ≡ f n → result ≡ total +ℤ more → result ≡ sum_to (n + 1) f
one_more_of n f total more result e k h = omega (arith, ints, sum_to_more n f)
