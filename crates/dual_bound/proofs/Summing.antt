-- Sums over all variables, over some of them, and over multipliers.
use Rattle.std.proofs.Common.{◌≡◌, ◌≢◌, ℕ, zero, suc, ◌+◌, ◌*◌, ◌<◌, ◌≤◌, ◌⊎◌, inl, inr, Bool, true, false, ◌||◌, List, [], ◌∷◌, length, take, set, get_or, ℤ, pos, ◌+ℤ◌, ◌-ℤ◌, ◌*ℤ◌, arith, refl, sym, ◌∙◌, ap, subst}
use Rattle.std.specs.Prelude.{nat_eq}
use Rattle.std.specs.List.{AllPairs, list_any}
use Rattle.std.specs.Int.RustNames.{unsigned_abs}
use borrow.Author.Differences.{ints, up, down, sum_is_lem}
use Rattle.std.proofs.lemmas.Bool.Decides.{eqb_tells, nat_tests}
use Rattle.std.proofs.lemmas.Int.{unsigned_abs-mul}
use Rattle.std.proofs.lemmas.List.{get_or-set_same, get_or-set_other, get_or-take, length-take}
use Rattle.std.proofs.lemmas.List.Folds.{list_any_none, list_any_more}
use Rattle.proof_trees.specs.Program.{sum_to, where_set}
use Rattle.crossing_pricing.specs.Gaps.{number_at}
use Rattle.row_matrix.proofs.Summing.{sum_to_more}

-- ## Look-ups

pub read : {X : Type 0} (xs : List X) (i : ℕ) (x d : X) → i < length xs → x ≡ get_or xs i x → x ≡ get_or xs i d
read [] i x d lt e = absurd (omega arith)
read (y ∷ xs) zero x d lt e = e
read (y ∷ xs) (suc i) x d lt e = read xs i x d (omega arith) e

pub get_or_any : {X : Type 0} (xs : List X) (i : ℕ) (d e : X) → i < length xs → get_or xs i d ≡ get_or xs i e
get_or_any [] i d e lt = absurd (omega arith)
get_or_any (y ∷ xs) zero d e lt = refl
get_or_any (y ∷ xs) (suc i) d e lt = get_or_any xs i d e (omega arith)

pub same_or_other : (a b : ℕ) → (a ≡ b) ⊎ (a ≢ b)
same_or_other a b = elim (eqb_tells a b) [ inl h ↦ inl h.1 | inr h ↦ inr h.1 ]

pub unequal : (a b : ℕ) → a ≢ b → nat_eq a b ≡ false
unequal a b h = grind (arith, nat_tests)

pub equal : (a : ℕ) → nat_eq a a ≡ true
equal a = grind (arith, nat_tests)

or_true : (a : Bool) → (a || true) ≡ true
or_true true = refl
or_true false = refl

or_false : (a : Bool) → (a || false) ≡ a
or_false true = refl
or_false false = refl

-- ## Products

mul_le : (a b x y : ℕ) → a ≤ x → b ≤ y → a * b ≤ x * y
mul_le a b x y p q = grind arith

pub product_size : (a b : ℤ) (x y : ℕ) → unsigned_abs a ≤ x → unsigned_abs b ≤ y → unsigned_abs (a *ℤ b) ≤ x * y
product_size a b x y p q = rw (unsigned_abs-mul a b) (mul_le _ _ x y p q)

pub abs_sum : (a b : ℤ) → unsigned_abs (a +ℤ b) ≤ unsigned_abs a + unsigned_abs b
abs_sum a b = grind (arith, ints)

pub sum_times : (a b c : ℤ) → (a +ℤ b) *ℤ c ≡ a *ℤ c +ℤ b *ℤ c
sum_times a b c = omega (arith, ints, ap (λ (n : ℕ). n * up c) (sum_is_lem a b), ap (λ (n : ℕ). n * down c) (sum_is_lem a b))

-- ## Sums over all variables

pub sum_same : (n : ℕ) (f g : ℕ → ℤ) → ((v : ℕ) → v < n → f v ≡ g v) → sum_to n f ≡ sum_to n g
sum_same zero f g h = refl
sum_same (suc n) f g h = let e : sum_to n f ≡ sum_to n g = sum_same n f g (λ v p. h v (omega arith)) in let k : f n ≡ g n = h n (omega arith) in cc

pub sum_more : (n : ℕ) (f g h : ℕ → ℤ) → ((v : ℕ) → v < n → h v ≡ f v +ℤ g v) → sum_to n h ≡ sum_to n f +ℤ sum_to n g
sum_more zero f g h e = refl
sum_more (suc n) f g h e = omega (arith, ints, sum_more n f g h (λ v p. e v (omega arith)), e n (omega arith))

-- two sums that differ at one place
module _ (f g : ℕ → ℤ) (a : ℕ) (same : (v : ℕ) → v ≢ a → f v ≡ g v) where
  one_more : (n : ℕ) → a < suc n → (a < n → sum_to n f +ℤ g a ≡ sum_to n g +ℤ f a) → (n ≡ a) ⊎ (n ≢ a) → sum_to (suc n) f +ℤ g a ≡ sum_to (suc n) g +ℤ f a
  one_more n lt below (inl here) =
      let low : sum_to n f ≡ sum_to n g = sum_same n f g (λ v v_lt. same v (omega arith)) in
      let e : f n ≡ f a = ap f here in
      let k : g n ≡ g a = ap g here in
      omega (arith, ints)
  one_more n lt below (inr other) = omega (arith, ints, below (omega arith), same n other)

  pub sum_one : (n : ℕ) → a < n → sum_to n f +ℤ g a ≡ sum_to n g +ℤ f a
  sum_one zero lt = absurd (omega arith)
  sum_one (suc n) lt = one_more n lt (λ lt'. sum_one n lt') (same_or_other n a)

pub sum_size : (n low : ℕ) (f : ℕ → ℤ) → ((v : ℕ) → v < n → unsigned_abs (f v) ≤ low) → unsigned_abs (sum_to n f) ≤ n * low
sum_size zero low f h = omega arith
sum_size (suc n) low f h =
    let below : unsigned_abs (sum_to n f) ≤ n * low = sum_size n low f (λ v lt. h v (omega arith)) in
    let here : unsigned_abs (f n) ≤ low = h n (omega arith) in
    let m : suc n * low ≡ n * low + low = grind arith in
    omega (arith, ints)

-- one more variable of a sum
pub value_step : (n : ℕ) (f : ℕ → ℤ) (base total more result : ℤ) → total ≡ base +ℤ sum_to n f → more ≡ f n → result ≡ total +ℤ more → result ≡ base +ℤ sum_to (n + 1) f
value_step n f base total more result e k h = omega (arith, ints, sum_to_more n f)

-- ## Sums over the first variables of a list

pub any_here : (xs : List ℕ) (i v : ℕ) → i < length xs → v ≡ get_or xs i 0 → list_any (nat_eq v) (take (i + 1) xs) ≡ true
any_here xs i v lt same = list_any_more (nat_eq v) xs i 0 lt ∙ ap (λ (b : Bool). list_any (nat_eq v) (take i xs) || b) (ap (λ (w : ℕ). nat_eq v w) (sym same) ∙ equal v) ∙ or_true (list_any (nat_eq v) (take i xs))

pub any_there : (xs : List ℕ) (i v : ℕ) → i < length xs → v ≢ get_or xs i 0 → list_any (nat_eq v) (take (i + 1) xs) ≡ list_any (nat_eq v) (take i xs)
any_there xs i v lt other = list_any_more (nat_eq v) xs i 0 lt ∙ ap (λ (b : Bool). list_any (nat_eq v) (take i xs) || b) (unequal v (get_or xs i 0) other) ∙ or_false (list_any (nat_eq v) (take i xs))

pub apart : (xs : List ℕ) (i : ℕ) → AllPairs (λ v w. v ≢ w) xs → i < length xs → list_any (nat_eq (get_or xs i 0)) (take i xs) ≡ false
apart xs i once lt = list_any_none (nat_eq (get_or xs i 0)) (take i xs) (λ k d k_lt.
    let below : k < i = omega (arith, length-take i xs) in
    let inside : k < length xs = omega arith in
    rw (get_or-take, get_or_any xs k d 0 inside) (unequal (get_or xs i 0) (get_or xs k 0) (λ e. once k i 0 below lt (sym e))))

-- the sum over the first i of these variables
abbrev pub sum_of_first : ℕ → (ℕ → ℤ) → List ℕ → ℕ → ℤ
sum_of_first n f xs i = sum_to n (λ v. where_set (list_any (nat_eq v) (take i xs)) (f v))

pub none_yet : (n : ℕ) (f : ℕ → ℤ) (xs : List ℕ) → sum_of_first n f xs 0 ≡ pos 0
none_yet zero f xs = refl
none_yet (suc n) f xs = omega (arith, ints, none_yet n f xs)

one_further : (n : ℕ) (f : ℕ → ℤ) (xs : List ℕ) (i : ℕ) → AllPairs (λ v w. v ≢ w) xs → i < length xs → get_or xs i 0 < n → sum_of_first n f xs (i + 1) ≡ sum_of_first n f xs i +ℤ f (get_or xs i 0)
one_further n f xs i once lt inside =
    let new : ℕ → ℤ = λ v. where_set (list_any (nat_eq v) (take (i + 1) xs)) (f v) in
    let old : ℕ → ℤ = λ v. where_set (list_any (nat_eq v) (take i xs)) (f v) in
    let s : sum_to n new +ℤ old (get_or xs i 0) ≡ sum_to n old +ℤ new (get_or xs i 0) = sum_one new old (get_or xs i 0) (λ v other. ap (λ (b : Bool). where_set b (f v)) (any_there xs i v lt other)) n inside in
    let a : new (get_or xs i 0) ≡ f (get_or xs i 0) = ap (λ (b : Bool). where_set b (f (get_or xs i 0))) (any_here xs i (get_or xs i 0) lt refl) in
    let o : old (get_or xs i 0) ≡ pos 0 = ap (λ (b : Bool). where_set b (f (get_or xs i 0))) (apart xs i once lt) in
    omega (arith, ints)

pub further : (n : ℕ) (f : ℕ → ℤ) (xs : List ℕ) (i x : ℕ) (y total old : ℤ) → AllPairs (λ v w. v ≢ w) xs → i < length xs → x ≡ get_or xs i 0 → x < n → y ≡ f x → old ≡ sum_of_first n f xs i → total ≡ old +ℤ y → total ≡ sum_of_first n f xs (i + 1)
further n f xs i x y total old once lt here inside is was e =
    let inside' : get_or xs i 0 < n = omega arith in
    let y_is : y ≡ f (get_or xs i 0) = is ∙ ap f here in
    omega (arith, ints, one_further n f xs i once lt inside')

-- all of them: those that are left out bring nothing
pub all_of : (n : ℕ) (f : ℕ → ℤ) (xs : List ℕ) → ((v : ℕ) → v < n → list_any (nat_eq v) xs ≡ false → f v ≡ pos 0) → sum_to n (λ v. where_set (list_any (nat_eq v) xs) (f v)) ≡ sum_to n f
all_of n f xs none = sum_same n (λ v. where_set (list_any (nat_eq v) xs) (f v)) f (λ v lt. by v (list_any (nat_eq v) xs) (none v lt))
  where
    by : (v : ℕ) (b : Bool) → (b ≡ false → f v ≡ pos 0) → where_set b (f v) ≡ f v
    by v true h = refl
    by v false h = sym (h refl)

pub all_taken : {X : Type 0} (xs : List X) (i : ℕ) → length xs ≤ i → take i xs ≡ xs
all_taken [] zero le = refl
all_taken [] (suc i) le = refl
all_taken (x ∷ xs) zero le = absurd (omega arith)
all_taken (x ∷ xs) (suc i) le = let e : take i xs ≡ xs = all_taken xs i (omega arith) in cc

-- ## Parts taken from the first variables of a list

module _ (f : ℕ → ℤ) (from : List ℤ) (xs : List ℕ) (n : ℕ) where
  -- the first i variables have lost their part
  abbrev pub Lost : List ℤ → ℕ → Type 0
  Lost ws i = (v : ℕ) → v < n → number_at ws v ≡ number_at from v -ℤ where_set (list_any (nat_eq v) (take i xs)) (f v)

  pub fresh : (ws : List ℤ) (i x : ℕ) → AllPairs (λ v w. v ≢ w) xs → i < length xs → x ≡ get_or xs i 0 → x < n → Lost ws i → number_at ws x ≡ number_at from x
  fresh ws i x once lt here inside lost =
      let e : list_any (nat_eq x) (take i xs) ≡ false = subst (λ (y : ℕ). list_any (nat_eq y) (take i xs) ≡ false) (sym here) (apart xs i once lt) in
      omega (arith, ints, lost x inside, ap (λ (b : Bool). where_set b (f x)) e)

  more_at : (ws : List ℤ) (i x : ℕ) (y : ℤ) (v : ℕ) → length ws ≡ n → i < length xs → x ≡ get_or xs i 0 → x < n → Lost ws i → y ≡ number_at from x -ℤ f x → v < n
      → (v ≡ x) ⊎ (v ≢ x) → number_at (set ws x y) v ≡ number_at from v -ℤ where_set (list_any (nat_eq v) (take (i + 1) xs)) (f v)
  more_at ws i x y v len lt here inside lost is v_lt (inl same) =
      let h : x < length ws = omega arith in
      let t : list_any (nat_eq v) (take (i + 1) xs) ≡ true = any_here xs i v lt (same ∙ here) in
      rw (t, same, get_or-set_same ws x y (pos 0) h) is
  more_at ws i x y v len lt here inside lost is v_lt (inr other) =
      let t : list_any (nat_eq v) (take (i + 1) xs) ≡ list_any (nat_eq v) (take i xs) = any_there xs i v lt (λ e. other (e ∙ sym here)) in
      rw (t, get_or-set_other ws x v y (pos 0) other) (lost v v_lt)

  pub lost_more : (ws : List ℤ) (i x : ℕ) (y : ℤ) → AllPairs (λ v w. v ≢ w) xs → length ws ≡ n → i < length xs → x ≡ get_or xs i 0 → x < n → Lost ws i → y ≡ number_at ws x -ℤ f x → Lost (set ws x y) (i + 1)
  lost_more ws i x y once len lt here inside lost is =
      let y_is : y ≡ number_at from x -ℤ f x = is ∙ ap (λ (z : ℤ). z -ℤ f x) (fresh ws i x once lt here inside lost) in
      λ v v_lt. more_at ws i x y v len lt here inside lost y_is v_lt (same_or_other v x)

  pub lost_none : Lost from 0
  lost_none v lt = omega (arith, ints)
