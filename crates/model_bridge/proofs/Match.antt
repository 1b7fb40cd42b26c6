-- Two lists with as many of each kind are matched, kind by kind.
use Rattle.std.proofs.Common.{◌≡◌, ℕ, zero, suc, ◌<◌, Bool, true, false, cond, List, [], ◌∷◌, ◌++◌, ℤ, pos, ◌+ℤ◌, ◌≤ℤ◌, arith, refl, sym, ap, ⊎_elim}
use Rattle.std.specs.Prelude.{◌==◌}
use Rattle.std.proofs.lemmas.Bool.{cases_eq, eq-eqb, ne_eqb}
use borrow.Author.Differences.{ints}
use Rattle.proof_trees.specs.Program.{sum_to, where_set}
use Rattle.zero_one_rows.specs.Rows.{bit}

-- the sum of w over a list
abbrev pub total : {X : Type 0} → (X → ℤ) → List X → ℤ
total w [] = pos 0
total w (x ∷ xs) = w x +ℤ total w xs

pub total_append : {X : Type 0} (w : X → ℤ) (xs ys : List X) → total w (xs ++ ys) ≡ total w xs +ℤ total w ys
total_append w [] ys = omega (arith, ints)
total_append w (x ∷ xs) ys = omega (arith, ints, total_append w xs ys)

-- each one of the list
abbrev pub Each : {X : Type 0} → (X → Type 0) → List X → Type 0
Each P [] = Unit {0}
Each P (x ∷ xs) = P x × Each P xs

pub each_append : {X : Type 0} (P : X → Type 0) (xs ys : List X) → Each P xs → Each P ys → Each P (xs ++ ys)
each_append P [] ys h k = k
each_append P (x ∷ xs) ys h k = (h.0, each_append P xs ys h.1 k)

pub same_total : {X : Type 0} (P : X → Type 0) (f g : X → ℤ) (xs : List X) → Each P xs → ((x : X) → P x → f x ≡ g x) → total f xs ≡ total g xs
same_total P f g [] each h = refl
same_total P f g (x ∷ xs) each h = omega (arith, ints, same_total P f g xs each.1 h, h x each.0)

pub plus_total : {X : Type 0} (f g : X → ℤ) (xs : List X) → total (λ x. f x +ℤ g x) xs ≡ total f xs +ℤ total g xs
plus_total f g [] = refl
plus_total f g (x ∷ xs) = omega (arith, ints, plus_total f g xs)

-- how many have kind g
abbrev pub many : (ℕ → ℕ) → ℕ → List ℕ → ℤ
many k g xs = total (λ x. bit (k x == g)) xs

bit_low : (b : Bool) → pos 0 ≤ℤ bit b
bit_low true = omega (arith, ints)
bit_low false = omega (arith, ints)

many_low : (k : ℕ → ℕ) (g : ℕ) (xs : List ℕ) → pos 0 ≤ℤ many k g xs
many_low k g [] = omega (arith, ints)
many_low k g (x ∷ xs) = omega (arith, ints, many_low k g xs, bit_low (k x == g))

-- one of kind g taken out
record IsTaken (k : ℕ → ℕ) (Q : ℕ → Type 0) (g : ℕ) (xs : List ℕ) : Type 0 where
  taken : ℕ
  rest : List ℕ
  is_kind : k taken ≡ g
  is_good : Q taken
  rest_good : Each Q rest
  total_is : (w : ℕ → ℤ) → total w xs ≡ w taken +ℤ total w rest

take_out : (k : ℕ → ℕ) (Q : ℕ → Type 0) (g : ℕ) (xs : List ℕ) → Each Q xs → pos 1 ≤ℤ many k g xs → IsTaken k Q g xs
take_out k Q g [] each h = absurd (omega (arith, ints))
take_out k Q g (x ∷ xs) each h = ⊎_elim
    (λ (e : k x ≡ g). record { taken = x; rest = xs; is_kind = e; is_good = each.0; rest_good = each.1; total_is = λ w. refl })
    (λ (ne : k x ≡ g → ⊥).
    let z : bit (k x == g) ≡ pos 0 = ap bit (ne_eqb (k x) g ne) in
    let r = take_out k Q g xs each.1 (omega (arith, ints)) in
    record { taken = r.taken; rest = x ∷ r.rest; is_kind = r.is_kind; is_good = r.is_good; rest_good = (each.0, r.rest_good); total_is = λ w. omega (arith, ints, r.total_is w) })
    (cases_eq (k x) g)

-- pairs, of which the first ones are xa, and the second ones are xb, up to their order
pub record IsMatched (ka kb : ℕ → ℕ) (P Q : ℕ → Type 0) (xa xb : List ℕ) : Type 0 where
  pub pairs : List (ℕ × ℕ)
  pub firsts : (w : ℕ → ℤ) → total (λ (e : ℕ × ℕ). w e.0) pairs ≡ total w xa
  pub seconds : (w : ℕ → ℤ) → total (λ (e : ℕ × ℕ). w e.1) pairs ≡ total w xb
  pub each : Each (λ (e : ℕ × ℕ). P e.0 × Q e.1 × (ka e.0 ≡ kb e.1)) pairs

none_left : (kb : ℕ → ℕ) (xb : List ℕ) → ((g : ℕ) → many kb g xb ≡ pos 0) → (w : ℕ → ℤ) → total w xb ≡ pos 0
none_left kb [] h w = refl
none_left kb (b ∷ xb) h w = absurd (let one : bit (kb b == kb b) ≡ pos 1 = ap bit (eq-eqb (kb b) (kb b) refl) in omega (arith, ints, h (kb b), many_low kb (kb b) xb))

pub matched : (ka kb : ℕ → ℕ) (P Q : ℕ → Type 0) (xa xb : List ℕ) → Each P xa → Each Q xb → ((g : ℕ) → many ka g xa ≡ many kb g xb) → IsMatched ka kb P Q xa xb
matched ka kb P Q [] xb p q h = record { pairs = []; firsts = λ w. refl; seconds = λ w. sym (none_left kb xb (λ g. sym (h g)) w); each = tt }
matched ka kb P Q (a ∷ xa) xb p q h =
    let one : bit (ka a == ka a) ≡ pos 1 = ap bit (eq-eqb (ka a) (ka a) refl) in
    let t = take_out kb Q (ka a) xb q (omega (arith, ints, h (ka a), many_low ka (ka a) xa)) in
    let same : (g : ℕ) → bit (kb t.taken == g) ≡ bit (ka a == g) = λ g. ap (λ (x : ℕ). bit (x == g)) t.is_kind in
    let r = matched ka kb P Q xa t.rest p.1 t.rest_good (λ g. omega (arith, ints, h g, t.total_is (λ x. bit (kb x == g)), same g)) in
    record {
      pairs = (a, t.taken) ∷ r.pairs;
      firsts = λ w. omega (arith, ints, r.firsts w);
      seconds = λ w. omega (arith, ints, r.seconds w, t.total_is w);
      each = ((p.0, t.is_good, sym t.is_kind), r.each);
    }

-- the numbers below n that pass
abbrev pub picked : (ℕ → Bool) → ℕ → List ℕ
picked t zero = []
picked t (suc n) = cond (t n) (n ∷ picked t n) (picked t n)

picked_step : (b : Bool) (n : ℕ) (ns : List ℕ) (w : ℕ → ℤ) → total w (cond b (n ∷ ns) ns) ≡ total w ns +ℤ where_set b (w n)
picked_step true n ns w = omega (arith, ints)
picked_step false n ns w = omega (arith, ints)

pub total_picked : (t : ℕ → Bool) (n : ℕ) (w : ℕ → ℤ) → total w (picked t n) ≡ sum_to n (λ k. where_set (t k) (w k))
total_picked t zero w = refl
total_picked t (suc n) w = omega (arith, ints, picked_step (t n) n (picked t n) w, total_picked t n w)

each_step : (P : ℕ → Type 0) (b : Bool) (n : ℕ) (ns : List ℕ) → (b ≡ true → P n) → Each P ns → Each P (cond b (n ∷ ns) ns)
each_step P true n ns h each = (h refl, each)
each_step P false n ns h each = each

pub each_picked : (P : ℕ → Type 0) (t : ℕ → Bool) (n : ℕ) → ((k : ℕ) → k < n → t k ≡ true → P k) → Each P (picked t n)
each_picked P t zero h = tt
each_picked P t (suc n) h = each_step P (t n) n (picked t n) (λ e. h n (omega arith) e) (each_picked P t n (λ k l e. h k (omega arith) e))

pub each_more : {X : Type 0} (P Q : X → Type 0) (xs : List X) → ((x : X) → P x → Q x) → Each P xs → Each Q xs
each_more P Q [] h each = tt
each_more P Q (x ∷ xs) h each = (h x each.0, each_more P Q xs h each.1)
