-- What pairs bring, filled in one by one.
use Rattle.std.proofs.Common.{◌≡◌, ◌≢◌, set, sum, mul-le-mul, ◌-ℤ◌, ℕ, zero, suc, ◌+◌, ◌*◌, ◌/◌, ◌%◌, ◌<◌, ◌≤◌, ◌^◌, ◌⊎◌, inl, inr, Bool, true, false, List, [], ◌∷◌, ◌++◌, length, get_or, replicate, ℤ, pos, ◌+ℤ◌, arith, add-one, refl, sym, ◌∙◌, ap, subst}
use Rattle.std.specs.Prelude.{◌==◌}
use Rattle.std.specs.List.{sum_by}
use Rattle.std.proofs.lemmas.Bool.Decides.{eqb_tells}
use Rattle.std.proofs.lemmas.List.{get_or-set_same, get_or-set_other}
use Rattle.std.proofs.lemmas.List.Sums.{sum_by-cons, count_by-le-length}
use Rattle.zero_one_rows.specs.Gains.{gain, greatest_to, best_gain}
use Rattle.zero_one_rows.proofs.Signed.{unsigned_side}
use Rattle.stow_data.specs.Ship.{Ship}
use Rattle.stow_data.specs.Shipment.{Cargo}
use Rattle.zero_one_rows.specs.Crossing.{columns, tallest, length_of, load_of, is_of_load, crossing_side}
use Rattle.std.specs.Int.RustNames.{unsigned_abs}
use borrow.Author.Differences.{ints}
use Rattle.proof_trees.specs.Program.{sum_to, where_set}
use Rattle.proof_trees.specs.Boxes.{Box, at}
use Rattle.zero_one_rows.specs.Variables.{Voyage}
use Rattle.crossing_pricing.specs.Gaps.{number_at, gap}
use Rattle.crossing_pricing.specs.Pairs.{own_part, AreParts, AreGained}

-- a sum with one more
sum_to_more : (n : ℕ) (f : ℕ → ℤ) → sum_to (n + 1) f ≡ sum_to n f +ℤ f n
sum_to_more n f = rw add-one refl

set_small : (s : Bool) (z : ℤ) → unsigned_abs (where_set s z) ≤ unsigned_abs z
set_small true z = omega arith
set_small false z = omega arith

pub gained_more : (b : Box) (ds : List ℤ) (keys : List ℕ) (n : ℕ) (gaps gaps' : List ℤ) (key : ℕ) (gain : ℤ) → AreGained b ds keys n gaps → length gaps' ≡ 338
    → ((j : ℕ) → j < 338 → number_at gaps' j ≡ number_at gaps j +ℤ where_set (key == j) gain) → key ≡ get_or keys n 0 → gain ≡ gap (at b n) (number_at ds n) (pos 1) → unsigned_abs gain ≤ 1 → AreGained b ds keys (n + 1) gaps'
gained_more b ds keys n gaps gaps' key gain gains len each is is' small = record {
  len = len;
  each = λ j lt.
      let f : ℕ → ℤ = λ v. where_set (get_or keys v 0 == j) (gap (at b v) (number_at ds v) (pos 1)) in
      let here : where_set (key == j) gain ≡ f n = ap (λ (k : ℕ). where_set (k == j) gain) is ∙ ap (λ (z : ℤ). where_set (get_or keys n 0 == j) z) is' in
      omega (arith, ints, each j lt, gains.each j lt, here, sum_to_more n f);
  low = λ j lt.
      let lt' : j < 338 = omega arith in
      omega (arith, ints, each j lt', gains.low j (omega (arith, gains.len)), set_small (key == j) gain, small);
}

zeros : (n j : ℕ) → number_at (replicate n (pos 0)) j ≡ pos 0
zeros zero j = refl
zeros (suc n) zero = refl
zeros (suc n) (suc j) = zeros n j

pub gained_none : (b : Box) (ds : List ℤ) (keys : List ℕ) (gaps : List ℤ) → gaps ≡ replicate 338 (pos 0) → length gaps ≡ 338 → AreGained b ds keys 0 gaps
gained_none b ds keys gaps is len = record {
  len = len;
  each = λ j lt. ap (λ (xs : List ℤ). number_at xs j) is ∙ zeros 338 j;
  low = λ j lt. let z : number_at gaps j ≡ pos 0 = ap (λ (xs : List ℤ). number_at xs j) is ∙ zeros 338 j in omega (arith, ints, z);
}

pub zeros_low : (n k size : ℕ) → unsigned_abs (number_at (replicate n (pos 0)) k) ≤ size
zeros_low n k size = rw (zeros n k) (omega arith)

-- ## What is written into a list of numbers

same_or_other : (a b : ℕ) → (a ≡ b) ⊎ (a ≢ b)
same_or_other a b = elim (eqb_tells a b) [ inl h ↦ inl h.1 | inr h ↦ inr h.1 ]

pub put_each : (P : ℕ → ℤ → Type 0) (xs : List ℤ) (n : ℕ) (z : ℤ) → n < length xs → ((k : ℕ) → k < n → P k (number_at xs k)) → P n z → (k : ℕ) → k < n + 1 → P k (number_at (set xs n z) k)
put_each P xs n z lt each here k k_lt = by (same_or_other k n)
  where
    by : (k ≡ n) ⊎ (k ≢ n) → P k (number_at (set xs n z) k)
    by (inl s) = subst (λ i. P i (number_at (set xs n z) i)) (sym s) (subst (λ y. P n y) (sym (get_or-set_same xs n z (pos 0) lt)) here)
    by (inr o) = subst (λ y. P k y) (sym (get_or-set_other xs n k z (pos 0) o)) (each k (omega arith))

pub put_all : (P : ℤ → Type 0) (size : ℕ) (xs : List ℤ) (n : ℕ) (z : ℤ) → n < length xs → ((k : ℕ) → k < size → P (number_at xs k)) → P z → (k : ℕ) → k < size → P (number_at (set xs n z) k)
put_all P size xs n z lt all here k k_lt = by (same_or_other k n)
  where
    by : (k ≡ n) ⊎ (k ≢ n) → P (number_at (set xs n z) k)
    by (inl s) = subst (λ i. P (number_at (set xs n z) i)) (sym s) (subst (λ y. P y) (sym (get_or-set_same xs n z (pos 0) lt)) here)
    by (inr o) = subst (λ y. P y) (sym (get_or-set_other xs n k z (pos 0) o)) (all k k_lt)

-- ## What a pair brings is no more than its load

gain_low : (n height price load : ℕ) → greatest_to n (gain height price load) ≤ load
gain_low zero height price load = grind arith
gain_low (suc n) height price load = let r = gain_low n height price load in let g : gain height price load (suc n) ≤ load = grind arith in grind (arith, r, g)

own_of : (t kept all total gains : ℕ) (side : ℤ) → side ≡ pos total -ℤ pos (all + gains) → total ≡ t + 0 → gains ≡ kept + 0 → kept ≤ t → unsigned_abs (side +ℤ pos all) ≤ t
own_of t kept all total gains side e f g h = omega (arith, ints)

pub own_low : (m : Voyage) (l price i d : ℕ) → length m.cargo.containers < 2 ^ 32 → unsigned_abs (own_part m l price i d) ≤ 2 ^ 32
own_low m l price i d few =
    let t : ℕ = load_of m (length_of l) i d in
    let many : ℕ = columns m.ship (length_of l) in
    let high : ℕ = tallest m.ship (length_of l) in
    let n = count_by-le-length (is_of_load (length_of l) i d) m.cargo.containers in
    let own : unsigned_abs (own_part m l price i d) ≤ t = own_of t (best_gain many high price t) (price * many) (sum (t ∷ [])) (sum_by (best_gain many high price) (t ∷ [])) (crossing_side m l price (i ∷ d ∷ []))
    (unsigned_side (t ∷ []) many high price) (sum_by-cons (λ (y : ℕ). y) t []) (sum_by-cons (best_gain many high price) t []) (gain_low many high price t) in
    omega (arith, own, n, few)

pub side_low : (m : Voyage) (l price i d n : ℕ) → length m.cargo.containers < 2 ^ 32 → n ≡ columns m.ship (length_of l) → n ≤ 3000 → price ≤ 39 → unsigned_abs (crossing_side m l price (i ∷ d ∷ [])) ≤ 2 ^ 36
side_low m l price i d n few is low p =
    let own = own_low m l price i d few in
    let few_columns : columns m.ship (length_of l) ≤ 3000 = omega (arith, is, low) in
    let cost : price * columns m.ship (length_of l) ≤ 39 * 3000 = mul-le-mul p few_columns in
    taken (crossing_side m l price (i ∷ d ∷ [])) (price * columns m.ship (length_of l)) own cost
  where
    taken : (side : ℤ) (all : ℕ) → unsigned_abs (side +ℤ pos all) ≤ 2 ^ 32 → all ≤ 39 * 3000 → unsigned_abs side ≤ 2 ^ 36
    taken side all h k = omega (arith, ints)

pub voyage_is : (m : Voyage) (ship : Ship) (cargo : Cargo) → ship ≡ m.ship → cargo ≡ m.cargo → record { ship = ship; cargo = cargo } ≡ m
voyage_is m ship cargo e f =
    let both : (s : Ship) (k : Cargo) → Voyage = λ s k. record { ship = s; cargo = k } in
    ap (λ (s : Ship). both s cargo) e ∙ ap (λ (k : Cargo). both m.ship k) f

quotient : (i d : ℕ) → d ≤ 12 → (13 * i + d) / 13 ≡ i
quotient i d h = omega arith

rest : (i d : ℕ) → d ≤ 12 → (13 * i + d) % 13 ≡ d
rest i d h = omega arith

pub parts_whole : (m : Voyage) (l price n : ℕ) (xs : List ℤ) → length xs ≡ 169 → 169 ≤ n → ((k : ℕ) → k < n → number_at xs k ≡ own_part m l price (k / 13) (k % 13)) → ((k : ℕ) → k < 169 → unsigned_abs (number_at xs k) ≤ 2 ^ 37) → AreParts m l price xs
parts_whole m l price n xs len all each low = record {
  len = len;
  each = λ i d il dl. each (13 * i + d) (omega arith) ∙ ap (λ (k : ℕ). own_part m l price k ((13 * i + d) % 13)) (quotient i d dl) ∙ ap (λ (k : ℕ). own_part m l price i k) (rest i d dl);
  low = λ k lt. low k (omega arith);
}

-- one more item at the end of a list
pub at_front : {X : Type 0} (xs : List X) (y d : X) (k : ℕ) → k < length xs → get_or (xs ++ y ∷ []) k d ≡ get_or xs k d
at_front [] y d k lt = absurd (omega arith)
at_front (x ∷ xs) y d zero lt = refl
at_front (x ∷ xs) y d (suc k) lt = at_front xs y d k (omega arith)

pub at_end : {X : Type 0} (xs : List X) (y d : X) (k : ℕ) → k ≡ length xs → get_or (xs ++ y ∷ []) k d ≡ y
at_end [] y d zero e = refl
at_end [] y d (suc k) e = absurd (omega arith)
at_end (x ∷ xs) y d zero e = absurd (omega arith)
at_end (x ∷ xs) y d (suc k) e = at_end xs y d k (omega arith)

front_or_end : (k n : ℕ) → k < n + 1 → (k < n) ⊎ (k ≡ n)
front_or_end k n lt = grind arith

-- a fact of each item, by its number
pub each_more : {X : Type 0} (P : ℕ → X → Type 0) (xs ys : List X) (y d : X) (n : ℕ) → length xs ≡ n → ys ≡ xs ++ y ∷ [] → ((k : ℕ) → k < n → P k (get_or xs k d)) → P n y → (k : ℕ) → k < n + 1 → P k (get_or ys k d)
each_more P xs ys y d n len e each here k lt = subst (λ zs. P k (get_or zs k d)) (sym e) (by (front_or_end k n lt))
  where
    by : (k < n) ⊎ (k ≡ n) → P k (get_or (xs ++ y ∷ []) k d)
    by (inl h) = subst (λ z. P k z) (sym (at_front xs y d k (omega arith))) (each k h)
    by (inr h) = subst (λ z. P k z) (sym (at_end xs y d k (h ∙ sym len))) (subst (λ i. P i y) (sym h) here)
