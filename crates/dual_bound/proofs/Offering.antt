-- What is offered for crossing rows is no less than what each of them gains.
use Rattle.std.proofs.Common.{◌≡◌, ℕ, zero, suc, ◌+◌, ◌*◌, ◌<◌, ◌≤◌, ◌⊎◌, inl, inr, Bool, true, false, ◌||◌, List, [], ◌∷◌, length, get_or, Option, ltb, leb, ℤ, pos, ◌+ℤ◌, ◌-ℤ◌, ◌*ℤ◌, ◌≤ℤ◌, arith, add-one, refl, sym, ◌∙◌, ap, subst}
use Rattle.std.specs.Prelude.{◌==◌}
use Rattle.std.specs.Int.{int_max}
use borrow.Author.Differences.{ints}
use Rattle.std.proofs.lemmas.Bool.{and_parts, ltb-true, leb-true, eqb-true}
use Rattle.proof_trees.specs.Program.{where_set}
use Rattle.proof_trees.specs.Boxes.{Box, at}
use Rattle.zero_one_rows.specs.Chains.{is_chain, pairs_of}
use Rattle.zero_one_rows.specs.declared.program.Row.{Row}
use Rattle.zero_one_rows.specs.declared.program.Row.TheVariants.{Flow, Start, Cell, Support, Twenty, Block, Hatch, Weight, Apart, Cross}
use Rattle.zero_one_rows.specs.Variables.{Voyage, calls, variables, var}
use Rattle.zero_one_rows.specs.Crossing.{columns, tallest, length_of, is_length, is_crossing, crosses, crossing_side}
use Rattle.zero_one_rows.specs.Rows.{whole, is_base, bit}
use Rattle.crossing_pricing.specs.declared.pairs.PairSides.{PairSides}
use Rattle.crossing_pricing.specs.declared.pairs.PairTable.{PairTable}
use Rattle.crossing_pricing.specs.Gaps.{number_at, gap}
use Rattle.dual_bound.specs.Costs.{gaps_of}
use Rattle.crossing_pricing.specs.Pairs.{price_of_all, AreParts, AreSides, ArePairs, AreGained}
use Rattle.crossing_pricing.specs.Climbs.{over_pairs, Climb, worth_at, AreWorths}
use Rattle.dual_bound.specs.CrossGains.{gain_of, pair_gain}
use Rattle.dual_bound.proofs.Summing.{sum_same}
use Rattle.dual_bound.proofs.Pricing.{gap_none}
use Rattle.dual_bound.proofs.CrossSums.{chain_climbs, floor_of, gain_by_pairs}

-- ## What pairs bring

unit_is : (s : Bool) (o : Option Bool) (d : ℤ) → gap o d (pos 1 *ℤ bit s) ≡ where_set s (gap o d (pos 1))
unit_is true o d = refl
unit_is false o d = gap_none o d (pos 0) refl

pairs_on : (f g : ℕ → ℕ → ℤ) (last floor i d : ℕ) (qs : List (ℕ × ℕ)) → Climb last floor i d qs → last ≤ 12 → floor ≤ last → ((i d : ℕ) → i ≤ 12 → d ≤ 12 → f i d ≡ g i d) → over_pairs f qs ≡ over_pairs g qs
pairs_on f g last floor i d [] c l k h = refl
pairs_on f g last floor i d (q ∷ qs) c l k h =
    let here : f q.0 q.1 ≡ g q.0 q.1 = h q.0 q.1 (omega (arith, c.1)) (omega (arith, c.3)) in
    let rest = pairs_on f g last floor (suc q.0) (suc q.1) qs c.4 l k h in
    omega (arith, ints, here, rest)

pub worths_are : (m : Voyage) (l price from n : ℕ) (b : Box) (ds : List ℤ) (keys : List ℕ) (xs gaps : List ℤ) → AreParts m l price xs → AreGained b ds keys n gaps → n ≤ 200000 → from + 169 ≤ 338 → AreWorths xs gaps from
worths_are m l price from n b ds keys xs gaps parts gains few low = record {
  sides_len = parts.len;
  gaps_len = omega (arith, gains.len);
  sides_low = parts.low;
  gaps_low = λ k lt. omega (arith, gains.low k lt);
}

module _ (m : Voyage) (b : Box) (ds : List ℤ) (keys : List ℕ) (gaps : List ℤ) (gains : AreGained b ds keys (length (variables m)) gaps) where
  -- what the variables of a pair gain
  gaps_at : (l price from i d : ℕ) → from + (13 * i + d) < 338 → ((v : ℕ) → v < length (variables m) → (get_or keys v 0 == from + (13 * i + d)) ≡ crosses m l (i ∷ d ∷ []) (var m v))
      → number_at gaps (from + (13 * i + d)) ≡ gaps_of m b ds (Cross l price (i ∷ d ∷ [])) (pos 1)
  gaps_at l price from i d lt keyed =
      gains.each (from + (13 * i + d)) lt
      ∙ sum_same (length (variables m)) (λ v. where_set (get_or keys v 0 == from + (13 * i + d)) (gap (at b v) (number_at ds v) (pos 1))) (λ v. gap (at b v) (number_at ds v) (pos 1 *ℤ bit (crosses m l (i ∷ d ∷ []) (var m v))))
      (λ v v_lt. ap (λ (s : Bool). where_set s (gap (at b v) (number_at ds v) (pos 1))) (keyed v v_lt) ∙ sym (unit_is (crosses m l (i ∷ d ∷ []) (var m v)) (at b v) (number_at ds v)))

  turned : (x y z g s : ℤ) → s ≡ x +ℤ z → g ≡ y → s +ℤ g ≡ (x +ℤ y) +ℤ z
  turned x y z g s e h = omega (arith, ints)

  worth_is : (l price from i d : ℕ) (xs : List ℤ) → AreParts m l price xs → i ≤ 12 → d ≤ 12 → from + 169 ≤ 338
      → ((v : ℕ) → v < length (variables m) → (get_or keys v 0 == from + (13 * i + d)) ≡ crosses m l (i ∷ d ∷ []) (var m v))
      → worth_at xs gaps from i d ≡ pair_gain m b ds l price i d
  worth_is l price from i d xs parts il dl low keyed =
      turned (crossing_side m l price (i ∷ d ∷ [])) (gaps_of m b ds (Cross l price (i ∷ d ∷ [])) (pos 1)) (price_of_all m l price) (number_at gaps (from + (13 * i + d))) (number_at xs (13 * i + d))
      (parts.each i d il dl) (gaps_at l price from i d (omega arith) keyed)

  -- ## The rows of a length

  module _ (l from : ℕ) (s : PairSides) (sides : AreSides m l s) (low : from + 169 ≤ 338) (few : calls m ≤ 12)
      (keyed : (v : ℕ) → v < length (variables m) → (i d : ℕ) → i ≤ 12 → d ≤ 12 → (get_or keys v 0 == from + (13 * i + d)) ≡ crosses m l (i ∷ d ∷ []) (var m v))
      (gain : ℤ)
      (most : (q floor : ℕ) (qs : List (ℕ × ℕ)) → q < length s.prices → floor ≤ calls m → Climb (calls m) floor 0 floor qs → 2 ≤ length qs
      → (over_pairs (worth_at (get_or s.prices q []) gaps from) qs -ℤ pos ((q + 1) * s.columns)) ≤ℤ gain) where
    at_index : (q : ℕ) (c : List ℕ) → q < length s.prices → is_chain (calls m) c ≡ true → gain_of m b ds (Cross l (q + 1) c) ≤ℤ gain
    at_index q c lt chain =
        let are = chain_climbs (calls m) c chain in
        let xs : List ℤ = get_or s.prices q [] in
        let same : over_pairs (worth_at xs gaps from) (pairs_of c) ≡ over_pairs (pair_gain m b ds l (q + 1)) (pairs_of c) =
        pairs_on (worth_at xs gaps from) (pair_gain m b ds l (q + 1)) (calls m) (floor_of c) 0 (floor_of c) (pairs_of c) are.climb few are.floor
        (λ i d il dl. worth_is l (q + 1) from i d xs (sides.each q lt) il dl low (λ v v_lt. keyed v v_lt i d il dl)) in
        let price : pos ((q + 1) * s.columns) ≡ price_of_all m l (q + 1) = ap (λ (n : ℕ). pos ((q + 1) * n)) sides.columns in
        let is : gain_of m b ds (Cross l (q + 1) c) ≡ over_pairs (worth_at xs gaps from) (pairs_of c) -ℤ pos ((q + 1) * s.columns) =
        gain_by_pairs m b ds l (q + 1) c are ∙ ap (λ (z : ℤ). z -ℤ price_of_all m l (q + 1)) (sym same) ∙ ap (λ (z : ℤ). over_pairs (worth_at xs gaps from) (pairs_of c) -ℤ z) (sym price) in
        subst (λ (z : ℤ). z ≤ℤ gain) (sym is) (most q (floor_of c) (pairs_of c) lt are.floor are.climb are.two)

    at_price : (p : ℕ) (c : List ℕ) → 0 < p → p ≤ tallest m.ship (length_of l) → is_chain (calls m) c ≡ true → gain_of m b ds (Cross l p c) ≤ℤ gain
    at_price zero c lo hi chain = absurd (omega arith)
    at_price (suc q) c lo hi chain = subst (λ (p : ℕ). gain_of m b ds (Cross l p c) ≤ℤ gain) (add-one q) (at_index q c (omega (arith, sides.tallest)) chain)

    pub of_length : (p : ℕ) (c : List ℕ) → is_crossing m l p c ≡ true → gain_of m b ds (Cross l p c) ≤ℤ gain
    of_length p c h =
        let a = and_parts (is_length l) _ h in
        let e = and_parts (ltb 0 (columns m.ship (length_of l))) _ a.1 in
        let f = and_parts (ltb 0 p) _ e.1 in
        let g = and_parts (leb p (tallest m.ship (length_of l))) (is_chain (calls m) c) f.1 in
        at_price p c (ltb-true _ _ f.0) (leb-true _ _ g.0) g.1

-- ## All crossing rows

more_left : (x a b g : ℤ) → g ≡ int_max a b → x ≤ℤ a → x ≤ℤ g
more_left x a b g e h = grind (arith, ints)

more_right : (x a b g : ℤ) → g ≡ int_max a b → x ≤ℤ b → x ≤ℤ g
more_right x a b g e h = grind (arith, ints)

before_or_at : (a n : ℕ) → a < n + 1 → (a < n) ⊎ (a ≡ n)
before_or_at a n h = grind arith

-- one more price
pub offered_more : (f : ℕ → ℤ) (n q : ℕ) (old here new : ℤ) → new ≡ int_max old here → (q < n → f q ≤ℤ old) → f n ≤ℤ here → q < n + 1 → f q ≤ℤ new
offered_more f n q old here new e before at_n lt = by (before_or_at q n lt)
  where
    by : (q < n) ⊎ (q ≡ n) → f q ≤ℤ new
    by (inl h) = more_left (f q) old here new e (before h)
    by (inr h) = more_right (f q) old here new e (subst (λ (k : ℕ). f k ≤ℤ here) (sym h) at_n)

one_of : (a b : Bool) → (a || b) ≡ true → (a ≡ true) ⊎ (b ≡ true)
one_of true b h = inl refl
one_of false b h = inr h

pub all_crossing : (m : Voyage) (b : Box) (ds : List ℤ) (gain : ℤ) → ((p : ℕ) (c : List ℕ) → is_crossing m 20 p c ≡ true → gain_of m b ds (Cross 20 p c) ≤ℤ gain) → ((p : ℕ) (c : List ℕ) → is_crossing m 40 p c ≡ true → gain_of m b ds (Cross 40 p c) ≤ℤ gain)
    → (r : Row) → is_base r ≡ false → (whole m).has r ≡ true → gain_of m b ds r ≤ℤ gain
all_crossing m b ds gain short long (Flow q i g) e h = absurd (let bad : ⊥ = cc in bad)
all_crossing m b ds gain short long (Start q p) e h = absurd (let bad : ⊥ = cc in bad)
all_crossing m b ds gain short long (Cell i k) e h = absurd (let bad : ⊥ = cc in bad)
all_crossing m b ds gain short long (Support i k) e h = absurd (let bad : ⊥ = cc in bad)
all_crossing m b ds gain short long (Twenty i k) e h = absurd (let bad : ⊥ = cc in bad)
all_crossing m b ds gain short long (Block j k) e h = absurd (let bad : ⊥ = cc in bad)
all_crossing m b ds gain short long (Hatch w j k d) e h = absurd (let bad : ⊥ = cc in bad)
all_crossing m b ds gain short long (Weight i k) e h = absurd (let bad : ⊥ = cc in bad)
all_crossing m b ds gain short long (Apart i e p q) f h = absurd (let bad : ⊥ = cc in bad)
all_crossing m b ds gain short long (Cross l p c) e h =
    by l h (one_of (l == 20) (l == 40) (and_parts (is_length l) _ h).0)
  where
    by : (l : ℕ) → is_crossing m l p c ≡ true → ((l == 20) ≡ true) ⊎ ((l == 40) ≡ true) → gain_of m b ds (Cross l p c) ≤ℤ gain
    by l h (inl k) = let s : l ≡ 20 = eqb-true _ _ k in subst (λ (f : ℕ). gain_of m b ds (Cross f p c) ≤ℤ gain) (sym s) (short p c (subst (λ (f : ℕ). is_crossing m f p c ≡ true) s h))
    by l h (inr k) = let s : l ≡ 40 = eqb-true _ _ k in subst (λ (f : ℕ). gain_of m b ds (Cross f p c) ≤ℤ gain) (sym s) (long p c (subst (λ (f : ℕ). is_crossing m f p c ≡ true) s h))

abbrev pub IsOffer : Voyage → PairSides → List ℤ → ℕ → ℕ → ℤ → Type 0
IsOffer m s gaps from last gain = (q floor : ℕ) (qs : List (ℕ × ℕ)) → q < length s.prices → floor ≤ last → Climb last floor 0 floor qs → 2 ≤ length qs
    → (over_pairs (worth_at (get_or s.prices q []) gaps from) qs -ℤ pos ((q + 1) * s.columns)) ≤ℤ gain

pub best_of_lengths : (m : Voyage) (b : Box) (ds gaps : List ℤ) (t : PairTable) (last : ℕ) (short long gain : ℤ) → ArePairs m t → AreGained b ds t.keys (length (variables m)) gaps → last ≡ calls m → calls m ≤ 12
    → gain ≡ int_max short long → IsOffer m t.short gaps 0 last short → IsOffer m t.long gaps 169 last long
    → (r : Row) → is_base r ≡ false → (whole m).has r ≡ true → gain_of m b ds r ≤ℤ gain
best_of_lengths m b ds gaps t last short long gain pairs gains is few most of_short of_long =
    let s : IsOffer m t.short gaps 0 (calls m) short = subst (λ (n : ℕ). IsOffer m t.short gaps 0 n short) is of_short in
    let l : IsOffer m t.long gaps 169 (calls m) long = subst (λ (n : ℕ). IsOffer m t.long gaps 169 n long) is of_long in
    all_crossing m b ds gain
    (of_length m b ds t.keys gaps gains 20 0 t.short pairs.short (omega arith) few (λ v lt i d il dl. (pairs.keys.each v (omega (arith, pairs.keys.len))).short i d il dl) gain
    (λ q floor qs lt fl c two. more_left _ short long gain most (s q floor qs lt fl c two)))
    (of_length m b ds t.keys gaps gains 40 169 t.long pairs.long (omega arith) few (λ v lt i d il dl. (pairs.keys.each v (omega (arith, pairs.keys.len))).long i d il dl) gain
    (λ q floor qs lt fl c two. more_right _ short long gain most (l q floor qs lt fl c two)))
