-- How long the lines of a certificate are: each of at most 80 bytes, where its row is one of the program.
use Rattle.std.proofs.Common.{◌≡◌, ℕ, suc, ◌+◌, ◌*◌, ◌^◌, ◌<◌, ◌≤◌, inl, inr, true, ◌&&◌, List, [], ◌∷◌, ◌++◌, length, codes, refl, ap, ◌∙◌, arith, nat_lt, nat_le, ◌==◌}
use Rattle.std.specs.Fmt.{decimal}
use Rattle.std.proofs.lemmas.Fmt.{length-decimal-le}
use Rattle.std.proofs.lemmas.List.{length-append}
use Rattle.std.proofs.lemmas.List.Concat.{flat_map-cons}
use Rattle.std.proofs.lemmas.Bool.{and_parts, or_cases, eqb-true}
use borrow.Author.Tests.{leb-true, ltb-true}
use Rattle.stow_data.specs.Ship.{halves, places}
use Rattle.stow_data.proofs.Listed.{halves_few}
use Rattle.stow_data.proofs.KindLemmas.{kinds_few}
use Rattle.zero_one_rows.specs.declared.program.Row.{Row}
use Rattle.zero_one_rows.specs.declared.program.Row.TheVariants.{Flow, Start, Cell, Support, Twenty, Block, Hatch, Weight, Apart, Cross}
use Rattle.zero_one_rows.specs.Chains.{rises}
use Rattle.zero_one_rows.specs.Variables.{Voyage, calls, all_kinds}
use Rattle.zero_one_rows.specs.Rows.{has, is_call, is_half, is_place}
use Rattle.zero_one_rows.specs.Crossing.{is_length}
use Rattle.zero_one_rows.proofs.Sizes.{in_range}
use Rattle.certificate.specs.Text.{numbers, row_text}
use Rattle.model_bridge.specs.Laws.{IsProblem}
use Rattle.search_core.specs.Bags.{Every}

-- ## Numbers

-- a number below 2^32 with the space before it
short_number : (n : ℕ) → n < 2 ^ 32 → length (32 ∷ decimal n) ≤ 11
short_number n h =
    let d : length (decimal n) ≤ 10 = length-decimal-le 10 n (omega arith) (omega (arith, h)) (omega (arith, h)) in
    omega (arith, d)

two_digits : (n : ℕ) → n < 100 → length (32 ∷ decimal n) ≤ 3
two_digits n h =
    let d : length (decimal n) ≤ 2 = length-decimal-le 2 n (omega arith) (omega (arith, h)) (omega (arith, h)) in
    omega (arith, d)

numbers_more : (n : ℕ) (ns : List ℕ) → length (numbers (n ∷ ns)) ≡ length (32 ∷ decimal n) + length (numbers ns)
numbers_more n ns = ap (λ (t : List ℕ). length t) (flat_map-cons (λ (k : ℕ). 32 ∷ decimal k) n ns) ∙ length-append (32 ∷ decimal n) (numbers ns)

pub short_numbers : (ns : List ℕ) → Every (λ (n : ℕ). n < 2 ^ 32) ns → length (numbers ns) ≤ length ns * 11
short_numbers [] h = omega arith
short_numbers (n ∷ ns) h =
    let one = short_number n h.0 in
    let rest = short_numbers ns h.1 in
    let both = numbers_more n ns in
    omega (arith, one, rest, both)

-- ## Rows

-- four numbers at most
row_of_four : (f : List ℕ) (ns : List ℕ) → length f ≤ 7 → length ns ≤ 4 → Every (λ (n : ℕ). n < 2 ^ 32) ns → length (f ++ numbers ns) ≤ 51
row_of_four f ns hf hn h =
    let a = length-append f (numbers ns) in
    let b = short_numbers ns h in
    omega (arith, a, b, hf, hn)

-- a rising list of numbers below 14
rising_short : (low end : ℕ) (c : List ℕ) → low ≤ end → end ≤ 13 → rises low end c ≡ true → (length c + low ≤ end) × (length (numbers c) ≤ length c * 3)
rising_short low end [] from to h = (omega (arith, from), omega arith)
rising_short low end (x ∷ xs) from to h =
    let a = and_parts (nat_le low x) (nat_lt x end && rises (suc x) end xs) h in
    let b = and_parts (nat_lt x end) (rises (suc x) end xs) a.1 in
    let up = leb-true low x a.0 in
    let down = ltb-true x end b.0 in
    let rest = rising_short (suc x) end xs (omega (arith, down)) to b.1 in
    let one = two_digits x (omega (arith, down, to)) in
    let both = numbers_more x xs in
    (omega (arith, rest.0, up), omega (arith, rest.1, one, both))

is_foot : (l : ℕ) → is_length l ≡ true → l < 100
is_foot l h = elim (or_cases (l == 20) (l == 40) h) [
  | inl e ↦ let same = eqb-true l 20 e in omega (arith, same)
  | inr e ↦ let same = eqb-true l 40 e in omega (arith, same)
]

cross_short : (l p : ℕ) (c : List ℕ) → l < 100 → p < 100 → length c ≤ 13 → length (numbers c) ≤ length c * 3 → length (codes "cross" ++ numbers (l ∷ p ∷ c)) ≤ 51
cross_short l p c hl hp few long =
    let f : length (codes "cross") ≡ 5 = refl in
    let a = length-append (codes "cross") (numbers (l ∷ p ∷ c)) in
    let b = numbers_more l (p ∷ c) in
    let d = numbers_more p c in
    omega (arith, f, a, b, d, two_digits l hl, two_digits p hp, few, long)

module _ (m : Voyage) (rules : IsProblem m) where
  calls_low : calls m < 2 ^ 32
  calls_low = omega (arith, rules.cargo.calls_to)

  call_low : (i : ℕ) → is_call m i ≡ true → i < 2 ^ 32
  call_low i h = let a = ltb-true i (calls m) (and_parts (nat_lt 0 i) (nat_lt i (calls m)) h).1 in omega (arith, a, rules.cargo.calls_to)

  halves_low : length (halves m.ship) < 2 ^ 32
  halves_low = omega (arith, halves_few m.ship, rules.ship.few_places)

  pub places_low : length (places m.ship) < 2 ^ 32
  places_low = omega (arith, rules.ship.few_places)

  pub kinds_low : length (all_kinds m) < 2 ^ 32
  kinds_low = omega (arith, kinds_few m.ship.weight_step m.cargo.containers, rules.cargo.few_containers)

  half_low : (h : ℕ) → is_half m h ≡ true → h < 2 ^ 32
  half_low h e = let a = ltb-true h (length (halves m.ship)) e in omega (arith, a, halves_low)

  place_low : (p : ℕ) → is_place m p ≡ true → p < 2 ^ 32
  place_low p e = let a = ltb-true p (length (places m.ship)) e in omega (arith, a, places_low)

  bit_low : (q : ℕ) → nat_lt q 2 ≡ true → q < 2 ^ 32
  bit_low q e = let a = ltb-true q 2 e in omega (arith, a)

  -- the text of a row of the program
  pub row_short : (r : Row) → has m r ≡ true → length (row_text r) ≤ 51
  row_short (Flow q i g) h =
      let f : length (codes "flow") ≡ 4 = refl in
      let a = and_parts (nat_lt q 2) _ h in
      let b = and_parts (is_call m i) _ a.1 in
      let n = in_range m (Flow q i g) rules.ship h in
      row_of_four (codes "flow") (q ∷ i ∷ g ∷ []) (omega (arith, f)) (omega arith) (bit_low q a.0, (call_low i b.0, (omega (arith, n, kinds_low), tt)))
  row_short (Start q p) h =
      let f : length (codes "start") ≡ 5 = refl in
      let a = and_parts (nat_lt q 2) _ h in
      let n = in_range m (Start q p) rules.ship h in
      let each = rules.arrives.well_formed.each_place in
      row_of_four (codes "start") (q ∷ p ∷ []) (omega (arith, f)) (omega arith) (bit_low q a.0, (omega (arith, n, each, places_low), tt))
  row_short (Cell i k) h =
      let f : length (codes "cell") ≡ 4 = refl in
      let a = and_parts (is_call m i) _ h in
      row_of_four (codes "cell") (i ∷ k ∷ []) (omega (arith, f)) (omega arith) (call_low i a.0, (half_low k a.1, tt))
  row_short (Support i k) h =
      let f : length (codes "support") ≡ 7 = refl in
      let a = and_parts (is_call m i) _ h in
      let b = and_parts (is_half m k) _ a.1 in
      row_of_four (codes "support") (i ∷ k ∷ []) (omega (arith, f)) (omega arith) (call_low i a.0, (half_low k b.0, tt))
  row_short (Twenty i k) h =
      let f : length (codes "twenty") ≡ 6 = refl in
      let a = and_parts (is_call m i) _ h in
      let b = and_parts (is_half m k) _ a.1 in
      row_of_four (codes "twenty") (i ∷ k ∷ []) (omega (arith, f)) (omega arith) (call_low i a.0, (half_low k b.0, tt))
  row_short (Block j k) h =
      let f : length (codes "block") ≡ 5 = refl in
      let a = and_parts (is_call m j) _ h in
      let b = and_parts (is_half m k) _ a.1 in
      row_of_four (codes "block") (j ∷ k ∷ []) (omega (arith, f)) (omega arith) (call_low j a.0, (half_low k b.0, tt))
  row_short (Hatch w j k d) h =
      let f : length (codes "hatch") ≡ 5 = refl in
      let a = and_parts (nat_lt w 2) _ h in
      let b = and_parts (is_call m j) _ a.1 in
      let e = and_parts (is_half m k) _ b.1 in
      let g = and_parts (is_half m d) _ e.1 in
      row_of_four (codes "hatch") (w ∷ j ∷ k ∷ d ∷ []) (omega (arith, f)) (omega arith) (bit_low w a.0, (call_low j b.0, (half_low k e.0, (half_low d g.0, tt))))
  row_short (Weight i k) h =
      let f : length (codes "weight") ≡ 6 = refl in
      let a = and_parts (is_call m i) _ h in
      let n = in_range m (Weight i k) rules.ship h in
      row_of_four (codes "weight") (i ∷ k ∷ []) (omega (arith, f)) (omega arith) (call_low i a.0, (omega (arith, n, rules.ship.few_stacks), tt))
  row_short (Apart i e p q) h =
      let f : length (codes "apart") ≡ 5 = refl in
      let a = and_parts (is_call m i) _ h in
      let n = in_range m (Apart i e p q) rules.ship h in
      row_of_four (codes "apart") (i ∷ e ∷ p ∷ q ∷ []) (omega (arith, f)) (omega arith) (call_low i a.0, (omega (arith, n.0, rules.ship.few_separations), (omega (arith, n.1, places_low), (omega (arith, n.2, places_low), tt))))
  row_short (Cross l p c) h =
      let a = and_parts (is_length l) _ h in
      let b = and_parts (nat_lt 0 _) _ a.1 in
      let d = and_parts (nat_lt 0 p) _ b.1 in
      let e = and_parts (nat_le p _) _ d.1 in
      let chain = and_parts (rises 0 (calls m + 1) c) _ e.1 in
      let n = in_range m (Cross l p c) rules.ship h in
      let up = rising_short 0 (calls m + 1) c (omega arith) (omega (arith, rules.cargo.calls_to)) chain.0 in
      cross_short l p c (is_foot l a.0) (omega (arith, n)) (omega (arith, up.0, rules.cargo.calls_to)) up.1
