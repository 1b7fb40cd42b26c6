-- The program of a made voyage has few rows.
use Rattle.std.proofs.Common.{◌≡◌, ℕ, ◌+◌, ◌*◌, ◌≤◌, Bool, List, [], ◌∷◌, length, refl, arith, inl, inr, le_trans, length-append}
use Rattle.std.proofs.lemmas.Bool.{cases_Bool}
use Rattle.std.specs.Prelude.{map, flat_map, filter}
use Rattle.std.specs.List.{range_with_len}
use Rattle.stow_data.specs.Ship.{places, halves}
use Rattle.stow_data.specs.Shipment.{Cargo}
use Rattle.stow_data.specs.declared.geometry.Length.TheVariants.{Twenty, Forty}
use Rattle.zero_one_rows.specs.Variables.{all_kinds}
use Rattle.zero_one_rows.specs.Crossing.{tallest}
use Rattle.zero_one_rows.specs.Counted.{row_lists, rows_a_call, all_rows, all_chains, pairs_at, runs, stands_at}
use Rattle.zero_one_rows.proofs.Counting.{base_count, all_count}
use Rattle.stow_gen.specs.MadeShip.{made_ship}
use Rattle.stow_gen.specs.MadeVoyage.{voyage_with}

-- ## Counts of the made ship, by computing

pub places_are : length (places made_ship) ≡ 96
unfolding places
places_are = refl

halves_are : length (halves made_ship) ≡ 192
unfolding halves
halves_are = refl

uppers_are : (c : Cargo) → length (row_lists (voyage_with c)).uppers ≡ 128
unfolding halves
uppers_are c = refl

lowers_are : (c : Cargo) → length (row_lists (voyage_with c)).lowers ≡ 128
unfolding halves
lowers_are c = refl

hatches_are : (c : Cargo) → length (row_lists (voyage_with c)).hatches ≡ 768
unfolding halves
hatches_are c = refl

chains_are : length (all_chains 6) ≡ 42
chains_are = refl

short_tiers : tallest made_ship Twenty ≡ 0
short_tiers = refl

long_tiers : tallest made_ship Forty ≡ 3
long_tiers = refl

-- ## Lists of rows

filtered_few : {X : Type 0} (p : X → Bool) (xs : List X) → length (filter p xs) ≤ length xs
filtered_few p [] = omega arith
filtered_few p (x ∷ xs) =
    elim (cases_Bool (p x)) [
      | inl so ↦ rw so (omega (arith, filtered_few p xs))
      | inr other ↦ rw other (omega (arith, filtered_few p xs))
    ]

-- one list for each call, none longer than n
joined_few : {X Y : Type 0} (f : X → List Y) (n : ℕ) → ((x : X) → length (f x) ≤ n) → (xs : List X) → length (flat_map f xs) ≤ length xs * n
joined_few f n h [] = omega arith
joined_few f n h (x ∷ xs) =
    let here = h x in
    let more = joined_few f n h xs in
    let whole = length-append (f x) (flat_map f xs) in
    let times : length (x ∷ xs) * n ≡ n + length xs * n = omega arith in
    omega (arith, here, more, whole, times)

mapped_few : {X Y : Type 0} (f : X → Y) (p : X → Bool) (xs : List X) → length (map f (filter p xs)) ≤ length xs
mapped_few f p [] = omega arith
mapped_few f p (x ∷ xs) =
    elim (cases_Bool (p x)) [
      | inl so ↦ rw so (omega (arith, mapped_few f p xs))
      | inr other ↦ rw other (omega (arith, mapped_few f p xs))
    ]

pairs_few : (c : Cargo) → length c.rotation ≡ 6 → length (range_with_len 0 (length (all_kinds (voyage_with c)))) ≤ 120 → length (row_lists (voyage_with c)).pairs ≤ 600
pairs_few c six few =
    let m = voyage_with c in
    rw six (joined_few (pairs_at m) 120 (λ i. le_trans (mapped_few (λ g. record { call = i; kind = g }) (runs m i) (range_with_len 0 (length (all_kinds m)))) few) (range_with_len 1 5))

-- ## Sums

summed : (h u l d s n : ℕ) → h ≡ 192 → u ≡ 128 → l ≡ 128 → d ≡ 768 → s ≡ 32 → n ≡ 0 → h + u + u + l + d + d + s + n ≡ 2144
summed h u l d s n a b c e f g = omega arith

product : (a b : ℕ) → a ≡ 5 → b ≡ 2144 → a * b ≡ 10720
product a b p q = rw (p, q) refl

tripled : (a b c : ℕ) → a ≡ 0 → b ≡ 3 → c ≡ 42 → (a + b) * c ≡ 126
tripled a b c p q r = rw (p, q, r) refl

pub rows_few : (c : Cargo) → length c.rotation ≡ 6 → length (range_with_len 0 (length (all_kinds (voyage_with c)))) ≤ 120 → length (range_with_len 0 (length c.arrival)) ≤ 96 → length (all_rows (voyage_with c)) ≤ 12238
rows_few c six few small =
    let r = row_lists (voyage_with c) in
    let base = base_count r in
    let all = all_count r in
    let pairs = pairs_few c six few in
    let filled : length r.filled ≤ 96 = le_trans (filtered_few (stands_at (voyage_with c)) (range_with_len 0 (length c.arrival))) small in
    let calls_are : r.calls ≡ 5 = rw six refl in
    let chains : length r.chains ≡ 42 = rw six chains_are in
    let a_call : rows_a_call r ≡ 2144 = summed r.halves (length r.uppers) (length r.lowers) (length r.hatches) r.stacks (length r.near) halves_are (uppers_are c) (lowers_are c) (hatches_are c) refl refl in
    let inner : r.calls * rows_a_call r ≡ 10720 = product r.calls (rows_a_call r) calls_are a_call in
    let crosses : (r.short_tiers + r.long_tiers) * length r.chains ≡ 126 = tripled r.short_tiers r.long_tiers (length r.chains) short_tiers long_tiers chains in
    omega (arith, base, all, pairs, filled, inner, crosses)
