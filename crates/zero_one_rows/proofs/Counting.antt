-- Counts, one more; and how many rows there are.
use Rattle.std.proofs.Common.{◌≡◌, ℕ, zero, suc, ◌≤◌, ◌+◌, ◌*◌, Bool, true, false, cond, List, [], ◌∷◌, ◌++◌, Option, None, Some, arith, refl, sym, ◌∙◌, ap, length, length-append, mul-add}
use Rattle.std.specs.Prelude.{filter, flat_map, map, MatchOption, is_some}
use Rattle.std.specs.List.{range_with_len, enumerate_from}
use Rattle.std.specs.Option.{option_to_list}
use Rattle.std.proofs.lemmas.List.{length-map, append-nil}
use Rattle.std.proofs.lemmas.Grind.{flat_map-append}
use Rattle.stow_data.specs.declared.geometry.Stack.{Stack}
use Rattle.stow_data.specs.declared.geometry.Lengths.{Lengths}
use Rattle.stow_data.specs.declared.geometry.Lengths.TheVariants.{Forty, Twenty, Mixed, ForeOnly, AftOnly}
use Rattle.stow_data.specs.Ship.{Ship, places, halves, sides, spans, tier_halves, tier_places, stack_halves, stack_places}
use Rattle.stow_data.proofs.Members.{range-more}
use Rattle.zero_one_rows.proofs.Filters.{filter_more}
use Rattle.zero_one_rows.proofs.Added.{flat_more}
use Rattle.zero_one_rows.specs.Counted.{flow_rows, start_rows, cell_rows, support_rows, twenty_rows, block_rows, hatch_rows, weight_rows, apart_rows, cross_rows, from_weights, from_hatches, from_blocks, from_twenties, from_supports, from_cells, from_starts, base_in, rows_in, rows_a_call, flow_of, hatch_of, apart_of, per_call}
use Rattle.zero_one_rows.specs.declared.program.Row.TheVariants.{Start, Cell, Support, Twenty as TwentyOn, Block, Weight, Cross}
use Rattle.zero_one_rows.specs.declared.row_lists.RowLists.{RowLists}
use Rattle.zero_one_rows.proofs.Numbered.{length_calls, length_first, two_long, two_calls_long}

pub count_more : (t : ℕ → Bool) (n : ℕ) → length (filter t (range_with_len 0 (n + 1))) ≡ length (filter t (range_with_len 0 n)) + cond (t n) 1 0
count_more t n =
    let a = ap length (filter_more t n) in
    let b = length-append (filter t (range_with_len 0 n)) (cond (t n) (n ∷ []) []) in
    let c = one (t n) in
    omega (arith, a, b, c)
  where
    one : (b : Bool) → length (cond b (n ∷ []) []) ≡ cond b 1 0
    one true = refl
    one false = refl

pub mapped_count : {X : Type 0} (mk : ℕ → X) (t : ℕ → Bool) (n : ℕ) → length (map mk (filter t (range_with_len 0 n))) ≡ length (filter t (range_with_len 0 n))
mapped_count mk t n = length-map (filter t (range_with_len 0 n)) mk

pub flat_count : {Y : Type 0} (f : ℕ → List Y) (n : ℕ) → length (flat_map f (range_with_len 0 (n + 1))) ≡ length (flat_map f (range_with_len 0 n)) + length (f n)
flat_count f n = let a = ap length (flat_more f n) in let b = length-append (flat_map f (range_with_len 0 n)) (f n) in omega (arith, a, b)

pub flat_one : {Y : Type 0} (f : ℕ → List Y) (n : ℕ) → flat_map f (range_with_len 1 (n + 1)) ≡ flat_map f (range_with_len 1 n) ++ f (n + 1)
flat_one {Y} f n =
    let last : 1 + n ≡ n + 1 = omega arith in
    ap (flat_map f) (range-more 1 n ∙ ap (λ (k : ℕ). range_with_len 1 n ++ k ∷ []) last) ∙ flat_map-append f (range_with_len 1 n) ((n + 1) ∷ []) ∙ ap (λ (ys : List Y). flat_map f (range_with_len 1 n) ++ ys) (append-nil (f (n + 1)))

pub flat_one_count : {Y : Type 0} (f : ℕ → List Y) (n : ℕ) → length (flat_map f (range_with_len 1 (n + 1))) ≡ length (flat_map f (range_with_len 1 n)) + length (f (n + 1))
flat_one_count f n = let a = ap length (flat_one f n) in let b = length-append (flat_map f (range_with_len 1 n)) (f (n + 1)) in omega (arith, a, b)

-- the next of a list, where there is one
pub next_count : (o : Option (List ℕ)) (old new : List (List ℕ)) → MatchOption o ((old ≡ []) × (new ≡ [])) (λ c. old ≡ c ∷ new) → (length old ≡ length new + cond (is_some o) 1 0) × (old ≡ option_to_list o ++ new)
next_count None old new h = (let a = ap length h.0 in let b = ap length h.1 in omega (arith, a, b), h.0 ∙ sym h.1)
next_count (Some c) old new h = (let a = ap length h in omega (arith, a), h)

-- one less of a list, where it isn't empty
pub next_low : (o : Option (List ℕ)) (old new : List (List ℕ)) (k : ℕ) → MatchOption o ((old ≡ []) × (new ≡ [])) (λ c. old ≡ c ∷ new) → length old ≤ suc k → length new ≤ k
next_low None old new k h l = let b = ap length h.1 in omega (arith, b)
next_low (Some c) old new k h l = let a = ap length h in omega (arith, a, l)

pub none_left : (xs : List (List ℕ)) → length xs ≤ 0 → xs ≡ []
none_left [] h = refl
none_left (x ∷ xs) h = absurd (omega arith)

-- ## Half-cells are few

sides_few : (l : Lengths) → length (sides l) ≤ 2 * length (spans l)
sides_few Forty = omega arith
sides_few Twenty = omega arith
sides_few Mixed = omega arith
sides_few ForeOnly = omega arith
sides_few AftOnly = omega arith

tower_few : (number : ℕ) (stack : Stack) (a n : ℕ) → length (flat_map (tier_halves number stack) (range_with_len a n)) ≤ 2 * length (flat_map (tier_places number stack) (range_with_len a n))
tower_few number stack a zero = omega arith
tower_few number stack a (suc n) =
    let b = length-append (tier_halves number stack a) (flat_map (tier_halves number stack) (range_with_len (a + 1) n)) in
    let c = length-append (tier_places number stack a) (flat_map (tier_places number stack) (range_with_len (a + 1) n)) in
    let d : length (tier_halves number stack a) ≡ length (sides stack.lengths) = length-map (sides stack.lengths) _ in
    let e : length (tier_places number stack a) ≡ length (spans stack.lengths) = length-map (spans stack.lengths) _ in
    let f = sides_few stack.lengths in
    let g = tower_few number stack (a + 1) n in
    omega (arith, b, c, d, e, f, g)

stacks_few : (a : ℕ) (ss : List Stack) → length (flat_map stack_halves (enumerate_from a ss)) ≤ 2 * length (flat_map stack_places (enumerate_from a ss))
stacks_few a [] = omega arith
stacks_few a (s ∷ ss) =
    let b = length-append (stack_halves (a, s)) (flat_map stack_halves (enumerate_from (a + 1) ss)) in
    let c = length-append (stack_places (a, s)) (flat_map stack_places (enumerate_from (a + 1) ss)) in
    let f = tower_few a s 0 s.tiers in
    let g = stacks_few (a + 1) ss in
    omega (arith, b, c, f, g)

pub halves_few : (ship : Ship) → length (halves ship) ≤ 2 * length (places ship)
unfolding halves places
halves_few ship = stacks_few 0 ship.stacks

-- ## All rows

shared : (c a u l h s n : ℕ) → c * (a + u + u + l + h + h + s + n) ≡ c * a + c * u + c * u + c * l + c * h + c * h + c * s + c * n
shared c a u l h s n =
    let e1 = mul-add c a u in
    let e2 = mul-add c (a + u) u in
    let e3 = mul-add c (a + u + u) l in
    let e4 = mul-add c (a + u + u + l) h in
    let e5 = mul-add c (a + u + u + l + h) h in
    let e6 = mul-add c (a + u + u + l + h + h) s in
    let e7 = mul-add c (a + u + u + l + h + h + s) n in
    omega (arith, e1, e2, e3, e4, e5, e6, e7)

pub base_count : (r : RowLists) → length (base_in r) ≡ 2 * length r.pairs + 2 * length r.filled + r.calls * rows_a_call r
unfolding base_in
base_count r =
    let a = two_long (flow_of 0) (flow_of 1) r.pairs in
    let b = two_long (λ (p : ℕ). Start 0 p) (λ (p : ℕ). Start 1 p) r.filled in
    let c = length_first (λ i h. Cell i h) r.halves r.calls in
    let d = length_calls (λ (i h : ℕ). Support i h) r.uppers r.calls in
    let e = length_calls (λ (i h : ℕ). TwentyOn i h) r.uppers r.calls in
    let f = length_calls (λ (i h : ℕ). Block i h) r.lowers r.calls in
    let g = two_calls_long (hatch_of 0) (hatch_of 1) r.calls r.hatches in
    let h = length_first (λ i k. Weight i k) r.stacks r.calls in
    let i = length_calls apart_of r.near r.calls in
    let j1 = length-append (weight_rows r) (apart_rows r) in
    let j2 = length-append (hatch_rows r) (from_weights r) in
    let j3 = length-append (block_rows r) (from_hatches r) in
    let j4 = length-append (twenty_rows r) (from_blocks r) in
    let j5 = length-append (support_rows r) (from_twenties r) in
    let j6 = length-append (cell_rows r) (from_supports r) in
    let j7 = length-append (start_rows r) (from_cells r) in
    let j8 = length-append (flow_rows r) (from_starts r) in
    let k = shared r.calls r.halves (length r.uppers) (length r.lowers) (length r.hatches) r.stacks (length r.near) in
    omega (arith, a, b, c, d, e, f, g, h, i, j1, j2, j3, j4, j5, j6, j7, j8, k)

times_add : (a b c : ℕ) → (a + b) * c ≡ a * c + b * c
times_add a b c = grind arith

pub all_count : (r : RowLists) → length (rows_in r) ≡ length (base_in r) + (r.short_tiers + r.long_tiers) * length r.chains
unfolding rows_in
all_count r =
    let a = length_calls (λ (p : ℕ) (c : List ℕ). Cross 20 p c) r.chains r.short_tiers in
    let b = length_calls (λ (p : ℕ) (c : List ℕ). Cross 40 p c) r.chains r.long_tiers in
    let c = length-append (per_call (λ (p : ℕ) (c : List ℕ). Cross 20 p c) r.short_tiers r.chains) (per_call (λ (p : ℕ) (c : List ℕ). Cross 40 p c) r.long_tiers r.chains) in
    let d = length-append (base_in r) (cross_rows r) in
    let e = times_add r.short_tiers r.long_tiers (length r.chains) in
    omega (arith, a, b, c, d, e)
