-- The columns of a ship as slots: two for each stack, the fore one and the aft one.
use Rattle.std.proofs.Common.{◌≡◌, ℕ, zero, suc, ◌+◌, ◌*◌, ◌/◌, ◌%◌, ◌<◌, ◌≤◌, Bool, true, false, not, cond, List, [], ◌∷◌, Option, Some, None, length, max, refl, ap, sym, subst, arith, ◌∙◌, inl, inr}
use Rattle.std.specs.Prelude.{◌==◌, slice_get}
use Rattle.std.specs.List.{fold, sum_by}
use Rattle.std.proofs.lemmas.Bool.{cond-true, eq-eqb, ne_eqb, false≢true, lt-ltb}
use Rattle.std.proofs.lemmas.List.Sums.{sum_by-cons}
use Rattle.stow_data.specs.declared.geometry.Length.{Length}
use Rattle.stow_data.specs.declared.geometry.Length.TheVariants as long_of
use Rattle.stow_data.specs.declared.geometry.Stack.{Stack}
use Rattle.stow_data.specs.declared.geometry.Span.{Span}
use Rattle.stow_data.specs.declared.geometry.Span.TheVariants.{Fore, Aft, Both}
use Rattle.stow_data.specs.declared.geometry.Lengths.{Lengths}
use Rattle.stow_data.specs.declared.geometry.Lengths.TheVariants.{Forty, Twenty, Mixed, ForeOnly, AftOnly}
use Rattle.stow_data.specs.Ship.{Ship, spans, sides, length_in}
use Rattle.stow_data.proofs.Members.{Member}
use Rattle.zero_one_rows.specs.Crossing.{columns_in, columns, tiers_for, tallest}
use Rattle.crossing_law.proofs.Worlds.{total_to, one_if, count_to}
use Rattle.crossing_law.proofs.KindFacts.{total_front}

-- the stack offers places of the length in the column on this side; the column of a 40-foot place is its fore one
abbrev pub offers_side : Lengths → Length → Bool → Bool
offers_side Forty long_of.Twenty side = false
offers_side Forty long_of.Forty side = not side
offers_side Twenty long_of.Twenty side = true
offers_side Twenty long_of.Forty side = false
offers_side Mixed long_of.Twenty side = true
offers_side Mixed long_of.Forty side = not side
offers_side ForeOnly long_of.Twenty side = not side
offers_side ForeOnly long_of.Forty side = false
offers_side AftOnly long_of.Twenty side = side
offers_side AftOnly long_of.Forty side = false

abbrev pub is_aft : ℕ → Bool
is_aft c = c % 2 == 1

abbrev pub offered_by : Option Stack → Length → Bool → Bool
offered_by None long side = false
offered_by (Some s) long side = offers_side s.lengths long side

abbrev pub tiers_of : Option Stack → ℕ
tiers_of None = 0
tiers_of (Some s) = s.tiers

abbrev pub offers : List Stack → Length → ℕ → Bool
offers stacks long c = offered_by (slice_get stacks (c / 2)) long (is_aft c)

-- the slot of a column that a place takes
abbrev pub side_of : Span → Bool
side_of Aft = true
side_of Fore = false
side_of Both = false

abbrev pub slot : ℕ → Bool → ℕ
slot s side = 2 * s + cond side 1 0

pub slot_stack : (s : ℕ) (b : Bool) → slot s b / 2 ≡ s
slot_stack s true = omega arith
slot_stack s false = omega arith

pub slot_side : (s : ℕ) (b : Bool) → is_aft (slot s b) ≡ b
slot_side s true = eq-eqb _ _ (omega arith)
slot_side s false = ne_eqb _ _ (λ e. omega (arith, e))

pub slot_low : (s n : ℕ) (b : Bool) → s < n → slot s b < 2 * n
slot_low s n true lt = omega arith
slot_low s n false lt = omega arith

-- the stack's two slots are its columns
two_slots : (ls : Lengths) (long : Length) → one_if (offers_side ls long false) + one_if (offers_side ls long true) ≡ columns_in long ls
two_slots Forty long_of.Twenty = refl
two_slots Forty long_of.Forty = refl
two_slots Twenty long_of.Twenty = refl
two_slots Twenty long_of.Forty = refl
two_slots Mixed long_of.Twenty = refl
two_slots Mixed long_of.Forty = refl
two_slots ForeOnly long_of.Twenty = refl
two_slots ForeOnly long_of.Forty = refl
two_slots AftOnly long_of.Twenty = refl
two_slots AftOnly long_of.Forty = refl

later_slot : (s : Stack) (ss : List Stack) (long : Length) (c : ℕ) → offers (s ∷ ss) long (suc (suc c)) ≡ offers ss long c
later_slot s ss long c =
    let a : suc (suc c) / 2 ≡ suc (c / 2) = omega arith in
    let b : suc (suc c) % 2 ≡ c % 2 = omega arith in
    ap (λ (n : ℕ). offered_by (slice_get (s ∷ ss) n) long (is_aft (suc (suc c)))) a ∙ ap (λ (n : ℕ). offered_by (slice_get ss (c / 2)) long (n == 1)) b

total_same : (n : ℕ) (f g : ℕ → ℕ) → ((v : ℕ) → f v ≡ g v) → total_to n f ≡ total_to n g
total_same zero f g h = refl
total_same (suc n) f g h = omega (arith, total_same n f g h, h n)

slots_in : (long : Length) (ss : List Stack) → count_to (2 * length ss) (offers ss long) ≡ sum_by (λ s. columns_in long s.lengths) ss
slots_in long [] = refl
slots_in long (s ∷ ss) =
    let n : ℕ = 2 * length ss in
    let e : 2 * length (s ∷ ss) ≡ suc (suc n) = omega arith in
    let f : ℕ → ℕ = λ c. one_if (offers (s ∷ ss) long c) in
    let front : total_to (suc (suc n)) f ≡ f 0 + total_to (suc n) (λ k. f (suc k)) = total_front (suc n) f in
    let next : total_to (suc n) (λ k. f (suc k)) ≡ f 1 + total_to n (λ k. f (suc (suc k))) = total_front n (λ k. f (suc k)) in
    let rest : total_to n (λ k. f (suc (suc k))) ≡ count_to n (offers ss long) = total_same n _ _ (λ c. ap one_if (later_slot s ss long c)) in
    let two : f 0 + f 1 ≡ columns_in long s.lengths = two_slots s.lengths long in
    subst (λ (k : ℕ). total_to k f ≡ sum_by (λ t. columns_in long t.lengths) (s ∷ ss)) (sym e) (omega (arith, front, next, rest, two, slots_in long ss, sum_by-cons (λ (t : Stack). columns_in long t.lengths) s ss))

pub slots_are : (ship : Ship) (long : Length) → count_to (2 * length ship.stacks) (offers ship.stacks long) ≡ columns ship long
slots_are ship long = slots_in long ship.stacks

-- a column is a side of its stack
pub offered_side : (ls : Lengths) (long : Length) (side : Bool) → offers_side ls long side ≡ true → Member side (sides ls)
offered_side Forty long true h = inr (inl refl)
offered_side Forty long false h = inl refl
offered_side Twenty long true h = inr (inl refl)
offered_side Twenty long false h = inl refl
offered_side Mixed long true h = inr (inl refl)
offered_side Mixed long false h = inl refl
offered_side ForeOnly long false h = inl refl
offered_side ForeOnly long_of.Twenty true h = absurd (false≢true h)
offered_side ForeOnly long_of.Forty true h = absurd (false≢true h)
offered_side AftOnly long true h = inl refl
offered_side AftOnly long_of.Twenty false h = absurd (false≢true h)
offered_side AftOnly long_of.Forty false h = absurd (false≢true h)

-- a place's column is offered
pub offers_span : (ls : Lengths) (span : Span) → Member span (spans ls) → offers_side ls (length_in span) (side_of span) ≡ true
offers_span Forty span (inl e) = subst (λ (x : Span). offers_side Forty (length_in x) (side_of x) ≡ true) (sym e) refl
offers_span Twenty span (inl e) = subst (λ (x : Span). offers_side Twenty (length_in x) (side_of x) ≡ true) (sym e) refl
offers_span Twenty span (inr (inl e)) = subst (λ (x : Span). offers_side Twenty (length_in x) (side_of x) ≡ true) (sym e) refl
offers_span Mixed span (inl e) = subst (λ (x : Span). offers_side Mixed (length_in x) (side_of x) ≡ true) (sym e) refl
offers_span Mixed span (inr (inl e)) = subst (λ (x : Span). offers_side Mixed (length_in x) (side_of x) ≡ true) (sym e) refl
offers_span Mixed span (inr (inr (inl e))) = subst (λ (x : Span). offers_side Mixed (length_in x) (side_of x) ≡ true) (sym e) refl
offers_span ForeOnly span (inl e) = subst (λ (x : Span). offers_side ForeOnly (length_in x) (side_of x) ≡ true) (sym e) refl
offers_span AftOnly span (inl e) = subst (λ (x : Span). offers_side AftOnly (length_in x) (side_of x) ≡ true) (sym e) refl
offers_span Forty span (inr n) = absurd n
offers_span Twenty span (inr (inr n)) = absurd n
offers_span Mixed span (inr (inr (inr n))) = absurd n
offers_span ForeOnly span (inr n) = absurd n
offers_span AftOnly span (inr n) = absurd n

-- a column's stack is at most as tall as the tallest one
has_column : (ls : Lengths) (long : Length) (side : Bool) → offers_side ls long side ≡ true → 0 < columns_in long ls
has_column ls long true h = let e : one_if (offers_side ls long true) ≡ 1 = ap one_if h in omega (arith, two_slots ls long)
has_column ls long false h = let e : one_if (offers_side ls long false) ≡ 1 = ap one_if h in omega (arith, two_slots ls long)

fold_grows : (long : Length) (n : ℕ) (ss : List Stack) → n ≤ fold (λ t s. max t (tiers_for long s)) n ss
fold_grows long n [] = omega arith
fold_grows long n (s ∷ ss) = let r = fold_grows long (max n (tiers_for long s)) ss in omega (arith, r)

tall_low : (long : Length) (side : Bool) (n : ℕ) (ss : List Stack) (i : ℕ) → offered_by (slice_get ss i) long side ≡ true → tiers_of (slice_get ss i) ≤ fold (λ t s. max t (tiers_for long s)) n ss
tall_low long side n [] i h = absurd (false≢true h)
tall_low long side n (s ∷ ss) zero h =
    let e : tiers_for long s ≡ s.tiers = cond-true _ _ _ (lt-ltb _ _ (has_column s.lengths long side h)) in
    let r = fold_grows long (max n (tiers_for long s)) ss in
    omega (arith, r, e)
tall_low long side n (s ∷ ss) (suc i) h = tall_low long side (max n (tiers_for long s)) ss i h

pub column_low : (ship : Ship) (long : Length) (c : ℕ) → offers ship.stacks long c ≡ true → tiers_of (slice_get ship.stacks (c / 2)) ≤ tallest ship long
column_low ship long c h = tall_low long (is_aft c) 0 ship.stacks (c / 2) h
