-- Which positions a look-up holds to be the same.
use Rattle.std.proofs.Common.{◌≡◌, ℕ, suc, Bool, true, false, ◌||◌, ◌&&◌, refl, sym, ap, ◌∙◌, arith}
use Rattle.std.specs.Prelude.{ℤ, pos, negsuc, not, nat_lt, nat_le, ◌==◌}
use Rattle.std.specs.Ordering.{is_eq, int_cmp, bool_cmp, ordering_then}
use Rattle.std.specs.Cmp.{tied_then, signed_Decides}
use Rattle.std.specs.BTreeMap.{is_at}
use Rattle.std.proofs.lemmas.Bool.{false≢true, le-leb, lt-leb, leb-true, leb-false, eqb-true, eq-eqb}
use Rattle.stow_data.specs.declared.geometry.Stack.{Stack}
use Rattle.ship_profile.specs.declared.position.Position.{Position}
use Rattle.ship_profile.specs.declared.covers.Part.{Part}
use Rattle.ship_profile.specs.declared.covers.Part.TheVariants.{Hold, Deck}
use Rattle.ship_profile.specs.Stacks.{same_part, is_in_hold, is_on_deck}
use Rattle.ship_profile.specs.Covers.{is_in, stands_at}
use Rattle.ship_profile.specs.Positions.{position_order, position_in, position_of, is_deck}

same_number : (a b : ℕ) → is_eq (int_cmp (pos a) (pos b)) ≡ (a == b)
same_number a b = of_test (a == b) refl
  where
    of_order : (t : Bool) → is_eq (int_cmp (pos a) (pos b)) ≡ t → (a == b) ≡ false → t ≡ false
    of_order false r e = refl
    of_order true r e = let same : pos a ≡ pos b = (signed_Decides (pos a) (pos b)).0 r in let is : a ≡ b = cc in absurd (false≢true (sym e ∙ eq-eqb a b is))

    of_test : (t : Bool) → (a == b) ≡ t → is_eq (int_cmp (pos a) (pos b)) ≡ t
    of_test true e = (signed_Decides (pos a) (pos b)).1 (ap pos (eqb-true a b e))
    of_test false e = of_order (is_eq (int_cmp (pos a) (pos b))) refl e

hold_or_deck : (n : ℕ) → nat_lt n 80 ≡ not (nat_le 80 n)
hold_or_deck n = of_test (nat_le 80 n) refl
  where
    of_test : (t : Bool) → nat_le 80 n ≡ t → nat_lt n 80 ≡ not t
    of_test true e = let le = leb-true 80 n e in lt-leb (suc n) 80 (omega arith)
    of_test false e = let lt = leb-false 80 n e in le-leb (suc n) 80 (omega arith)

both_parts : (a b h k : Bool) → h ≡ not a → k ≡ not b → is_eq (bool_cmp a b) ≡ ((h && k) || (a && b))
both_parts true true h k e f = rw e refl
both_parts true false h k e f = rw e refl
both_parts false true h k e f = rw (e, f) refl
both_parts false false h k e f = rw (e, f) refl

same_part_is : (t s : Stack) → is_eq (bool_cmp (is_on_deck t) (is_on_deck s)) ≡ same_part t s
same_part_is t s = both_parts (is_on_deck t) (is_on_deck s) (is_in_hold t) (is_in_hold s) (hold_or_deck t.lowest) (hold_or_deck s.lowest)

last_first : (x y z : Bool) → (x && (y && z)) ≡ ((y && z) && x)
last_first true true true = refl
last_first true true false = refl
last_first true false z = refl
last_first false true true = refl
last_first false true false = refl
last_first false false z = refl

-- a half-cell of one stack is one of another
pub at_cell : (t s : Stack) (odd o : ℕ) → is_at (position_order (position_in odd t)) (position_in o s) ≡ (((t.row == s.row) && same_part t s) && (odd == o))
at_cell t s odd o =
    let bay = int_cmp (pos odd) (pos o) in
    let row = int_cmp (pos t.row) (pos s.row) in
    let part = bool_cmp (is_on_deck t) (is_on_deck s) in
    sym (tied_then bay (ordering_then row part)) ∙ ap (λ r. is_eq bay && r) (sym (tied_then row part)) ∙ ap (λ r. r && (is_eq row && is_eq part)) (same_number odd o) ∙ ap (λ r. (odd == o) && (r && is_eq part)) (same_number t.row s.row)
    ∙ ap (λ r. (odd == o) && ((t.row == s.row) && r)) (same_part_is t s) ∙ last_first (odd == o) (t.row == s.row) (same_part t s)

stands : (bay row : ℤ) (s : Stack) → (is_eq (int_cmp (pos s.bay) bay) && is_eq (int_cmp (pos s.row) row)) ≡ stands_at bay row s
stands (pos bay) (pos row) s = ap (λ r. r && is_eq (int_cmp (pos s.row) (pos row))) (same_number s.bay bay) ∙ ap (λ r. (s.bay == bay) && r) (same_number s.row row)
stands (pos bay) (negsuc row) s = no_row (is_eq (int_cmp (pos s.bay) (pos bay)))
  where
    no_row : (b : Bool) → (b && false) ≡ false
    no_row true = refl
    no_row false = refl
stands (negsuc bay) row s = refl

part_is : (part : Part) (s : Stack) → is_eq (bool_cmp (is_on_deck s) (is_deck part)) ≡ is_in part s
part_is Hold s = by_test (is_on_deck s) (is_in_hold s) (hold_or_deck s.lowest)
  where
    by_test : (b h : Bool) → h ≡ not b → is_eq (bool_cmp b false) ≡ h
    by_test true h e = sym e
    by_test false h e = sym e
part_is Deck s = by_test (is_on_deck s)
  where
    by_test : (b : Bool) → is_eq (bool_cmp b true) ≡ b
    by_test true = refl
    by_test false = refl

turned : (x y z : Bool) → (x && (y && z)) ≡ (z && (x && y))
turned true true true = refl
turned true true false = refl
turned true false true = refl
turned true false false = refl
turned false y true = refl
turned false y false = refl

-- a stack stands at a bay and row in a part of the ship
pub at_pair : (part : Part) (pair : ℤ × ℤ) (s : Stack) → is_at (position_order (position_in s.bay s)) (position_of part pair) ≡ (is_in part s && stands_at pair.0 pair.1 s)
at_pair part pair s =
    let bay = int_cmp (pos s.bay) pair.0 in
    let row = int_cmp (pos s.row) pair.1 in
    let deck = bool_cmp (is_on_deck s) (is_deck part) in
    sym (tied_then bay (ordering_then row deck)) ∙ ap (λ r. is_eq bay && r) (sym (tied_then row deck)) ∙ turned (is_eq bay) (is_eq row) (is_eq deck) ∙ ap (λ r. r && (is_eq bay && is_eq row)) (part_is part s) ∙ ap (λ r. is_in part s && r) (stands pair.0 pair.1 s)

equal_flags : (a b : Bool) → is_eq (bool_cmp a b) ≡ true → a ≡ b
equal_flags true true h = refl
equal_flags true false h = absurd (false≢true h)
equal_flags false true h = absurd (false≢true h)
equal_flags false false h = refl

both_true : (a b : Bool) → (a && b) ≡ true → (a ≡ true) × (b ≡ true)
both_true true b h = (refl, h)
both_true false b h = absurd (false≢true h)

-- positions that a look-up holds to be the same are the same
pub same_position : (p q : Position) → is_at (position_order p) q ≡ true → p ≡ q
same_position p q h =
    let row_and_part = ordering_then (int_cmp p.row q.row) (bool_cmp p.on_deck q.on_deck) in
    let first = both_true (is_eq (int_cmp p.bay q.bay)) (is_eq row_and_part) (tied_then (int_cmp p.bay q.bay) row_and_part ∙ h) in
    let second = both_true (is_eq (int_cmp p.row q.row)) (is_eq (bool_cmp p.on_deck q.on_deck)) (tied_then (int_cmp p.row q.row) (bool_cmp p.on_deck q.on_deck) ∙ first.1) in
    let bay : p.bay ≡ q.bay = (signed_Decides p.bay q.bay).0 first.0 in
    let row : p.row ≡ q.row = (signed_Decides p.row q.row).0 second.0 in
    let part : p.on_deck ≡ q.on_deck = equal_flags p.on_deck q.on_deck second.1 in
    λ i. record { bay = bay i; row = row i; on_deck = part i }
