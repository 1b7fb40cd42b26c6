-- Which sums hold a variable.
use Rattle.std.proofs.Common.{◌≡◌, ℕ, ◌<◌, ◌≤◌, ◌==◌, ◌&&◌, Bool, true, false, Option, Some, None, List, length, refl, sym, ◌∙◌, ap, subst, arith}
use Rattle.std.specs.Prelude.{nat_eq, nat_le, nat_lt, slice_index_or}
use Rattle.std.specs.Option.{option_eq}
use Rattle.std.specs.Cmp.Lexicographic.{pointwise}
use Rattle.std.proofs.lemmas.Bool.{both_ways, eqb-true, ltb-true, leb-true}
use Rattle.std.proofs.lemmas.Option.{slice_get-get_or, slice_get_within, get_or_from_slice_get}
use Rattle.stow_data.specs.declared.geometry.Half.{Half}
use Rattle.stow_data.specs.declared.geometry.Place.{Place}
use Rattle.stow_data.specs.declared.geometry.Stack.{Stack}
use Rattle.stow_data.specs.Ship.{places, half_at}
use Rattle.stow_data.specs.Plans.{no_place, no_stack}
use Rattle.stow_data.proofs.Listed.{place_from}
use Rattle.zero_one_rows.specs.declared.program.Var.{Var}
use Rattle.zero_one_rows.specs.Variables.{Voyage, kind, place}
use Rattle.zero_one_rows.specs.Rows.{covers, takes, active, stays, ends, is_twenty}
use Rattle.row_sums.specs.declared.sums.Sum.{Sum}
use Rattle.row_sums.specs.declared.sums.Sum.TheVariants.{Put, Lifted, Start, Occupied, OccupiedByTwenty, OccupiedByClass, Staying, LiftedFrom, PutInto, Weight}
use Rattle.row_sums.specs.Sums.{holds, class_named, class_number}
use Rattle.row_sums.proofs.Names.{same_bytes}
use Rattle.row_sums.proofs.Excluding.{left_true, right_true}
use Rattle.row_sums.specs.declared.numbering.Numbering.{Numbering}
use Rattle.row_sums.specs.Numbers.{number, IsCell, IsThere}
use Rattle.row_sums.specs.Classes.{class_or_past}
use Rattle.row_sums.specs.Held.{stands}
use Rattle.row_sums.specs.Noted.{Has, HasEnds, HasMoves, HasCall}

-- the half-cells of a place are cells of its stack
pub cell_of : (m : Voyage) (p : ℕ) (side : Bool) → p < length (places m.ship) → IsCell m (half_at (place m p) side)
cell_of m p side l =
    let from = place_from m.ship p (place m p) (slice_get-get_or (places m.ship) p no_place l) in
    let same : slice_index_or m.ship.stacks (place m p).stack no_stack ≡ from.stack_at = get_or_from_slice_get m.ship.stacks (place m p).stack from.stack_at no_stack from.is_stack in
    record {
      stack_in = slice_get_within m.ship.stacks (place m p).stack from.stack_at from.is_stack;
      tier_in = subst (λ (s : Stack). (place m p).tier < s.tiers) (sym same) from.low;
    }

-- a sum of a class that holds the variable is that of its kind's class
pub class_is : (m : Voyage) (x : Var) (i p c : ℕ) → holds m (OccupiedByClass i p c) x ≡ true → class_or_past m.ship (kind m x.kind).class ≡ class_number m.ship (class_named m.ship c)
class_is m x i p c h = go (kind m x.kind).class (left_true (option_eq (pointwise nat_eq) (kind m x.kind).class (Some (class_named m.ship c))) (active i x) (right_true (x.place == p) (option_eq (pointwise nat_eq) (kind m x.kind).class (Some (class_named m.ship c)) && active i x) h))
  where
    go : (o : Option (List ℕ)) → option_eq (pointwise nat_eq) o (Some (class_named m.ship c)) ≡ true → class_or_past m.ship o ≡ class_number m.ship (class_named m.ship c)
    go None e = absurd (both_ways false refl e)
    go (Some name) e = ap (class_number m.ship) (same_bytes name (class_named m.ship c) e)

-- a half-cell that the place covers
half_is : (p : Place) (h : Half) → covers p h ≡ true → half_at p h.aft ≡ h
half_is p h c =
    let s : p.stack ≡ h.stack = eqb-true p.stack h.stack (left_true (p.stack == h.stack) ((p.tier == h.tier) && takes p.span h.aft) c) in
    let t : p.tier ≡ h.tier = eqb-true p.tier h.tier (left_true (p.tier == h.tier) (takes p.span h.aft) (right_true (p.stack == h.stack) ((p.tier == h.tier) && takes p.span h.aft) c)) in
    ap (λ (n : ℕ). record { stack = n; tier = p.tier; aft = h.aft }) s ∙ ap (λ (n : ℕ). record { stack = h.stack; tier = n; aft = h.aft }) t

active_is : (i : ℕ) (x : Var) → active i x ≡ true → (x.put ≤ i) × (i < x.lifted)
active_is i x h = (leb-true x.put i (left_true (nat_le x.put i) (nat_lt i x.lifted) h), ltb-true i x.lifted (right_true (nat_le x.put i) (nat_lt i x.lifted) h))

-- each sum that holds the variable was noted
pub all_noted : (m : Voyage) (z : Numbering) (x : Var) (ns : List ℕ) → HasEnds m z x ns → ((side : Bool) → HasMoves m z x side ns) → ((i : ℕ) → x.put ≤ i → i < x.lifted → HasCall m z x i ns)
    → (s : Sum) → IsThere m s → holds m s x ≡ true → stands (number z s) ns ≡ true
all_noted m z x ns e v w (Put i g) t h =
    let p : x.put ≡ i = eqb-true x.put i (left_true (x.put == i) (x.kind == g) h) in
    let q : x.kind ≡ g = eqb-true x.kind g (right_true (x.put == i) (x.kind == g) h) in
    subst (Has m z x ns) (ap (λ (n : ℕ). Put n x.kind) p ∙ ap (Put i) q) e.put h
all_noted m z x ns e v w (Lifted i g) t h =
    let p : x.lifted ≡ i = eqb-true x.lifted i (left_true (x.lifted == i) (x.kind == g) h) in
    let q : x.kind ≡ g = eqb-true x.kind g (right_true (x.lifted == i) (x.kind == g) h) in
    subst (Has m z x ns) (ap (λ (n : ℕ). Lifted n x.kind) p ∙ ap (Lifted i) q) e.lifted h
all_noted m z x ns e v w (Start p) t h =
    subst (Has m z x ns) (ap Start (eqb-true x.place p (right_true (x.put == 0) (x.place == p) h))) e.start h
all_noted m z x ns e v w (Occupied i k) t h =
    let c = left_true (covers (place m x.place) k) (active i x) h in
    let a = active_is i x (right_true (covers (place m x.place) k) (active i x) h) in
    subst (Has m z x ns) (ap (Occupied i) (half_is (place m x.place) k c)) ((w i a.0 a.1).sides k.aft).occupied h
all_noted m z x ns e v w (OccupiedByTwenty i k) t h =
    let o = right_true (is_twenty (kind m x.kind).long) (covers (place m x.place) k && active i x) h in
    let c = left_true (covers (place m x.place) k) (active i x) o in
    let a = active_is i x (right_true (covers (place m x.place) k) (active i x) o) in
    subst (Has m z x ns) (ap (OccupiedByTwenty i) (half_is (place m x.place) k c)) ((w i a.0 a.1).sides k.aft).by_twenty h
all_noted m z x ns e v w (Staying i k) t h =
    let c = left_true (covers (place m x.place) k) (stays i x) h in
    let a = right_true (covers (place m x.place) k) (stays i x) h in
    let l = ltb-true x.put i (left_true (nat_lt x.put i) (nat_lt i x.lifted) a) in
    let u = ltb-true i x.lifted (right_true (nat_lt x.put i) (nat_lt i x.lifted) a) in
    let le : x.put ≤ i = omega (arith, l) in
    subst (Has m z x ns) (ap (Staying i) (half_is (place m x.place) k c)) ((w i le u).sides k.aft).staying h
all_noted m z x ns e v w (LiftedFrom i k) t h =
    let c = left_true (covers (place m x.place) k) (ends i x) h in
    let a = right_true (covers (place m x.place) k) (ends i x) h in
    let l : x.lifted ≡ i = eqb-true x.lifted i (right_true (nat_lt x.put i) (x.lifted == i) a) in
    subst (Has m z x ns) (ap (λ (n : ℕ). LiftedFrom n (half_at (place m x.place) k.aft)) l ∙ ap (LiftedFrom i) (half_is (place m x.place) k c)) (v k.aft).lifted_from h
all_noted m z x ns e v w (PutInto i k) t h =
    let c = left_true (covers (place m x.place) k) (x.put == i) h in
    let l : x.put ≡ i = eqb-true x.put i (right_true (covers (place m x.place) k) (x.put == i) h) in
    subst (Has m z x ns) (ap (λ (n : ℕ). PutInto n (half_at (place m x.place) k.aft)) l ∙ ap (PutInto i) (half_is (place m x.place) k c)) (v k.aft).put_into h
all_noted m z x ns e v w (Weight i k) t h =
    let s : (place m x.place).stack ≡ k = eqb-true (place m x.place).stack k (left_true ((place m x.place).stack == k) (active i x) h) in
    let a = active_is i x (right_true ((place m x.place).stack == k) (active i x) h) in
    subst (Has m z x ns) (ap (Weight i) s) (w i a.0 a.1).whole.weight h
all_noted m z x ns e v w (OccupiedByClass i p c) t h =
    let q : x.place ≡ p = eqb-true x.place p (left_true (x.place == p) (option_eq (pointwise nat_eq) (kind m x.kind).class (Some (class_named m.ship c)) && active i x) h) in
    let r = right_true (x.place == p) (option_eq (pointwise nat_eq) (kind m x.kind).class (Some (class_named m.ship c)) && active i x) h in
    let a = active_is i x (right_true (option_eq (pointwise nat_eq) (kind m x.kind).class (Some (class_named m.ship c))) (active i x) r) in
    subst (Has m z x ns) (ap (λ (n : ℕ). OccupiedByClass i n c) q) ((w i a.0 a.1).whole.by_class c t.item_in.1) h
