-- Each base row is its signed sums, which share no variable.
use Rattle.std.proofs.Common.{◌≡◌, ℕ, zero, suc, ◌<◌, ◌+◌, ◌-◌, Bool, true, false, cond, ◌&&◌, ◌==◌, not, List, length, Option, Some, None, ℤ, pos, ◌+ℤ◌, ◌-ℤ◌, refl, sym, ◌∙◌, ap, subst, arith}
use Rattle.std.specs.Prelude.{nat_lt}
use Rattle.std.proofs.lemmas.Bool.{both_ways, ltb-true, eq-eqb}
use borrow.Author.Differences.{ints}
use Rattle.stow_data.specs.declared.geometry.Place.{Place}
use Rattle.stow_data.specs.declared.geometry.Half.{Half}
use Rattle.stow_data.specs.declared.geometry.Span.{Span}
use Rattle.stow_data.specs.declared.geometry.Span.TheVariants.{Fore, Aft, Both}
use Rattle.stow_data.specs.Near.{near, near_by, meets, has_column_in_common}
use Rattle.proof_trees.specs.Program.{where_set}
use Rattle.zero_one_rows.specs.declared.program.Var.{Var}
use Rattle.zero_one_rows.specs.declared.program.Row.{Row}
use Rattle.zero_one_rows.specs.declared.program.Row.TheVariants.{Flow, Start, Cell, Support, Twenty, Block, Hatch, Weight, Apart, Cross}
use Rattle.zero_one_rows.specs.Variables.{Voyage, kind, place, is_var}
use Rattle.zero_one_rows.specs.Rows.{coef, has, bit, less, half, above, below, takes, covers, active, occ, occ20, occ_class, stay, out, into, moved, separation, is_call, is_half, is_place, is_twenty}
use Rattle.row_sums.specs.declared.sums.Sum.{Sum}
use Rattle.row_sums.specs.declared.sums.Sum.TheVariants as sum
use Rattle.row_sums.specs.declared.sums.Part.{Part}
use Rattle.row_sums.specs.declared.sums.Parts.{Parts}
use Rattle.row_sums.specs.Sums.{parts, holds, in_sum, class_named, class_number}
use Rattle.row_sums.specs.Laws.{HasParts, AreSums, ShareNone, in_parts}
use Rattle.row_sums.proofs.Names.{first_named, second_named}
use Rattle.row_sums.proofs.Excluding.{left_true, right_true, flow_apart, tiers_apart, twenty_apart, ends_apart, puts_apart, places_apart}

-- a fact on the sums of a row, where it has any
abbrev pub Each : (Parts → Type 0) → Option Parts → Type 0
Each P None = Unit {0}
Each P (Some ps) = P ps

pub has_parts : HasParts
has_parts m (Flow q i g) h = (_, refl)
has_parts m (Start q p) h = (_, refl)
has_parts m (Cell i k) h = (_, refl)
has_parts m (Support i k) h = (_, refl)
has_parts m (Twenty i k) h = (_, refl)
has_parts m (Block j k) h = (_, refl)
has_parts m (Hatch w j k d) h = (_, refl)
has_parts m (Weight i k) h = (_, refl)
has_parts m (Apart i e p q) h = (_, refl)
has_parts m (Cross l p c) h = absurd (both_ways false refl h)

-- amounts with their signs
alone : (z : ℤ) → z ≡ z +ℤ pos 0
alone z = omega (arith, ints)

both : (y z : ℤ) → (pos 0 -ℤ y) -ℤ z ≡ (pos 0 -ℤ y) +ℤ (pos 0 -ℤ z)
both y z = omega (arith, ints)

difference : (y z : ℤ) → y -ℤ z ≡ y +ℤ (pos 0 -ℤ z)
difference y z = omega (arith, ints)

turned_difference : (y z : ℤ) → pos 0 -ℤ (y -ℤ z) ≡ (pos 0 -ℤ y) +ℤ z
turned_difference y z = omega (arith, ints)

moved_in : (m : Voyage) (b : Bool) (j : ℕ) (h : Half) (x : Var) → bit (cond b (out m j h x) (into m j h x)) ≡ in_sum m (cond b (sum.LiftedFrom j h) (sum.PutInto j h)) x
moved_in m true j h x = refl
moved_in m false j h x = refl

in_separation : (m : Voyage) (i e p q : ℕ) → has m (Apart i e p q) ≡ true → e < length m.ship.separations
in_separation m i e p q h = ltb-true e (length m.ship.separations) (left_true _ _ (right_true (is_call m i) _ h))

coef_of : (m : Voyage) (r : Row) → has m r ≡ true → (x : Var) → Each (λ ps. coef m r x ≡ in_parts m ps x) (parts m r)
coef_of m (Flow zero i g) h x = difference (bit ((x.put == i) && (x.kind == g))) (bit ((x.lifted == i) && (x.kind == g)))
coef_of m (Flow (suc q) i g) h x = turned_difference (bit ((x.put == i) && (x.kind == g))) (bit ((x.lifted == i) && (x.kind == g)))
coef_of m (Start zero p) h x = alone (bit ((x.put == 0) && (x.place == p)))
coef_of m (Start (suc q) p) h x = alone (less ((x.put == 0) && (x.place == p)))
coef_of m (Cell i k) h x = alone (less (occ m i (half m k) x))
coef_of m (Support i k) h x = difference (bit (occ m i (below (half m k)) x)) (bit (occ m i (half m k) x))
coef_of m (Twenty i k) h x = difference (bit (occ20 m i (below (half m k)) x)) (bit (occ20 m i (half m k) x))
coef_of m (Block j k) h x = both (bit (out m j (half m k) x)) (bit (stay m j (above (half m k)) x))
coef_of m (Hatch w j k d) h x = both (bit (moved m w j (half m k) x)) (bit (stay m j (half m d) x)) ∙ ap (λ (z : ℤ). (pos 0 -ℤ z) +ℤ less (stay m j (half m d) x)) (moved_in m (w == 0) j (half m k) x)
coef_of m (Weight i k) h x = alone (pos 0 -ℤ where_set (((place m x.place).stack == k) && active i x) (pos (kind m x.kind).kg))
coef_of m (Apart i e p q) h x =
    let l = in_separation m i e p q h in
    both (bit (occ_class m i p (separation m e).a x)) (bit (occ_class m i q (separation m e).b x))
    ∙ ap (λ (c : List ℕ). less (occ_class m i p c x) +ℤ less (occ_class m i q (separation m e).b x)) (sym (first_named m.ship.separations e l))
    ∙ ap (λ (c : List ℕ). less (occ_class m i p (class_named m.ship (class_number m.ship (separation m e).a)) x) +ℤ less (occ_class m i q c x)) (sym (second_named m.ship.separations e l))
coef_of m (Cross l p c) h x = tt

pub are_sums : AreSums
are_sums m r ps h e x = subst (Each (λ (qs : Parts). coef m r x ≡ in_parts m qs x)) e (coef_of m r h x)

-- the two of a row
abbrev Apart_in : Voyage → Var → Sum → Option Part → Type 0
Apart_in m x a None = Unit {0}
Apart_in m x a (Some p) = (holds m a x && holds m p.sum x) ≡ false

column_itself : (s : Span) → has_column_in_common s s ≡ true
column_itself Fore = refl
column_itself Aft = refl
column_itself Both = refl

and_true : (a b : Bool) → a ≡ true → b ≡ true → (a && b) ≡ true
and_true true b h k = k
and_true false b h k = absurd (both_ways false refl h)

meets_itself : (p : Place) → meets p p ≡ true
meets_itself p = and_true (p.stack == p.stack) ((p.tier == p.tier) && has_column_in_common p.span p.span) (eq-eqb p.stack p.stack refl) (and_true (p.tier == p.tier) (has_column_in_common p.span p.span) (eq-eqb p.tier p.tier refl) (column_itself p.span))

not_meeting : (b : Bool) → not b ≡ true → b ≡ true → ⊥
not_meeting true h k = both_ways false refl h
not_meeting false h k = both_ways false refl k

near_differ : (m : Voyage) (level p q : ℕ) → near m.ship level (place m p) (place m q) ≡ true → p ≡ q → ⊥
near_differ m level p q h e =
    let k = subst (λ (z : ℕ). near m.ship level (place m p) (place m z) ≡ true) (sym e) h in
    not_meeting (meets (place m p) (place m p)) (right_true (near_by m.ship level (place m p) (place m p)) (not (meets (place m p) (place m p))) k) (meets_itself (place m p))

moved_apart : (m : Voyage) (b : Bool) (j : ℕ) (h d : Half) (x : Var) → (holds m (cond b (sum.LiftedFrom j h) (sum.PutInto j h)) x && stay m j d x) ≡ false
moved_apart m true j h d x = ends_apart x.lifted j (covers (place m x.place) h) (covers (place m x.place) d) (nat_lt x.put j)
moved_apart m false j h d x = puts_apart x.put j (covers (place m x.place) h) (covers (place m x.place) d) (nat_lt j x.lifted)

over_lowest : (m : Voyage) (i k : ℕ) → (is_call m i && (is_half m k && nat_lt 0 (half m k).tier)) ≡ true → nat_lt 0 (half m k).tier ≡ true
over_lowest m i k h = right_true (is_half m k) (nat_lt 0 (half m k).tier) (right_true (is_call m i) (is_half m k && nat_lt 0 (half m k).tier) h)

occ_apart : (m : Voyage) (i k : ℕ) (x : Var) → nat_lt 0 (half m k).tier ≡ true → (occ m i (below (half m k)) x && occ m i (half m k) x) ≡ false
occ_apart m i k x l =
    let p = place m x.place in
    let h = half m k in
    tiers_apart p.tier h.tier (p.stack == h.stack) (p.stack == h.stack) (takes p.span h.aft) (takes p.span h.aft) (active i x) l

apart_of : (m : Voyage) (r : Row) → has m r ≡ true → (x : Var) → is_var m x ≡ true → Each (λ ps. Apart_in m x ps.first.sum ps.second) (parts m r)
apart_of m (Flow q i g) h x v = flow_apart x.put x.lifted i (x.kind == g) _ v
apart_of m (Start q p) h x v = tt
apart_of m (Cell i k) h x v = tt
apart_of m (Support i k) h x v = occ_apart m i k x (over_lowest m i k h)
apart_of m (Twenty i k) h x v = twenty_apart (is_twenty (kind m x.kind).long) (occ m i (below (half m k)) x) (occ m i (half m k) x) (occ_apart m i k x (over_lowest m i k h))
apart_of m (Block j k) h x v = ends_apart x.lifted j (covers (place m x.place) (half m k)) (covers (place m x.place) (above (half m k))) (nat_lt x.put j)
apart_of m (Hatch w j k d) h x v = moved_apart m (w == 0) j (half m k) (half m d) x
apart_of m (Weight i k) h x v = tt
apart_of m (Apart i e p q) h x v =
    let n = right_true (is_place m q) _ (right_true (is_place m p) _ (right_true (nat_lt e (length m.ship.separations)) _ (right_true (is_call m i) _ h))) in
    places_apart x.place p q _ _ (near_differ m (separation m e).level p q n)
apart_of m (Cross l p c) h x v = tt

pub share_none : ShareNone
share_none m r ps second h e f x v = subst (Apart_in m x ps.first.sum) f (subst (Each (λ (qs : Parts). Apart_in m x qs.first.sum qs.second)) e (apart_of m r h x v))
