-- A packing row none of whose variables is at 1 is calm.
use Rattle.std.proofs.Common.{◌≡◌, ℕ, zero, suc, ◌<◌, ◌⊎◌, inl, inr, Bool, true, false, not, ◌&&◌, ◌==◌, cond, List, Option, Some, None, All, length, ℤ, pos, negsuc, ◌-ℤ◌, ◌≤ℤ◌, arith, refl, sym, ◌∙◌, ap, subst}
use Rattle.std.specs.Prelude.{nat_lt, int_lt}
use Rattle.std.specs.Int.RustNames.{unsigned_abs}
use Rattle.std.proofs.lemmas.Bool.{both_ways, and_parts, eqb-true, ltb-true, eq-eqb}
use borrow.Author.Differences.{ints}
use Rattle.stow_data.specs.declared.geometry.Place.{Place}
use Rattle.stow_data.specs.declared.geometry.Span.{Span}
use Rattle.stow_data.specs.declared.geometry.Span.TheVariants.{Fore, Aft, Both}
use Rattle.stow_data.specs.Near.{near, near_by, meets, has_column_in_common}
use Rattle.proof_trees.specs.Program.{sum_to}
use Rattle.proof_trees.specs.Boxes.{Box, at, greatest, most}
use Rattle.zero_one_rows.specs.declared.program.Var.{Var}
use Rattle.zero_one_rows.specs.declared.program.Row.{Row}
use Rattle.zero_one_rows.specs.declared.program.Row.TheVariants.{Flow, Start, Cell, Support, Twenty, Block, Hatch, Weight, Apart, Cross}
use Rattle.zero_one_rows.specs.Variables.{Voyage, place, variables, var}
use Rattle.zero_one_rows.specs.Rows.{coef, rhs, has, whole, bit, less, half, above, covers, occ, occ_class, stay, out, into, moved, separation, is_call, is_place}
use Rattle.partial_plan.specs.Forced.{forces, is_above}
use Rattle.partial_plan.specs.Packing.{is_packing, AreOnes}
use Rattle.zero_one_rows.specs.Tightening.{IsCalm}
use Rattle.partial_plan.proofs.Landing.{landed, met_is, tight_by}

-- ## Tests that exclude each other

exclude : (a b : Bool) → (a ≡ true → b ≡ true → ⊥) → (a && b) ≡ false
exclude true true h = absurd (h refl refl)
exclude true false h = refl
exclude false b h = refl

left_true : (a b : Bool) → (a && b) ≡ true → a ≡ true
left_true a b h = (and_parts a b h).0

right_true : (a b : Bool) → (a && b) ≡ true → b ≡ true
right_true a b h = (and_parts a b h).1

-- lifted at a call, and lifted after it
ends_apart : (lifted j : ℕ) (c1 c2 b : Bool) → ((c1 && (b && (lifted == j))) && (c2 && (b && nat_lt j lifted))) ≡ false
ends_apart lifted j c1 c2 b = exclude (c1 && (b && (lifted == j))) (c2 && (b && nat_lt j lifted)) (λ x y.
    let p = eqb-true lifted j (right_true b (lifted == j) (right_true c1 (b && (lifted == j)) x)) in
    let q = ltb-true j lifted (right_true b (nat_lt j lifted) (right_true c2 (b && nat_lt j lifted) y)) in omega arith)

-- put at a call, and put before it
puts_apart : (put j : ℕ) (c1 c2 b : Bool) → ((c1 && (put == j)) && (c2 && (nat_lt put j && b))) ≡ false
puts_apart put j c1 c2 b = exclude (c1 && (put == j)) (c2 && (nat_lt put j && b)) (λ x y.
    let p = eqb-true put j (right_true c1 (put == j) x) in
    let q = ltb-true put j (left_true (nat_lt put j) b (right_true c2 (nat_lt put j && b) y)) in omega arith)

moved_apart : (m : Voyage) (w j h d : ℕ) (x : Var) → (moved m w j (half m h) x && stay m j (half m d) x) ≡ false
moved_apart m w j h d x = by (w == 0)
  where
    by : (b : Bool) → (cond b (out m j (half m h) x) (into m j (half m h) x) && stay m j (half m d) x) ≡ false
    by true = ends_apart x.lifted j (covers (place m x.place) (half m h)) (covers (place m x.place) (half m d)) (nat_lt x.put j)
    by false = puts_apart x.put j (covers (place m x.place) (half m h)) (covers (place m x.place) (half m d)) (nat_lt j x.lifted)

-- at two places
places_apart : (x p q : ℕ) (a b : Bool) → (p ≡ q → ⊥) → (((x == p) && a) && ((x == q) && b)) ≡ false
places_apart x p q a b h = exclude ((x == p) && a) ((x == q) && b) (λ y z.
    let e = eqb-true x p (left_true (x == p) a y) in
    let f = eqb-true x q (left_true (x == q) b z) in h (sym e ∙ f))

column_itself : (s : Span) → has_column_in_common s s ≡ true
column_itself Fore = refl
column_itself Aft = refl
column_itself Both = refl

and_true : (a b : Bool) → a ≡ true → b ≡ true → (a && b) ≡ true
and_true true b h k = k
and_true false b h k = absurd (both_ways false refl h)

meets_itself : (p : Place) → meets p p ≡ true
meets_itself p = and_true (p.stack == p.stack) ((p.tier == p.tier) && has_column_in_common p.span p.span) (eq-eqb p.stack p.stack refl) (and_true (p.tier == p.tier) (has_column_in_common p.span p.span) (eq-eqb p.tier p.tier refl) (column_itself p.span))

not_both : (b : Bool) → not b ≡ true → b ≡ true → ⊥
not_both true h k = both_ways false refl h
not_both false h k = both_ways false refl k

-- near places are two
near_differ : (m : Voyage) (level p q : ℕ) → near m.ship level (place m p) (place m q) ≡ true → p ≡ q → ⊥
near_differ m level p q h e =
    let k = subst (λ (z : ℕ). near m.ship level (place m p) (place m z) ≡ true) (sym e) h in
    not_both (meets (place m p) (place m p)) (right_true (near_by m.ship level (place m p) (place m p)) (not (meets (place m p) (place m p))) k) (meets_itself (place m p))

-- ## Coefficients

abbrev IsLow : ℤ → Type 0
IsLow a = (a ≡ pos 0) ⊎ (a ≡ negsuc 0)

one_low : (b : Bool) → IsLow (less b)
one_low true = inr refl
one_low false = inl refl

both_low : (a b : Bool) → (a && b) ≡ false → IsLow (less a -ℤ bit b)
both_low true true h = absurd (both_ways true h refl)
both_low true false h = inr refl
both_low false true h = inr refl
both_low false false h = inl refl

coef_low : (m : Voyage) (r : Row) (x : Var) → has m r ≡ true → is_packing r ≡ true → IsLow (coef m r x)
coef_low m (Flow q i g) x h p = absurd (both_ways false refl p)
coef_low m (Start q s) x h p = absurd (both_ways false refl p)
coef_low m (Cell i k) x h p = one_low (occ m i (half m k) x)
coef_low m (Support i k) x h p = absurd (both_ways false refl p)
coef_low m (Twenty i k) x h p = absurd (both_ways false refl p)
coef_low m (Block j k) x h p = both_low (out m j (half m k) x) (stay m j (above (half m k)) x) (ends_apart x.lifted j (covers (place m x.place) (half m k)) (covers (place m x.place) (above (half m k))) (nat_lt x.put j))
coef_low m (Hatch w j k d) x h p = both_low (moved m w j (half m k) x) (stay m j (half m d) x) (moved_apart m w j k d x)
coef_low m (Weight i k) x h p = absurd (both_ways false refl p)
coef_low m (Apart i e s t) x h p =
    let n = right_true (is_place m t) _ (right_true (is_place m s) _ (right_true (nat_lt e (length m.ship.separations)) _ (right_true (is_call m i) _ h))) in
    both_low (occ_class m i s (separation m e).a x) (occ_class m i t (separation m e).b x) (places_apart x.place s t _ _ (near_differ m (separation m e).level s t n))
coef_low m (Cross l s c) x h p = absurd (both_ways false refl p)

right_one : (m : Voyage) (r : Row) → is_packing r ≡ true → rhs m r ≡ negsuc 0
right_one m (Flow q i g) p = absurd (both_ways false refl p)
right_one m (Start q s) p = absurd (both_ways false refl p)
right_one m (Cell i k) p = refl
right_one m (Support i k) p = absurd (both_ways false refl p)
right_one m (Twenty i k) p = absurd (both_ways false refl p)
right_one m (Block j k) p = refl
right_one m (Hatch w j k d) p = refl
right_one m (Weight i k) p = absurd (both_ways false refl p)
right_one m (Apart i e s t) p = refl
right_one m (Cross l s c) p = absurd (both_ways false refl p)

-- ## What the row is worth

brings_none : (o : Option Bool) (a : ℤ) → IsLow a → (o ≡ Some true → a ≡ pos 0) → greatest o a ≡ pos 0
brings_none None a (inl e) one = ap (greatest None) e
brings_none None a (inr e) one = ap (greatest None) e
brings_none (Some true) a low one = one refl
brings_none (Some false) a low one = refl

sum_none : (n : ℕ) (f : ℕ → ℤ) → ((v : ℕ) → v < n → f v ≡ pos 0) → sum_to n f ≡ pos 0
sum_none zero f h = refl
sum_none (suc n) f h = omega (arith, ints, sum_none n f (λ v lt. h v (omega arith)), h n (omega arith))

unforced : (o : Option Bool) (a : ℤ) → IsLow a → forces (pos 1) o a ≡ false
unforced (Some y) a low = refl
unforced None a (inl e) = ap (λ (z : ℤ). int_lt (pos 1) (pos (unsigned_abs z))) e
unforced None a (inr e) = ap (λ (z : ℤ). int_lt (pos 1) (pos (unsigned_abs z))) e

stays : (o : Option Bool) (a : ℤ) → IsLow a → o ≡ landed (pos 1) o a
stays o a low = sym (ap (λ (c : Bool). cond c (Some (is_above a)) o) (unforced o a low))

pub idle_calm : (m : Voyage) (b : Box) (r : Row) (xs : List ℕ) → (whole m).has r ≡ true → length b ≡ length (variables m) → is_packing r ≡ true → AreOnes b xs → All (λ v. (whole m).coef r v ≡ pos 0) xs → IsCalm m b r
idle_calm m b r xs h len p ones none =
    let low : (v : ℕ) → IsLow ((whole m).coef r v) = λ v. coef_low m r (var m v) h p in
    let at_one : (v : ℕ) → at b v ≡ Some true → (whole m).coef r v ≡ pos 0 = λ v e.
    let c = ones.each v e in
    subst (λ (w : ℕ). (whole m).coef r w ≡ pos 0) c.2 (none c.0 v c.1) in
    let top : most (whole m) b r ≡ pos 0 = sum_none (length (variables m)) (λ v. greatest (at b v) ((whole m).coef r v)) (λ v lt. brings_none (at b v) ((whole m).coef r v) (low v) (at_one v)) in
    let right : (whole m).rhs r ≡ negsuc 0 = right_one m r p in
    let slack : pos 1 ≡ most (whole m) b r -ℤ (whole m).rhs r = omega (arith, ints, top, right) in
    let up : pos 0 ≤ℤ pos 1 = omega (arith, ints) in
    (met_is (whole m) b r (pos 1) slack up, sym (tight_by (whole m) b b r (pos 1) len len slack up (λ k lt. stays (at b k) ((whole m).coef r k) (low k))))
