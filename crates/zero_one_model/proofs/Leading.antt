-- Runs of rows, and the row that stands for each.
use Rattle.std.proofs.Common.{◌≡◌, ◌≢◌, ℕ, ◌<◌, ◌+◌, Bool, true, false, ◌==◌, cond, arith, refl, sym, ◌∙◌, ap}
use Rattle.std.specs.Prelude.{map, nat_lt}
use Rattle.std.specs.List.{range_with_len}
use Rattle.std.proofs.lemmas.Bool.{eqb-true, eq-eqb, ltb-true, lt-ltb, false≢true}
use Rattle.stow_data.specs.Ship.{Ship}
use Rattle.stow_data.proofs.Members.{Member, map_at}
use Rattle.zero_one_rows.specs.declared.program.Row.{Row}
use Rattle.zero_one_rows.specs.declared.program.Row.TheVariants.{Flow, Start, Cell, Support, Twenty, Block, Hatch, Weight, Apart, Cross}
use Rattle.zero_one_rows.specs.declared.program.Var.{Var}
use Rattle.zero_one_rows.specs.Variables.{Voyage, calls}
use Rattle.zero_one_rows.specs.Rows.{has, is_base, is_call}
use Rattle.zero_one_rows.proofs.EveryRow.{both}
use Rattle.zero_one_rows.proofs.Rising.{Rising, rising_map, rising_range}
use Rattle.zero_one_model.specs.Runs.{at_call, call_of, lead, is_shelved, leads, first_shelf, second_shelf, no_shelf, first_file, second_file, calls_for, run_of}
use Rattle.zero_one_model.proofs.Sized.{first_true, second_true}

pub again : (r : Row) → at_call (lead r) (call_of r) ≡ r
again (Flow q i g) = refl
again (Start q p) = refl
again (Cell i h) = refl
again (Support i h) = refl
again (Twenty i h) = refl
again (Block j h) = refl
again (Hatch w j h d) = refl
again (Weight i k) = refl
again (Apart i e p q) = refl
again (Cross l p c) = refl

lead_at : (r : Row) (n : ℕ) → lead (at_call r n) ≡ lead r
lead_at (Flow q i g) n = refl
lead_at (Start q p) n = refl
lead_at (Cell i h) n = refl
lead_at (Support i h) n = refl
lead_at (Twenty i h) n = refl
lead_at (Block j h) n = refl
lead_at (Hatch w j h d) n = refl
lead_at (Weight i k) n = refl
lead_at (Apart i e p q) n = refl
lead_at (Cross l p c) n = refl

-- runs of these differ where the tags do
abbrev pub tag : Row → ℕ
tag (Flow q i g) = q
tag (Start q p) = 2 + q
tag (Cell i h) = 5
tag (Support i h) = 5
tag (Twenty i h) = 5
tag (Block j h) = 5
tag (Hatch w j h d) = 5
tag (Weight i k) = 4
tag (Apart i e p q) = 5
tag (Cross l p c) = 6 + l

tag_lead : (r : Row) → tag (lead r) ≡ tag r
tag_lead (Flow q i g) = refl
tag_lead (Start q p) = refl
tag_lead (Cell i h) = refl
tag_lead (Support i h) = refl
tag_lead (Twenty i h) = refl
tag_lead (Block j h) = refl
tag_lead (Hatch w j h d) = refl
tag_lead (Weight i k) = refl
tag_lead (Apart i e p q) = refl
tag_lead (Cross l p c) = refl

abbrev pub OtherRun : Row → Row → Type 0
OtherRun r s = lead r ≢ lead s

pub by_tag : (r s : Row) → tag r < tag s → OtherRun r s
by_tag r s l e = let a : tag (lead r) ≡ tag (lead s) = ap (λ (z : Row). tag z) e in let b = tag_lead r in let c = tag_lead s in omega (arith, l, a, b, c)

-- what is filed leads a run of a filed family
pub leads_lead : (r : Row) → leads r ≡ true → lead r ≡ r
leads_lead (Flow q i g) h = absurd (false≢true h)
leads_lead (Start q p) h = absurd (false≢true h)
leads_lead (Cell i h) e = ap (λ (z : ℕ). Cell z h) (sym (eqb-true i 1 e))
leads_lead (Support i h) e = ap (λ (z : ℕ). Support z h) (sym (eqb-true i 1 e))
leads_lead (Twenty i h) e = ap (λ (z : ℕ). Twenty z h) (sym (eqb-true i 1 e))
leads_lead (Block j h) e = ap (λ (z : ℕ). Block z h) (sym (eqb-true j 1 e))
leads_lead (Hatch w j h d) e = ap (λ (z : ℕ). Hatch w z h d) (sym (eqb-true j 1 e))
leads_lead (Weight i k) h = absurd (false≢true h)
leads_lead (Apart i e p q) h = ap (λ (z : ℕ). Apart z e p q) (sym (eqb-true i 1 h))
leads_lead (Cross l p c) h = absurd (false≢true h)

pub leads_tag : (r : Row) → leads r ≡ true → tag r ≡ 5
leads_tag (Flow q i g) h = absurd (false≢true h)
leads_tag (Start q p) h = absurd (false≢true h)
leads_tag (Cell i h) e = refl
leads_tag (Support i h) e = refl
leads_tag (Twenty i h) e = refl
leads_tag (Block j h) e = refl
leads_tag (Hatch w j h d) e = refl
leads_tag (Weight i k) h = absurd (false≢true h)
leads_tag (Apart i e p q) h = refl
leads_tag (Cross l p c) h = absurd (false≢true h)

passed : (b : Bool) (a n s : ℕ) → s < n → cond b a n ≡ s → b ≡ true
passed true a n s l e = refl
passed false a n s l e = absurd (omega (arith, l, e))

two_files : (b l : Bool) (one two n s : ℕ) → s < n → (two == one) ≡ b → cond l one n ≡ s → cond b n (cond l two n) ≡ s → ⊥
two_files true l one two n s k t e f = omega (arith, k, f)
two_files false false one two n s k t e f = omega (arith, k, f)
two_files false true one two n s k t e f = false≢true (sym t ∙ eq-eqb two one (f ∙ sym e))

second_passed : (b l : Bool) (a n s : ℕ) → s < n → cond b n (cond l a n) ≡ s → l ≡ true
second_passed true l a n s k e = absurd (omega (arith, k, e))
second_passed false l a n s k e = passed l a n s k e

module _ (ship : Ship) (s : ℕ) (low : s < no_shelf ship) where
  pub first_leads : (r : Row) → first_file ship r ≡ s → leads r ≡ true
  first_leads r e = passed (leads r) (first_shelf ship r) (no_shelf ship) s low e

  pub second_leads : (r : Row) → second_file ship r ≡ s → leads r ≡ true
  second_leads r e = second_passed (second_shelf ship r == first_shelf ship r) (leads r) (second_shelf ship r) (no_shelf ship) s low e

  pub filed_once : (r : Row) → first_file ship r ≡ s → second_file ship r ≡ s → ⊥
  filed_once r e f = two_files (second_shelf ship r == first_shelf ship r) (leads r) (first_shelf ship r) (second_shelf ship r) (no_shelf ship) s low refl e f

-- the file of a run's lead
pub lead_first : (ship : Ship) (s : ℕ) (r : Row) → is_shelved r ≡ true → first_shelf ship r ≡ s → first_file ship (lead r) ≡ s
lead_first ship s (Flow q i g) t e = absurd (false≢true t)
lead_first ship s (Start q p) t e = absurd (false≢true t)
lead_first ship s (Cell i h) t e = e
lead_first ship s (Support i h) t e = e
lead_first ship s (Twenty i h) t e = e
lead_first ship s (Block j h) t e = e
lead_first ship s (Hatch w j h d) t e = e
lead_first ship s (Weight i k) t e = absurd (false≢true t)
lead_first ship s (Apart i x p q) t e = e
lead_first ship s (Cross l p c) t e = absurd (false≢true t)

by_second : (b : Bool) (two n s : ℕ) → b ≡ false → two ≡ s → cond b n (cond true two n) ≡ s
by_second true two n s t e = absurd (false≢true (sym t))
by_second false two n s t e = e

pub lead_second : (ship : Ship) (s : ℕ) (r : Row) → is_shelved r ≡ true → (second_shelf ship r == first_shelf ship r) ≡ false → second_shelf ship r ≡ s → second_file ship (lead r) ≡ s
lead_second ship s (Flow q i g) t ne e = absurd (false≢true t)
lead_second ship s (Start q p) t ne e = absurd (false≢true t)
lead_second ship s (Cell i h) t ne e = by_second (second_shelf ship (Cell i h) == first_shelf ship (Cell i h)) (second_shelf ship (Cell i h)) (no_shelf ship) s ne e
lead_second ship s (Support i h) t ne e = by_second (second_shelf ship (Support i h) == first_shelf ship (Support i h)) (second_shelf ship (Support i h)) (no_shelf ship) s ne e
lead_second ship s (Twenty i h) t ne e = by_second (second_shelf ship (Twenty i h) == first_shelf ship (Twenty i h)) (second_shelf ship (Twenty i h)) (no_shelf ship) s ne e
lead_second ship s (Block j h) t ne e = by_second (second_shelf ship (Block j h) == first_shelf ship (Block j h)) (second_shelf ship (Block j h)) (no_shelf ship) s ne e
lead_second ship s (Hatch w j h d) t ne e = by_second (second_shelf ship (Hatch w j h d) == first_shelf ship (Hatch w j h d)) (second_shelf ship (Hatch w j h d)) (no_shelf ship) s ne e
lead_second ship s (Weight i k) t ne e = absurd (false≢true t)
lead_second ship s (Apart i x p q) t ne e = by_second (second_shelf ship (Apart i x p q) == first_shelf ship (Apart i x p q)) (second_shelf ship (Apart i x p q)) (no_shelf ship) s ne e
lead_second ship s (Cross l p c) t ne e = absurd (false≢true t)

-- the lead of a filed run is a base row too
first_call : (m : Voyage) (i : ℕ) → is_call m i ≡ true → is_call m 1 ≡ true
first_call m i h =
    let a : 0 < i = ltb-true 0 i (first_true _ _ h) in
    let b : i < calls m = ltb-true i (calls m) (second_true _ _ h) in
    lt-ltb 1 (calls m) (omega (arith, a, b))

pub lead_base : (r : Row) → is_shelved r ≡ true → is_base (lead r) ≡ true
lead_base (Flow q i g) t = absurd (false≢true t)
lead_base (Start q p) t = absurd (false≢true t)
lead_base (Cell i h) t = refl
lead_base (Support i h) t = refl
lead_base (Twenty i h) t = refl
lead_base (Block j h) t = refl
lead_base (Hatch w j h d) t = refl
lead_base (Weight i k) t = absurd (false≢true t)
lead_base (Apart i e p q) t = refl
lead_base (Cross l p c) t = absurd (false≢true t)

pub lead_has : (m : Voyage) (r : Row) → is_shelved r ≡ true → has m r ≡ true → has m (lead r) ≡ true
lead_has m (Flow q i g) t h = absurd (false≢true t)
lead_has m (Start q p) t h = absurd (false≢true t)
lead_has m (Cell i k) t h = both (is_call m 1) _ (first_call m i (first_true _ _ h)) (second_true _ _ h)
lead_has m (Support i k) t h = both (is_call m 1) _ (first_call m i (first_true _ _ h)) (second_true _ _ h)
lead_has m (Twenty i k) t h = both (is_call m 1) _ (first_call m i (first_true _ _ h)) (second_true _ _ h)
lead_has m (Block j k) t h = both (is_call m 1) _ (first_call m j (first_true _ _ h)) (second_true _ _ h)
lead_has m (Hatch w j k d) t h = both (nat_lt w 2) _ (first_true _ _ h) (both (is_call m 1) _ (first_call m j (first_true _ _ (second_true _ _ h))) (second_true _ _ (second_true _ _ h)))
lead_has m (Weight i k) t h = absurd (false≢true t)
lead_has m (Apart i e p q) t h = both (is_call m 1) _ (first_call m i (first_true _ _ h)) (second_true _ _ h)
lead_has m (Cross l p c) t h = absurd (false≢true t)

-- rows of one run have one lead, and differ
module _ (m : Voyage) (v : Var) where
  pub run_lead : (r y : Row) → Member y (run_of m v r) → lead y ≡ lead r
  run_lead r y h = let c = map_at (at_call r) (calls_for m v r) y h in ap (λ (z : Row). lead z) c.2 ∙ lead_at r c.0

  mapped : (f : ℕ → Row) → ((n k : ℕ) → f n ≡ f k → n ≡ k) → (a n : ℕ) → Rising (λ (y z : Row). y ≢ z) (map f (range_with_len a n))
  mapped f same a n = rising_map (λ (y z : Row). y ≢ z) (λ (x y : ℕ). x < y) f (range_with_len a n) (rising_range a n) (λ x y l e. let q : x ≡ y = same x y e in omega (arith, l, q))

  pub run_rises : (r : Row) → Rising (λ (y z : Row). y ≢ z) (run_of m v r)
  run_rises (Flow q i g) = mapped (λ n. Flow q n g) (λ n k e. ap call_of e) _ _
  run_rises (Start q p) = (tt, tt)
  run_rises (Cell i h) = mapped (λ n. Cell n h) (λ n k e. ap call_of e) _ _
  run_rises (Support i h) = mapped (λ n. Support n h) (λ n k e. ap call_of e) _ _
  run_rises (Twenty i h) = mapped (λ n. Twenty n h) (λ n k e. ap call_of e) _ _
  run_rises (Block j h) = mapped (λ n. Block n h) (λ n k e. ap call_of e) _ _
  run_rises (Hatch w j h d) = mapped (λ n. Hatch w n h d) (λ n k e. ap call_of e) _ _
  run_rises (Weight i k) = mapped (λ n. Weight n k) (λ n k e. ap call_of e) _ _
  run_rises (Apart i e p q) = mapped (λ n. Apart n e p q) (λ n k e. ap call_of e) _ _
  run_rises (Cross l p c) = mapped (λ n. Cross l n c) (λ n k e. ap call_of e) _ _
