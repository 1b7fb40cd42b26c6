-- Rows that are calm, by their slacks.
use Rattle.std.proofs.Common.{◌≡◌, ◌≢◌, ℕ, zero, suc, ◌<◌, ◌⊎◌, inl, inr, Bool, true, false, cond, List, [], ◌∷◌, Option, Some, None, length, get_or, map, ℤ, pos, ◌-ℤ◌, ◌≤ℤ◌, arith, refl, sym, ◌∙◌, ap, subst}
use Rattle.std.specs.Prelude.{int_lt}
use Rattle.std.specs.Int.RustNames.{unsigned_abs}
use borrow.Author.Differences.{ints}
use Rattle.std.proofs.lemmas.List.{get_or-set_same, get_or-set_other}
use Rattle.std.proofs.lemmas.List.FromFn.{get_or-map-range_with_len}
use Rattle.std.specs.List.{range_with_len}
use Rattle.proof_trees.specs.Boxes.{Box, at, fixed, most, tight, tight_at}
use Rattle.zero_one_rows.specs.declared.program.Row.{Row}
use Rattle.zero_one_rows.specs.Variables.{Voyage, variables}
use Rattle.zero_one_rows.specs.Rows.{whole}
use Rattle.zero_one_rows.specs.Counted.{base_rows}
use Rattle.zero_one_rows.specs.Ordered.{ListsBaseRows}
use Rattle.partial_plan.specs.Forced.{forces, is_above}
use Rattle.zero_one_rows.specs.Tightening.{IsCalm, IsQuiet}
use Rattle.row_matrix.proofs.Summing.{same_or_other}
use Rattle.partial_plan.proofs.Landing.{landed, met_is, tight_by, tight_landed}
use Rattle.row_matrix.specs.declared.slacks.Slacks.{Slacks}
use Rattle.row_matrix.specs.Terms.{count, row_at, slack_in}
use Rattle.row_matrix.specs.Waiting.{number_at, waits_at, waiting_in}
use Rattle.row_matrix.specs.Following.{Holds, IsWide, ChangedRowsWait}
use Rattle.partial_plan.specs.PropagationState.{CalmAt, Rests}

not_forced : (s a : ℤ) → pos (unsigned_abs a) ≤ℤ s → forces s None a ≡ false
not_forced s a h = grind (arith, ints)

pub wide_calm : (m : Voyage) (b : Box) (s : ℤ) (k : ℕ) → pos 0 ≤ℤ s → IsWide m s k → CalmAt m b s k
wide_calm m b s k met wide = record { met = met; still = λ v lt free. not_forced s ((whole m).coef (row_at m k) v) (wide v lt) }

pub calm_fewer : (m : Voyage) (b c : Box) (s : ℤ) (k : ℕ) → ((v : ℕ) → at c v ≡ None → at b v ≡ None) → CalmAt m b s k → CalmAt m c s k
calm_fewer m b c s k fewer h = record { met = h.met; still = λ v lt free. h.still v lt (fewer v free) }

pub rests_marks : (m : Voyage) (b c : Box) (old new : Slacks) → ((v : ℕ) → at c v ≡ None → at b v ≡ None) → ChangedRowsWait m old new → Rests m b old → Rests m c new
rests_marks m b c old new fewer marks rests k lt e = let q = marks k lt e in by q.0 q.1
  where
    by : waits_at old.waits.items k ≡ false → (number_at new.slack.items k ≡ number_at old.slack.items k) ⊎ ((pos 0 ≤ℤ number_at new.slack.items k) × IsWide m (number_at new.slack.items k) k) → CalmAt m c (number_at new.slack.items k) k
    by w (inl same) = subst (λ (z : ℤ). CalmAt m c z k) (sym same) (calm_fewer m b c (number_at old.slack.items k) k fewer (rests k lt w))
    by w (inr wide) = wide_calm m c (number_at new.slack.items k) k wide.0 wide.1

some_none : (o : Option Bool) (y : Bool) → o ≡ Some y → o ≡ None → ⊥
some_none o y e k = cc

pub fixed_fewer : (b : Box) (v : ℕ) (y : Bool) → v < length b → (w : ℕ) → at (fixed b v y) w ≡ None → at b w ≡ None
fixed_fewer b v y lt w free = by (same_or_other w v)
  where
    by : (w ≡ v) ⊎ (w ≢ v) → at b w ≡ None
    by (inl same) = absurd (some_none (at (fixed b v y) w) y (ap (at (fixed b v y)) same ∙ get_or-set_same b v (Some y) None lt) free)
    by (inr other) = sym (get_or-set_other b v w (Some y) None other) ∙ free

-- ## Calm rows and quiet boxes

bound_met : (s top rhs : ℤ) → s ≡ top -ℤ rhs → int_lt top rhs ≡ false → pos 0 ≤ℤ s
bound_met s top rhs e h = grind (arith, ints)

still_none : (c : Bool) (y : Bool) → cond c (Some y) None ≡ None → c ≡ false
still_none true y e = let k : Some y ≡ None = e in cc
still_none false y e = refl

pub calm_of : (m : Voyage) (b : Box) (s : ℤ) (k : ℕ) → length b ≡ length (variables m) → s ≡ slack_in m b k → IsCalm m b (row_at m k) → CalmAt m b s k
calm_of m b s k len is calm = record {
  met = met;
  still = λ v lt free.
      let t : tight_at (whole m) b (row_at m k) v ≡ landed s (at b v) ((whole m).coef (row_at m k) v) = tight_landed (whole m) b (row_at m k) v s (omega arith) lt is met in
      let g : at (map (λ w. tight_at (whole m) b (row_at m k) w) (range_with_len 0 (length (variables m)))) v ≡ tight_at (whole m) b (row_at m k) v = get_or-map-range_with_len (λ (w : ℕ). tight_at (whole m) b (row_at m k) w) 0 (length (variables m)) v v None lt (omega arith) in
      let u : tight (whole m) b (row_at m k) ≡ map (λ w. tight_at (whole m) b (row_at m k) w) (range_with_len 0 (length (variables m))) = ap (λ (c : Bool). cond c b (map (λ w. tight_at (whole m) b (row_at m k) w) (range_with_len 0 (length (variables m))))) calm.0 in
      let l : landed s None ((whole m).coef (row_at m k) v) ≡ None = sym (ap (λ (o : Option Bool). landed s o ((whole m).coef (row_at m k) v)) free) ∙ sym t ∙ sym g ∙ sym (ap (λ (c : Box). at c v) u) ∙ ap (λ (c : Box). at c v) calm.1 ∙ free in
      still_none (forces s None ((whole m).coef (row_at m k) v)) (is_above ((whole m).coef (row_at m k) v)) l;
}
  where
    met : pos 0 ≤ℤ s
    met = bound_met s (most (whole m) b (row_at m k)) ((whole m).rhs (row_at m k)) is calm.0

stays_landed : (s a : ℤ) (o : Option Bool) → (o ≡ None → forces s None a ≡ false) → o ≡ landed s o a
stays_landed s a (Some y) h = refl
stays_landed s a None h = sym (ap (λ (c : Bool). cond c (Some (is_above a)) None) (h refl))

pub is_calm : (m : Voyage) (b : Box) (s : ℤ) (k : ℕ) → length b ≡ length (variables m) → s ≡ slack_in m b k → CalmAt m b s k → IsCalm m b (row_at m k)
is_calm m b s k len is h = (met_is (whole m) b (row_at m k) s is h.met, sym (tight_by (whole m) b b (row_at m k) s len len is h.met (λ v lt. stays_landed s ((whole m).coef (row_at m k) v) (at b v) (h.still v lt))))

pub rests_quiet : (m : Voyage) (b : Box) (s : Slacks) → ListsBaseRows → Holds m b s → IsQuiet m b → Rests m b s
rests_quiet m b s lists h quiet k lt e = calm_of m b (number_at s.slack.items k) k h.whole (h.slack k lt) (quiet (row_at m k) ((lists m (row_at m k)).0 (k, lt, at_itself (base_rows m) k _ lt)))
  where
    at_itself : {X : Type 0} (xs : List X) (i : ℕ) (d : X) → i < length xs → get_or xs i (get_or xs i d) ≡ get_or xs i d
    at_itself [] i d lt = absurd (omega arith)
    at_itself (x ∷ xs) zero d lt = refl
    at_itself (x ∷ xs) (suc i) d lt = at_itself xs i d (omega arith)

pub quiet_rests : (m : Voyage) (b : Box) (s : Slacks) → ListsBaseRows → Holds m b s → Rests m b s → ((k : ℕ) → k < count m → waits_at s.waits.items k ≡ false) → IsQuiet m b
quiet_rests m b s lists h rests none r has =
    let c = (lists m r).1 has in
    let e : row_at m c.0 ≡ r = any_default (base_rows m) c.0 _ _ c.1 ∙ c.2 in
    subst (λ (t : Row). IsCalm m b t) e (is_calm m b (number_at s.slack.items c.0) c.0 h.whole (h.slack c.0 c.1) (rests c.0 c.1 (none c.0 c.1)))
  where
    any_default : {X : Type 0} (xs : List X) (i : ℕ) (d e : X) → i < length xs → get_or xs i d ≡ get_or xs i e
    any_default [] i d e lt = absurd (omega arith)
    any_default (x ∷ xs) zero d e lt = refl
    any_default (x ∷ xs) (suc i) d e lt = any_default xs i d e (omega arith)

pub holds_still : (m : Voyage) (b : Box) (old new : Slacks) → Holds m b old → new.slack ≡ old.slack → length new.waits.items ≡ length old.waits.items → new.waiting ≡ waiting_in new.waits.items → Holds m b new
holds_still m b old new h same len counted = record {
  whole = h.whole;
  short = record { slacks = ap (λ s. length s.items) same ∙ h.short.slacks; marks = len ∙ h.short.marks; count = counted };
  slack = λ k lt. ap (λ s. number_at s.items k) same ∙ h.slack k lt;
}
