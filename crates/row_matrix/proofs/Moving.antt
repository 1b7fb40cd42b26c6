-- Slacks that follow variables which are fixed and freed, and rows that wait.
use Rattle.std.proofs.Common.{◌≡◌, ℕ, ◌<◌, ◌≤◌, ◌^◌, ◌⊎◌, inl, inr, Bool, false, List, Some, None, length, set, get_or, ℤ, pos, ◌+ℤ◌, ◌-ℤ◌, ◌≤ℤ◌, arith, refl, sym, ◌∙◌, ap, subst}
use Rattle.std.specs.Prelude.{nat_eq}
use Rattle.std.specs.Int.RustNames.{unsigned_abs}
use borrow.Author.Differences.{ints}
use Rattle.std.proofs.lemmas.List.{get_or-set_same, get_or-set_other}
use Rattle.proof_trees.specs.Program.{where_set}
use Rattle.proof_trees.specs.Boxes.{Box, at, fixed, most}
use Rattle.zero_one_rows.specs.Variables.{Voyage, variables}
use Rattle.zero_one_rows.specs.Rows.{whole}
use Rattle.row_matrix.proofs.Summing.{same_or_other, equal, unequal}
use Rattle.row_matrix.proofs.Rows.{read}
use Rattle.row_matrix.proofs.GreatestValues.{most_less, most_more}
use Rattle.row_matrix.specs.declared.slacks.Slacks.{Slacks}
use Rattle.row_matrix.specs.Terms.{count, row_at, slack_in, loss}
use Rattle.row_matrix.specs.Terms.{IsSmall}
use Rattle.row_matrix.specs.Waiting.{number_at, waits_at, IsShort, Marked}
use Rattle.row_matrix.specs.Following.{Holds, IsWide, ChangedRowsWait}

-- ## Loops over losses

pub set_less : (s : List ℤ) (row : ℕ) (x y by : ℤ) → row < length s → x ≡ get_or s row x → y ≡ x -ℤ by → (r : ℕ) → number_at (set s row y) r ≡ number_at s r -ℤ where_set (nat_eq row r) by
set_less s row x y by lt is e r = elim (same_or_other r row) [
  | inl same ↦ rw (same, get_or-set_same s row y (pos 0) lt, equal row) (e ∙ ap (λ (z : ℤ). z -ℤ by) (read s row x (pos 0) lt is))
  | inr other ↦ rw (get_or-set_other s row r y (pos 0) other, unequal row r (λ h. other (sym h))) (omega (arith, ints))
]

pub set_more : (s : List ℤ) (row : ℕ) (x y by : ℤ) → row < length s → x ≡ get_or s row x → y ≡ x +ℤ by → (r : ℕ) → number_at (set s row y) r ≡ number_at s r +ℤ where_set (nat_eq row r) by
set_more s row x y by lt is e r = elim (same_or_other r row) [
  | inl same ↦ rw (same, get_or-set_same s row y (pos 0) lt, equal row) (e ∙ ap (λ (z : ℤ). z +ℤ by) (read s row x (pos 0) lt is))
  | inr other ↦ rw (get_or-set_other s row r y (pos 0) other, unequal row r (λ h. other (sym h))) (omega (arith, ints))
]

-- so far the number fell from where it began by all that is lost but for what is left to lose
pub record Falls (all left from now : ℤ) : Type 0 where
  pub sums : now -ℤ left ≡ from -ℤ all
  pub below : now ≤ℤ from

pub falls_none : (all from : ℤ) → Falls all all from from
falls_none all from = record { sums = refl; below = omega (arith, ints) }

pub falls_more : (all left this rest from now new : ℤ) → left ≡ this +ℤ rest → pos 0 ≤ℤ this → Falls all left from now → new ≡ now -ℤ this → Falls all rest from new
falls_more all left this rest from now new is least h e =
    let s : now -ℤ left ≡ from -ℤ all = h.sums in
    let b : now ≤ℤ from = h.below in
    record { sums = omega (arith, ints); below = omega (arith, ints) }

pub falls_end : (all left from now : ℤ) → left ≡ pos 0 → Falls all left from now → now ≡ from -ℤ all
falls_end all left from now is h = let s : now -ℤ left ≡ from -ℤ all = h.sums in omega (arith, ints)

pub falls_room : (all left from now : ℤ) → Falls all left from now → pos 0 ≤ℤ left → unsigned_abs from ≤ 2 ^ 38 → unsigned_abs (from -ℤ all) ≤ 2 ^ 38 → unsigned_abs now ≤ 2 ^ 38
falls_room all left from now h least first last =
    let s : now -ℤ left ≡ from -ℤ all = h.sums in
    let b : now ≤ℤ from = h.below in
    omega (arith, ints)

-- and there is room for a part of what is left
pub falls_part : (all left this rest from now : ℤ) → left ≡ this +ℤ rest → pos 0 ≤ℤ this → pos 0 ≤ℤ rest → Falls all left from now → unsigned_abs from ≤ 2 ^ 38 → unsigned_abs (from -ℤ all) ≤ 2 ^ 38 → unsigned_abs (now -ℤ this) ≤ 2 ^ 38
falls_part all left this rest from now is low least h first last =
    let s : now -ℤ left ≡ from -ℤ all = h.sums in
    let b : now ≤ℤ from = h.below in
    omega (arith, ints)

pub record Rises (all left from now : ℤ) : Type 0 where
  pub sums : now +ℤ left ≡ from +ℤ all
  pub above : from ≤ℤ now

pub rises_none : (all from : ℤ) → Rises all all from from
rises_none all from = record { sums = refl; above = omega (arith, ints) }

pub rises_more : (all left this rest from now new : ℤ) → left ≡ this +ℤ rest → pos 0 ≤ℤ this → Rises all left from now → new ≡ now +ℤ this → Rises all rest from new
rises_more all left this rest from now new is least h e =
    let s : now +ℤ left ≡ from +ℤ all = h.sums in
    let b : from ≤ℤ now = h.above in
    record { sums = omega (arith, ints); above = omega (arith, ints) }

pub rises_end : (all left from now : ℤ) → left ≡ pos 0 → Rises all left from now → now ≡ from +ℤ all
rises_end all left from now is h = let s : now +ℤ left ≡ from +ℤ all = h.sums in omega (arith, ints)

pub rises_room : (all left from now : ℤ) → Rises all left from now → pos 0 ≤ℤ left → unsigned_abs from ≤ 2 ^ 38 → unsigned_abs (from +ℤ all) ≤ 2 ^ 38 → unsigned_abs now ≤ 2 ^ 38
rises_room all left from now h least first last =
    let s : now +ℤ left ≡ from +ℤ all = h.sums in
    let b : from ≤ℤ now = h.above in
    omega (arith, ints)

pub rises_part : (all left this rest from now : ℤ) → left ≡ this +ℤ rest → pos 0 ≤ℤ this → pos 0 ≤ℤ rest → Rises all left from now → unsigned_abs from ≤ 2 ^ 38 → unsigned_abs (from +ℤ all) ≤ 2 ^ 38 → unsigned_abs (now +ℤ this) ≤ 2 ^ 38
rises_part all left this rest from now is low least h first last =
    let s : now +ℤ left ≡ from +ℤ all = h.sums in
    let b : from ≤ℤ now = h.above in
    omega (arith, ints)

-- ## Rows that wait

pub marked_none : (tops : List ℕ) (a : Slacks) → Marked tops a a
marked_none tops a r e = (e, inl refl)

pub marked_more : (tops : List ℕ) (a b c : Slacks) → Marked tops a b → Marked tops b c → Marked tops a c
marked_more tops a b c h k r e = by (k r e)
  where
    both : (number_at b.slack.items r ≡ number_at a.slack.items r) ⊎ (pos (get_or tops r 0) ≤ℤ number_at b.slack.items r) → (number_at c.slack.items r ≡ number_at b.slack.items r) ⊎ (pos (get_or tops r 0) ≤ℤ number_at c.slack.items r)
        → (number_at c.slack.items r ≡ number_at a.slack.items r) ⊎ (pos (get_or tops r 0) ≤ℤ number_at c.slack.items r)
    both (inl s) (inl t) = inl (t ∙ s)
    both (inr w) (inl t) = inr (omega (arith, ints))
    both x (inr w) = inr w

    by : (waits_at b.waits.items r ≡ false) × ((number_at c.slack.items r ≡ number_at b.slack.items r) ⊎ (pos (get_or tops r 0) ≤ℤ number_at c.slack.items r)) → (waits_at a.waits.items r ≡ false) × ((number_at c.slack.items r ≡ number_at a.slack.items r) ⊎ (pos (get_or tops r 0) ≤ℤ number_at c.slack.items r))
    by p = let q = h r p.0 in (q.0, both q.1 p.1)

pub marks_none : (m : Voyage) (a : Slacks) → ChangedRowsWait m a a
marks_none m a k lt e = (e, inl refl)

pub marks_more : (m : Voyage) (a b c : Slacks) → ChangedRowsWait m a b → ChangedRowsWait m b c → ChangedRowsWait m a c
marks_more m a b c h g k lt e = by (g k lt e)
  where
    both : (number_at b.slack.items k ≡ number_at a.slack.items k) ⊎ ((pos 0 ≤ℤ number_at b.slack.items k) × IsWide m (number_at b.slack.items k) k) → (number_at c.slack.items k ≡ number_at b.slack.items k) ⊎ ((pos 0 ≤ℤ number_at c.slack.items k) × IsWide m (number_at c.slack.items k) k)
        → (number_at c.slack.items k ≡ number_at a.slack.items k) ⊎ ((pos 0 ≤ℤ number_at c.slack.items k) × IsWide m (number_at c.slack.items k) k)
    both (inl s) (inl t) = inl (t ∙ s)
    both (inr w) (inl t) = inr (subst (λ (z : ℤ). (pos 0 ≤ℤ z) × IsWide m z k) (sym t) w)
    both x (inr w) = inr w

    by : (waits_at b.waits.items k ≡ false) × ((number_at c.slack.items k ≡ number_at b.slack.items k) ⊎ ((pos 0 ≤ℤ number_at c.slack.items k) × IsWide m (number_at c.slack.items k) k))
        → (waits_at a.waits.items k ≡ false) × ((number_at c.slack.items k ≡ number_at a.slack.items k) ⊎ ((pos 0 ≤ℤ number_at c.slack.items k) × IsWide m (number_at c.slack.items k) k))
    by p = let q = h k lt p.0 in (q.0, both q.1 p.1)

-- no coefficient passes the tops
pub marks_are : (m : Voyage) (tops : List ℕ) (old new : Slacks) → ((k v : ℕ) → k < count m → v < length (variables m) → unsigned_abs ((whole m).coef (row_at m k) v) ≤ get_or tops k 0) → Marked tops old new → ChangedRowsWait m old new
marks_are m tops old new small h k lt e = let q = h k e in (q.0, by q.1)
  where
    wide : (s : ℤ) (a : ℤ) (top : ℕ) → unsigned_abs a ≤ top → pos top ≤ℤ s → pos (unsigned_abs a) ≤ℤ s
    wide s a top x y = omega (arith, ints)

    by : (number_at new.slack.items k ≡ number_at old.slack.items k) ⊎ (pos (get_or tops k 0) ≤ℤ number_at new.slack.items k) → (number_at new.slack.items k ≡ number_at old.slack.items k) ⊎ ((pos 0 ≤ℤ number_at new.slack.items k) × IsWide m (number_at new.slack.items k) k)
    by (inl s) = inl s
    by (inr w) = inr (omega (arith, ints), λ v v_lt. wide (number_at new.slack.items k) ((whole m).coef (row_at m k) v) (get_or tops k 0) (small k v lt v_lt) w)

-- ## Slacks of a box in which one variable changes

module _ (m : Voyage) (b : Box) (v : ℕ) (y : Bool) (s : Slacks) (holds : Holds m b s) (lt : v < length b) where
  inside : v < length (variables m)
  inside = let e : length b ≡ length (variables m) = holds.whole in omega arith

  pub slack_fixed : at b v ≡ None → (k : ℕ) → k < count m → (l : ℤ) → l ≡ loss y ((whole m).coef (row_at m k) v) → number_at s.slack.items k -ℤ l ≡ slack_in m (fixed b v y) k
  slack_fixed free k k_lt l is =
      let o : number_at s.slack.items k ≡ slack_in m b k = holds.slack k k_lt in
      let e : most (whole m) (fixed b v y) (row_at m k) ≡ most (whole m) b (row_at m k) -ℤ loss y ((whole m).coef (row_at m k) v) = most_less (whole m) b (row_at m k) v y lt inside free in
      omega (arith, ints)

  pub slack_freed : at b v ≡ Some y → (k : ℕ) → k < count m → (l : ℤ) → l ≡ loss y ((whole m).coef (row_at m k) v) → number_at s.slack.items k +ℤ l ≡ slack_in m (set b v None) k
  slack_freed is k k_lt l l_is =
      let o : number_at s.slack.items k ≡ slack_in m b k = holds.slack k k_lt in
      let e : most (whole m) (set b v None) (row_at m k) ≡ most (whole m) b (row_at m k) +ℤ loss y ((whole m).coef (row_at m k) v) = most_more (whole m) b (row_at m k) v y lt inside is in
      omega (arith, ints)

pub slack_small : (m : Voyage) (c : Box) (k : ℕ) (z : ℤ) → IsSmall m (row_at m k) → z ≡ slack_in m c k → unsigned_abs z ≤ 2 ^ 38
slack_small m c k z small e = subst (λ (x : ℤ). unsigned_abs x ≤ 2 ^ 38) (sym e) (small c)

pub holds_of : (m : Voyage) (b c : Box) (s t : Slacks) → Holds m b s → length c ≡ length b → IsShort t (count m) → ((k : ℕ) → k < count m → number_at t.slack.items k ≡ slack_in m c k) → Holds m c t
holds_of m b c s t h len short each = record { whole = len ∙ h.whole; short = short; slack = each }

pub room : (m : Voyage) (b : Box) (s : Slacks) → ((k : ℕ) → k < count m → IsSmall m (row_at m k)) → Holds m b s → (k : ℕ) → k < count m → unsigned_abs (number_at s.slack.items k) ≤ 2 ^ 38
room m b s small h k lt = subst (λ (z : ℤ). unsigned_abs z ≤ 2 ^ 38) (sym (h.slack k lt)) (small k lt b)
