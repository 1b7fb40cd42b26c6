-- Base rows that are looked at in order, and what one look does.
use Rattle.std.proofs.Common.{◌≡◌, ◌≢◌, ℕ, zero, suc, ◌+◌, ◌<◌, ◌≤◌, ◌⊎◌, inl, inr, Bool, true, false, cond, List, [], ◌∷◌, ◌++◌, Some, None, All, length, length-append, set, take, drop, arith, refl, sym, ◌∙◌, ap, subst, append-nil}
use Rattle.std.specs.Prelude.{nat_eq, slice_get, Result, Ok, Err, OnOk, OnErr}
use Rattle.std.specs.Option.{is_some}
use Rattle.std.proofs.Math.Seq.{drop-append_seam, take-append_seam}
use Rattle.std.proofs.lemmas.Option.{slice_get-get_or}
use Rattle.proof_trees.specs.Boxes.{Box, at, violated, tight}
use Rattle.zero_one_rows.specs.declared.program.Row.{Row}
use Rattle.zero_one_rows.specs.Variables.{Voyage}
use Rattle.zero_one_rows.specs.Rows.{base, whole}
use Rattle.zero_one_rows.specs.Counted.{base_rows}
use Rattle.zero_one_rows.specs.Ordered.{ListsBaseRows}
use Rattle.partial_plan.specs.Fixing.{freed, released, Fixes}
use Rattle.partial_plan.specs.Full.{BreaksNone}
use Rattle.zero_one_rows.specs.Tightening.{IsCalm, IsQuiet}
use Rattle.partial_plan.specs.Tightening.{Tightens}
use Rattle.row_matrix.proofs.Summing.{same_or_other, equal, unequal}
use Rattle.partial_plan.proofs.Freeing.{freed_length, noted_none}
use Rattle.partial_plan.proofs.Steps.{tightens_none, tightens_one}

-- what was noted behind a list
abbrev pub Noted : Box → Box → List ℕ → List ℕ → Type 0
Noted b c undo undo' = (xs : List ℕ) × (undo' ≡ undo ++ xs) × Fixes b c xs

-- ## What was noted is taken back

pub past_seam : (undo undo' xs : List ℕ) → undo' ≡ undo ++ xs → drop (length undo) undo' ≡ xs
past_seam undo undo' xs e = ap (drop (length undo)) e ∙ drop-append_seam undo xs

pub back_box : (b c : Box) (undo undo' : List ℕ) → Noted b c undo undo' → released c undo' (length undo) ≡ b
back_box b c undo undo' h = ap (λ (xs : List ℕ). freed c xs) (past_seam undo undo' h.0 h.1) ∙ h.2.back

pub back_undo : (b c : Box) (undo undo' : List ℕ) → Noted b c undo undo' → take (length undo) undo' ≡ undo
back_undo b c undo undo' h = ap (take (length undo)) h.1 ∙ take-append_seam undo h.0

noted_length : (b c : Box) (undo undo' : List ℕ) → Noted b c undo undo' → length c ≡ length b
noted_length b c undo undo' h = sym (freed_length c h.0) ∙ ap (λ (x : Box). length x) h.2.back

pub back_inside : (b c : Box) (undo undo' : List ℕ) → Noted b c undo undo' → All (λ v. v < length c) (drop (length undo) undo')
back_inside b c undo undo' h = subst (λ (xs : List ℕ). All (λ v. v < length c) xs) (sym (past_seam undo undo' h.0 h.1)) (subst (λ (n : ℕ). All (λ v. v < n) h.0) (sym (noted_length b c undo undo' h)) h.2.inside)

pub back_before : (b c : Box) (undo undo' : List ℕ) → Noted b c undo undo' → length undo ≤ length undo'
back_before b c undo undo' h = omega (arith, ap (λ (xs : List ℕ). length xs) h.1 ∙ length-append undo h.0)

-- ## A row that noted something changed the box

set_none : (d : Box) (w x : ℕ) → at d x ≡ None → at (set d w None) x ≡ None
set_none [] w x e = refl
set_none (z ∷ d) zero zero e = refl
set_none (z ∷ d) zero (suc x) e = e
set_none (z ∷ d) (suc w) zero e = e
set_none (z ∷ d) (suc w) (suc x) e = set_none d w x e

set_here : (d : Box) (x : ℕ) → at (set d x None) x ≡ None
set_here [] x = refl
set_here (z ∷ d) zero = refl
set_here (z ∷ d) (suc x) = set_here d x

freed_none : (d : Box) (xs : List ℕ) (x : ℕ) → at d x ≡ None → at (freed d xs) x ≡ None
freed_none d [] x e = e
freed_none d (w ∷ ws) x e = freed_none (set d w None) ws x (set_none d w x e)

fixes_other : (b c : Box) (x : ℕ) (xs : List ℕ) → Fixes b c (x ∷ xs) → c ≢ b
fixes_other b c x xs h same =
    let free : at c x ≡ None = ap (λ (d : Box). at d x) (same ∙ sym h.back) ∙ freed_none (set c x None) xs x (set_here c x) in
    let some : is_some (at c x) ≡ true = h.each 0 0 (omega arith) in
    let none : is_some (at c x) ≡ false = ap is_some free in
    absurd (grind arith)

longer : (undo undo' xs : List ℕ) (x : ℕ) → undo' ≡ undo ++ (x ∷ xs) → length undo' ≢ length undo
longer undo undo' xs x e same = omega (arith, ap (λ (ys : List ℕ). length ys) e ∙ length-append undo (x ∷ xs))

module _ (m : Voyage) (b c : Box) (r : Row) (undo undo' : List ℕ) (old new : List Row) (has : (base m).has r ≡ true) (is : c ≡ tight (whole m) b r) (added : new ≡ old ++ cond (nat_eq (length undo') (length undo)) [] (r ∷ [])) where
  nothing_more : (xs : List ℕ) → undo' ≡ undo ++ xs → xs ≡ [] → new ≡ old
  nothing_more xs e none =
      let same : length undo' ≡ length undo = ap (λ (ys : List ℕ). length ys) e ∙ ap (λ (ys : List ℕ). length (undo ++ ys)) none ∙ ap (λ (ys : List ℕ). length ys) (append-nil undo) in
      added ∙ ap (λ (k : ℕ). old ++ cond (nat_eq k (length undo)) [] (r ∷ [])) same ∙ ap (λ (t : Bool). old ++ cond t [] (r ∷ [])) (equal (length undo)) ∙ append-nil old

  one_more : (x : ℕ) (xs : List ℕ) → undo' ≡ undo ++ (x ∷ xs) → new ≡ old ++ r ∷ []
  one_more x xs e = added ∙ ap (λ (t : Bool). old ++ cond t [] (r ∷ [])) (unequal (length undo') (length undo) (longer undo undo' xs x e))

  pub force_steps : Noted b c undo undo' → Tightens m b c old new
  force_steps h = by h.0 h.1 h.2
    where
      by : (xs : List ℕ) → undo' ≡ undo ++ xs → Fixes b c xs → Tightens m b c old new
      by [] e f =
          let k : new ≡ old = nothing_more [] e refl in
          let t : Tightens m b b old old = tightens_none m b old in
          subst (λ (d : Box). Tightens m b d old new) (sym f.back) (subst (λ (ss : List Row). Tightens m b b old ss) (sym k) t)
      by (x ∷ xs) e f = tightens_one m b c old new r has (one_more x xs e) is (λ (k : tight (whole m) b r ≡ b). fixes_other b c x xs f (is ∙ k))

  pub force_calm : Noted b c undo undo' → violated (whole m) b r ≡ false → new ≡ old → (c ≡ b) × IsCalm m b r
  force_calm h met same = by h.0 h.1 h.2
    where
      by : (xs : List ℕ) → undo' ≡ undo ++ xs → Fixes b c xs → (c ≡ b) × IsCalm m b r
      by [] e f = (f.back, (met, sym is ∙ f.back))
      by (x ∷ xs) e f = absurd (omega (arith, ap (λ (ss : List Row). length ss) (sym same ∙ one_more x xs e) ∙ length-append old (r ∷ [])))

-- ## A step is kept, or freed again

pub kept_or_freed : {T E A A' B B' C : Type 0} (r : Result T E) → OnOk r A → OnOk r A' → OnErr r B → OnErr r B' → (A → A' → C) → (B → B' → C) → C
kept_or_freed (Ok x) a a' b b' f g = f a a'
kept_or_freed (Err y) a a' b b' f g = g b b'

module _ (m : Voyage) (b mid last : Box) (r : Row) (undo undo_mid undo_last : List ℕ) (old new : List Row) (before : ℕ) (is_before : before ≡ length undo) (noted : Noted b mid undo undo_mid) where
  pub kept_steps : (base m).has r ≡ true → mid ≡ tight (whole m) b r → (last ≡ mid) × (undo_last ≡ undo_mid) → new ≡ old ++ cond (nat_eq (length undo_mid) before) [] (r ∷ []) → Tightens m b last old new
  kept_steps has is stays added = subst (λ (d : Box). Tightens m b d old new) (sym stays.0) (force_steps m b mid r undo undo_mid old new has is (added ∙ ap (λ (k : ℕ). old ++ cond (nat_eq (length undo_mid) k) [] (r ∷ [])) is_before) noted)

  back : last ≡ released mid undo_mid before → last ≡ b
  back is = is ∙ ap (released mid undo_mid) is_before ∙ back_box b mid undo undo_mid noted

  pub freed_steps : (last ≡ released mid undo_mid before) × (undo_last ≡ take before undo_mid) → new ≡ old → Tightens m b last old new
  freed_steps is same = subst (λ (d : Box). Tightens m b d old new) (sym (back is.0)) (subst (λ (ss : List Row). Tightens m b b old ss) (sym same) (tightens_none m b old))

  pub kept_noted : (last ≡ mid) × (undo_last ≡ undo_mid) → Noted b last undo undo_last
  kept_noted stays = subst (λ (us : List ℕ). Noted b last undo us) (sym stays.1) (subst (λ (d : Box). Noted b d undo undo_mid) (sym stays.0) noted)

  pub freed_noted : (last ≡ released mid undo_mid before) × (undo_last ≡ take before undo_mid) → Noted b last undo undo_last
  freed_noted is =
      let u : undo_last ≡ undo = is.1 ∙ ap (λ (k : ℕ). take k undo_mid) is_before ∙ back_undo b mid undo undo_mid noted in
      subst (λ (us : List ℕ). Noted b last undo us) (sym u) (subst (λ (d : Box). Noted b d undo undo) (sym (back is.0)) (noted_none b undo))

  pub past_inside : All (λ v. v < length mid) (drop before undo_mid)
  past_inside = subst (λ (k : ℕ). All (λ v. v < length mid) (drop k undo_mid)) (sym is_before) (back_inside b mid undo undo_mid noted)

-- ## Rows in order

-- the first base rows neither are violated nor force a free variable
abbrev pub CalmBelow : Voyage → Box → ℕ → Type 0
CalmBelow m b k = (j : ℕ) → j < k → (r : Row) → slice_get (base_rows m) j ≡ Some r → IsCalm m b r

pub calm_none : (m : Voyage) (b : Box) → CalmBelow m b 0
calm_none m b j lt = absurd (omega arith)

one_calm : (m : Voyage) (b c : Box) (k j : ℕ) (r s : Row) → slice_get (base_rows m) k ≡ Some r → c ≡ b → IsCalm m b r → CalmBelow m b k → (j < k) ⊎ (j ≡ k) → slice_get (base_rows m) j ≡ Some s → IsCalm m c s
one_calm m b c k j r s at_k same here below (inl lt) at_j = subst (λ (d : Box). IsCalm m d s) (sym same) (below j lt s at_j)
one_calm m b c k j r s at_k same here below (inr eq) at_j =
    let e : Some r ≡ Some s = sym at_k ∙ sym (ap (λ (i : ℕ). slice_get (base_rows m) i) eq) ∙ at_j in
    let f : r ≡ s = cc in
    subst (λ (d : Box). IsCalm m d s) (sym same) (subst (λ (t : Row). IsCalm m b t) f here)

below_or_here : (j k : ℕ) → j < k + 1 → (j < k) ⊎ (j ≡ k)
below_or_here j k lt = elim (same_or_other j k) [ inl e ↦ inr e | inr other ↦ inl (omega arith) ]

pub calm_more : (m : Voyage) (a b c : Box) (k : ℕ) (r : Row) (first old new : List Row) → slice_get (base_rows m) k ≡ Some r → Tightens m a b first old → Tightens m b c old new
    → (new ≡ old → (c ≡ b) × IsCalm m b r) → (length old ≡ length first → CalmBelow m b k) → length new ≡ length first → CalmBelow m c (k + 1)
calm_more m a b c k r first old new at_k h t look below same j lt s at_j =
    let n : length old ≡ length first + length h.rows = ap (λ (xs : List Row). length xs) h.added ∙ length-append first h.rows in
    let n' : length new ≡ length old + length t.rows = ap (λ (xs : List Row). length xs) t.added ∙ length-append old t.rows in
    let l = look (unchanged t.rows t.added (omega arith)) in
    one_calm m b c k j r s at_k l.0 l.1 (below (omega arith)) (below_or_here j k lt) at_j
  where
    unchanged : (rs : List Row) → new ≡ old ++ rs → length rs ≡ 0 → new ≡ old
    unchanged [] e none = e ∙ append-nil old
    unchanged (x ∷ rs) e none = absurd (omega arith)

pub calm_all : (m : Voyage) (b : Box) (k : ℕ) → ListsBaseRows → length (base_rows m) ≤ k → CalmBelow m b k → IsQuiet m b
calm_all m b k lists le calm r has =
    let c = (lists m r).1 has in
    calm c.0 (omega (arith, c.1)) r (slice_get-get_or (base_rows m) c.0 r c.1 ∙ ap (λ (s : Row). Some s) c.2)

-- the first base rows are not violated
abbrev pub MetBelow : Voyage → Box → ℕ → Type 0
MetBelow m b k = (j : ℕ) → j < k → (r : Row) → slice_get (base_rows m) j ≡ Some r → violated (whole m) b r ≡ false

pub met_none : (m : Voyage) (b : Box) → MetBelow m b 0
met_none m b j lt = absurd (omega arith)

one_met : (m : Voyage) (b : Box) (k j : ℕ) (r s : Row) → slice_get (base_rows m) k ≡ Some r → violated (whole m) b r ≡ false → MetBelow m b k → (j < k) ⊎ (j ≡ k) → slice_get (base_rows m) j ≡ Some s → violated (whole m) b s ≡ false
one_met m b k j r s at_k here below (inl lt) at_j = below j lt s at_j
one_met m b k j r s at_k here below (inr eq) at_j =
    let e : Some r ≡ Some s = sym at_k ∙ sym (ap (λ (i : ℕ). slice_get (base_rows m) i) eq) ∙ at_j in
    let f : r ≡ s = cc in
    subst (λ (t : Row). violated (whole m) b t ≡ false) f here

pub met_more : (m : Voyage) (b : Box) (k : ℕ) (r : Row) → slice_get (base_rows m) k ≡ Some r → violated (whole m) b r ≡ false → MetBelow m b k → MetBelow m b (k + 1)
met_more m b k r at_k here below j lt s at_j = one_met m b k j r s at_k here below (below_or_here j k lt) at_j

pub met_all : (m : Voyage) (b : Box) (k : ℕ) → ListsBaseRows → length (base_rows m) ≤ k → MetBelow m b k → BreaksNone m b
met_all m b k lists le met r has =
    let c = (lists m r).1 has in
    met c.0 (omega (arith, c.1)) r (slice_get-get_or (base_rows m) c.0 r c.1 ∙ ap (λ (s : Row). Some s) c.2)
