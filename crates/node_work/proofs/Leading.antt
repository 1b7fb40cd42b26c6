-- Raises along a trail, stage by stage.
use Rattle.std.proofs.Common.{Vec, Global, ◌≡◌, ℕ, zero, suc, ◌+◌, ◌<◌, true, false, All, Bool, List, [], ◌∷◌, ◌++◌, length, take, drop, map, get_or, Option, Some, None, refl, sym, subst, ◌∙◌, ap, arith, append_assoc}
use Rattle.std.specs.Prelude.{IfSome, IsSomeAnd}
use Rattle.std.proofs.lemmas.List.{take_more}
use Rattle.zero_one_rows.specs.declared.program.Row.{Row}
use Rattle.zero_one_rows.specs.declared.program.Raise.{Raise}
use Rattle.zero_one_rows.specs.Variables.{Voyage}
use Rattle.zero_one_rows.specs.Rows.{whole}
use Rattle.proof_trees.specs.Multipliers.{Multipliers, raised, raised_all}
use Rattle.proof_trees.specs.Trees.{begun}
use Rattle.certificate.specs.declared.tree.Record.{Record}
use Rattle.certificate.specs.Entries.{same_row, raise_of}
use Rattle.search_core.specs.Journals.{known}
use Rattle.dual_bound.specs.Raising.{IsRaise}
use Rattle.node_work.specs.declared.stages.Stage.{Stage}
use Rattle.node_work.specs.Starts.{priced, prices_along, InRange}
use Rattle.node_work.specs.DualStates.{AreNamed, Matches, Staged}

pub raised_append : (o : Option (Multipliers Row)) (xs ys : List Raise) → raised_all same_row o (map raise_of (xs ++ ys)) ≡ raised_all same_row (raised_all same_row o (map raise_of xs)) (map raise_of ys)
raised_append None xs ys = refl
raised_append (Some ms) [] ys = refl
raised_append (Some ms) (x ∷ xs) ys = raised_append (raised same_row ms x.row x.amount) xs ys

-- one raise more of a list that is copied behind another
pub pushed_one : (old made new rs : List Raise) (i : ℕ) (x y : Raise) → made ≡ old ++ take i rs → i < length rs → x ≡ get_or rs i x → y ≡ x → new ≡ made ++ y ∷ [] → new ≡ old ++ take (i + 1) rs
pushed_one old made new rs i x y h lt is same added =
    added ∙ ap (λ (z : Raise). made ++ z ∷ []) (same ∙ is) ∙ ap (λ (zs : List Raise). zs ++ get_or rs i x ∷ []) h
    ∙ append_assoc old (take i rs) (get_or rs i x ∷ []) ∙ ap (λ (zs : List Raise). old ++ zs) (sym (take_more rs i x lt))

-- ## Stages and the records whose raises they are

matches_next : (ss : List Stage) (rs : List Record) (k : ℕ) (s : Stage) (r : Record) → Matches (take k ss) (take k rs) → k < length ss → k < length rs → s ≡ get_or ss k s → r ≡ get_or rs k r → r.from_zero ≡ false → s.raises ≡ r.raises → Matches (take (suc k) ss) (take (suc k) rs)
matches_next [] rs k s r h lt lt' is is' begins same = absurd (omega arith)
matches_next (x ∷ ss) [] k s r h lt lt' is is' begins same = absurd (omega arith)
matches_next (x ∷ ss) (y ∷ rs) zero s r h lt lt' is is' begins same = (ap (λ (q : Record). q.from_zero) (sym is') ∙ begins, ap (λ (t : Stage). t.raises) (sym is) ∙ same ∙ ap (λ (q : Record). q.raises) is', tt)
matches_next (x ∷ ss) (y ∷ rs) (suc k) s r h lt lt' is is' begins same = (h.0, h.1, matches_next ss rs k s r h.2 (omega arith) (omega arith) is is' begins same)

pub matches_more : (ss : List Stage) (rs : List Record) (k : ℕ) (s : Stage) (r : Record) → Matches (take k ss) (take k rs) → k < length ss → k < length rs → s ≡ get_or ss k s → r ≡ get_or rs k r → r.from_zero ≡ false → s.raises ≡ r.raises → Matches (take (k + 1) ss) (take (k + 1) rs)
matches_more ss rs k s r h lt lt' is is' begins same =
    let one : suc k ≡ k + 1 = omega arith in
    subst (λ (n : ℕ). Matches (take n ss) (take n rs)) one (matches_next ss rs k s r h lt lt' is is' begins same)

module _ (m : Voyage) where
  -- what the last stage says
  pub record Last (ms : Multipliers Row) (ss : List Stage) (s : Stage) (us : Multipliers Row) : Type 0 where
    pub at : Multipliers Row
    pub staged : Staged m ms ss at
    pub before : length at ≡ s.before
    pub rows : All (λ (x : Raise). (whole m).has x.row ≡ true) s.raises
    pub to : raised_all same_row (Some at) (map raise_of s.raises) ≡ Some us

  pub staged_last : (ms us : Multipliers Row) (ss : List Stage) (s : Stage) → Staged m ms (ss ++ s ∷ []) us → Last ms ss s us
  staged_last ms us [] s h = record { at = ms; staged = refl; before = h.0; rows = h.1; to = h.2.1 ∙ ap (λ (ns : Multipliers Row). Some ns) (sym h.2.2) }
  staged_last ms us (t ∷ ss) s h =
      let l = staged_last h.2.0 us ss s h.2.2 in
      record { at = l.at; staged = (h.0, h.1, (h.2.0, h.2.1, l.staged)); before = l.before; rows = l.rows; to = l.to }

  pub staged_more : (ms us vs : Multipliers Row) (ss : List Stage) (s : Stage) → Staged m ms ss us → length us ≡ s.before → All (λ (x : Raise). (whole m).has x.row ≡ true) s.raises → raised_all same_row (Some us) (map raise_of s.raises) ≡ Some vs → Staged m ms (ss ++ s ∷ []) vs
  staged_more ms us vs [] s h before rows to =
      (ap (λ (ns : Multipliers Row). length ns) (sym h) ∙ before, rows, (vs, ap (λ (ns : Multipliers Row). raised_all same_row (Some ns) (map raise_of s.raises)) (sym h) ∙ to, refl))
  staged_more ms us vs (t ∷ ss) s h before rows to = (h.0, h.1, (h.2.0, h.2.1, staged_more h.2.0 us vs ss s h.2.2 before rows to))

  pub staged_to : (ms us : Multipliers Row) (ss : List Stage) (rs : List Record) → Staged m ms ss us → Matches ss rs → us ≡ prices_along ms rs
  staged_to ms us [] [] h k = h
  staged_to ms us [] (r ∷ rs) h k = absurd k
  staged_to ms us (s ∷ ss) [] h k = absurd k
  staged_to ms us (s ∷ ss) (r ∷ rs) h k =
      let e : priced ms r ≡ Some h.2.0 = ap (λ (z : Bool). raised_all same_row (Some (begun z ms)) (map raise_of r.raises)) k.0 ∙ ap (λ (xs : List Raise). raised_all same_row (Some ms) (map raise_of xs)) (sym k.1) ∙ h.2.1 in
      staged_to h.2.0 us ss rs h.2.2 k.2 ∙ ap (λ (o : Option (Multipliers Row)). prices_along (known o) rs) (sym e)

  -- one stage more behind a list that is known
  pub next_staged : (old new : List Stage) (us vs : Multipliers Row) (raises : List Raise) (n : ℕ) → Staged m [] old us → new ≡ old ++ record { raises = raises; before = n } ∷ []
      → n ≡ length us → All (λ (x : Raise). (whole m).has x.row ≡ true) raises → raised_all same_row (Some us) (map raise_of raises) ≡ Some vs → Staged m [] new vs
  next_staged old new us vs raises n h is before rows to =
      subst (λ (ss : List Stage). Staged m [] ss vs) (sym is) (staged_more [] us vs old (record { raises = raises; before = n }) h (sym before) rows to)

  pub still_staged : (o p : Option (Vec Stage Global)) (us vs : Multipliers Row) (raises : List Raise) (n : ℕ) → IfSome o (λ v. Staged m [] v.items us)
      → IfSome p (λ v. IsSomeAnd o (λ first. v.items ≡ first.items ++ record { raises = raises; before = n } ∷ [])) → n ≡ length us → All (λ (x : Raise). (whole m).has x.row ≡ true) raises
      → raised_all same_row (Some us) (map raise_of raises) ≡ Some vs → IfSome p (λ v. Staged m [] v.items vs)
  still_staged o None us vs raises n h new before rows to = tt
  still_staged None (Some v) us vs raises n h new before rows to = absurd new
  still_staged (Some first) (Some v) us vs raises n h new before rows to = next_staged first.items v.items us vs raises n h new before rows to

  -- raises of a gauge are of rows of the program
  pub rows_of : (raises : List Raise) → All (IsRaise m) raises → All (λ (x : Raise). (whole m).has x.row ≡ true) raises
  rows_of raises h k d lt = (h k d lt).row

  -- ## The rest of a trail

  pub rest_named : (k : ℕ) (rs : List Record) → AreNamed m rs → AreNamed m (drop k rs)
  rest_named zero rs h = h
  rest_named (suc k) [] h = tt
  rest_named (suc k) (r ∷ rs) h = rest_named k rs h.1

-- where a trail is cut, its first records lead on to the rest
pub rest_ranged : (k : ℕ) (ms : Multipliers Row) (rs : List Record) → InRange ms rs → InRange (prices_along ms (take k rs)) (drop k rs)
rest_ranged zero ms rs h = h
rest_ranged (suc k) ms [] h = tt
rest_ranged (suc k) ms (r ∷ rs) h = rest_ranged k (known (priced ms r)) rs (subst (λ (o : Option (Multipliers Row)). InRange (known o) rs) (sym h.1) h.2)

pub rest_priced : (k : ℕ) (ms : Multipliers Row) (rs : List Record) → prices_along (prices_along ms (take k rs)) (drop k rs) ≡ prices_along ms rs
rest_priced zero ms rs = refl
rest_priced (suc k) ms [] = refl
rest_priced (suc k) ms (r ∷ rs) = rest_priced k (known (priced ms r)) rs

-- ## One record more

pub ranged_on : (ms ns : Multipliers Row) (r : Record) (trail : List Record) → priced ms r ≡ Some ns → InRange ms (r ∷ trail) → InRange ns trail
ranged_on ms ns r trail to h = subst (λ (o : Option (Multipliers Row)). InRange (known o) trail) (sym h.1 ∙ to) h.2

pub priced_on : (ms ns : Multipliers Row) (r : Record) (trail : List Record) → priced ms r ≡ Some ns → prices_along ns trail ≡ prices_along ms (r ∷ trail)
priced_on ms ns r trail to = ap (λ (o : Option (Multipliers Row)). prices_along (known o) trail) (sym to)
