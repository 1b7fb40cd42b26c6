-- What one look at a row does.
use Rattle.std.proofs.Common.{◌≡◌, ◌≢◌, ℕ, zero, suc, ◌+◌, ◌*◌, ◌<◌, ◌≤◌, ◌⊎◌, inl, inr, Bool, true, false, ◌||◌, cond, All, List, [], ◌∷◌, Option, Some, None, length, set, get_or, map, ℤ, pos, ◌≤ℤ◌, arith, refl, sym, ◌∙◌, ap, subst}
use Rattle.std.specs.Prelude.{nat_eq, int_lt}
use Rattle.std.specs.List.{list_any, range_with_len}
use borrow.Author.Differences.{ints}
use Rattle.std.proofs.lemmas.List.{get_or-set_other, length-set, get_or-map, length-map}
use Rattle.std.proofs.lemmas.List.FromFn.{get_or-map-range_with_len}
use Rattle.proof_trees.specs.Boxes.{Box, at, tight, tight_at, violated}
use Rattle.zero_one_rows.specs.declared.program.Row.{Row}
use Rattle.zero_one_rows.specs.Variables.{Voyage, variables}
use Rattle.zero_one_rows.specs.Rows.{whole}
use Rattle.partial_plan.specs.Fixing.{free_in}
use Rattle.partial_plan.specs.Forced.{forces, is_above}
use Rattle.row_matrix.proofs.Summing.{same_or_other, unequal}
use Rattle.partial_plan.proofs.Landing.{broken_is, landed, met_is, tight_by, tight_landed}
use Rattle.partial_plan.proofs.Walking.{Partly, listed_all}
use Rattle.row_matrix.specs.declared.entries.Term.{Term}
use Rattle.row_matrix.specs.declared.slacks.Slacks.{Slacks}
use Rattle.partial_plan.specs.declared.state.PropagationState.{PropagationState}
use Rattle.row_matrix.specs.Terms.{count, row_at, slack_in, vars_in, AreTerms}
use Rattle.row_matrix.specs.Waiting.{number_at, waits_at, waiting_in}
use Rattle.row_matrix.specs.Following.{Holds, IsWide, ChangedRowsWait}
use Rattle.partial_plan.specs.PropagationState.{CalmAt, Rests, work}
use Rattle.partial_plan.specs.Looking.{AnyForced, NoneForced}
use Rattle.row_matrix.proofs.Counts.{waiting_most, waiting_set}
use Rattle.partial_plan.proofs.CalmRows.{wide_calm}

-- ## The terms of a row

-- a term has a variable of the program, with its coefficient
pub record IsTerm (m : Voyage) (r : Row) (ts : List Term) (i : ℕ) (t : Term) : Type 0 where
  pub inside : t.at < length (variables m)
  pub by_is : t.by ≡ (whole m).coef r t.at
  pub place : t.at ≡ get_or (vars_in ts) i 0

pub term_at : (m : Voyage) (r : Row) (ts : List Term) (i : ℕ) (t : Term) → AreTerms m r ts → i < length ts → get_or ts i t ≡ t → IsTerm m r ts i t
term_at m r ts i t h lt is = record {
  inside = subst (λ (u : Term). u.at < length (variables m)) is (h.inside i t lt);
  by_is = subst (λ (u : Term). u.by ≡ (whole m).coef r u.at) is (h.are i t lt);
  place = sym (get_or-map (λ (u : Term). u.at) ts i t 0 lt ∙ ap (λ (u : Term). u.at) is);
}

read_any : (ts : List Term) (i : ℕ) (t u : Term) → i < length ts → get_or ts i t ≡ get_or ts i u
read_any [] i t u lt = absurd (omega arith)
read_any (x ∷ ts) zero t u lt = refl
read_any (x ∷ ts) (suc i) t u lt = read_any ts i t u (omega arith)

pub terms_inside : (m : Voyage) (r : Row) (ts : List Term) (n : ℕ) → AreTerms m r ts → n ≡ length (variables m) → All (λ t. t.at < n) ts
terms_inside m r ts n h e i d lt = let k = h.inside i d lt in omega arith

-- a variable that isn't there has coefficient 0
pub none_else : (m : Voyage) (r : Row) (ts : List Term) → AreTerms m r ts → (v : ℕ) → v < length (variables m) → list_any (nat_eq v) (vars_in ts) ≡ false → (whole m).coef r v ≡ pos 0
none_else m r ts h v lt e = h.others v lt e

-- ## Nothing is forced

none_forced : (s : ℤ) → pos 0 ≤ℤ s → forces s None (pos 0) ≡ false
none_forced s h = grind (arith, ints)

at_of_any : (xs : List ℕ) (v : ℕ) → list_any (nat_eq v) xs ≡ true → (i : ℕ) × (i < length xs) × (get_or xs i 0 ≡ v)
at_of_any [] v e = absurd (grind arith)
at_of_any (x ∷ xs) v e = by (same_or_other v x) (at_of_any xs v)
  where
    by : (v ≡ x) ⊎ (v ≢ x) → (list_any (nat_eq v) xs ≡ true → (i : ℕ) × (i < length xs) × (get_or xs i 0 ≡ v)) → (i : ℕ) × (i < suc (length xs)) × (get_or (x ∷ xs) i 0 ≡ v)
    by (inl same) rest = (0, omega arith, sym same)
    by (inr other) rest = let r = rest (sym (ap (λ (b : Bool). b || list_any (nat_eq v) xs) (unequal v x other)) ∙ e) in (suc r.0, omega (arith, r.1), r.2)

pub none_calm : (m : Voyage) (b : Box) (s : ℤ) (k : ℕ) (ts : List Term) → AreTerms m (row_at m k) ts → pos 0 ≤ℤ s → NoneForced b s ts → CalmAt m b s k
none_calm m b s k ts h met none = record { met = met; still = λ v lt free. by v lt free (list_any (nat_eq v) (vars_in ts)) refl }
  where
    by : (v : ℕ) → v < length (variables m) → at b v ≡ None → (c : Bool) → list_any (nat_eq v) (vars_in ts) ≡ c → forces s None ((whole m).coef (row_at m k) v) ≡ false
    by v lt free false e = ap (forces s None) (none_else m (row_at m k) ts h v lt e) ∙ none_forced s met
    by v lt free true e =
        let a = at_of_any (vars_in ts) v e in
        let t : Term = record { at = v; by = (whole m).coef (row_at m k) v } in
        let n : length (vars_in ts) ≡ length ts = length-map ts (λ (u : Term). u.at) in
        let i_lt : a.0 < length ts = (let l = a.1 in omega arith) in
        let u : Term = get_or ts a.0 t in
        let g = term_at m (row_at m k) ts a.0 u h i_lt (read_any ts a.0 u t i_lt) in
        let w : u.at ≡ v = g.place ∙ a.2 in
        let c : u.by ≡ (whole m).coef (row_at m k) v = g.by_is ∙ ap (λ (x : ℕ). (whole m).coef (row_at m k) x) w in
        let f : forces s (at b u.at) u.by ≡ false = none a.0 t i_lt in
        sym (ap (λ (o : Option Bool). forces s o ((whole m).coef (row_at m k) v)) (ap (at b) w ∙ free)) ∙ sym (ap (forces s (at b u.at)) c) ∙ f

-- ## Something is forced

forced_free : (s : ℤ) (o : Option Bool) (a : ℤ) → forces s o a ≡ true → o ≡ None
forced_free s None a e = refl
forced_free s (Some y) a e = absurd (grind arith)

module _ (m : Voyage) (b : Box) (s : ℤ) (k : ℕ) (len : length b ≡ length (variables m)) (is : s ≡ slack_in m b k) (met : pos 0 ≤ℤ s) where
  tight_value : (v : ℕ) → v < length (variables m) → at (tight (whole m) b (row_at m k)) v ≡ landed s (at b v) ((whole m).coef (row_at m k) v)
  tight_value v lt =
      let t : tight_at (whole m) b (row_at m k) v ≡ landed s (at b v) ((whole m).coef (row_at m k) v) = tight_landed (whole m) b (row_at m k) v s (omega arith) lt is met in
      let g : at (map (λ w. tight_at (whole m) b (row_at m k) w) (range_with_len 0 (length (variables m)))) v ≡ tight_at (whole m) b (row_at m k) v = get_or-map-range_with_len (λ (w : ℕ). tight_at (whole m) b (row_at m k) w) 0 (length (variables m)) v v None lt (omega arith) in
      let u : tight (whole m) b (row_at m k) ≡ map (λ w. tight_at (whole m) b (row_at m k) w) (range_with_len 0 (length (variables m))) = ap (λ (c : Bool). cond c b (map (λ w. tight_at (whole m) b (row_at m k) w) (range_with_len 0 (length (variables m))))) (met_is (whole m) b (row_at m k) s is met) in
      ap (λ (c : Box). at c v) u ∙ g ∙ t

  pub any_other : (ts : List Term) → AreTerms m (row_at m k) ts → AnyForced b s ts → tight (whole m) b (row_at m k) ≢ b
  any_other ts h any same =
      let i : ℕ = any.0 in
      let t : Term = any.1 in
      let g = term_at m (row_at m k) ts i t h any.2 any.3 in
      let f : forces s (at b t.at) t.by ≡ true = any.4 in
      let free : at b t.at ≡ None = forced_free s (at b t.at) t.by f in
      let v : at b t.at ≡ landed s (at b t.at) ((whole m).coef (row_at m k) t.at) = sym (ap (λ (c : Box). at c t.at) same) ∙ tight_value t.at g.inside in
      let w : forces s (at b t.at) ((whole m).coef (row_at m k) t.at) ≡ true = sym (ap (forces s (at b t.at)) g.by_is) ∙ f in
      let x : at b t.at ≡ Some (is_above ((whole m).coef (row_at m k) t.at)) = v ∙ ap (λ (c : Bool). cond c (Some (is_above ((whole m).coef (row_at m k) t.at))) (at b t.at)) w in
      let e : None ≡ Some (is_above ((whole m).coef (row_at m k) t.at)) = sym free ∙ x in
      cc

  landed_free : (o : Option Bool) (a : ℤ) → landed s o a ≡ None → (o ≡ None) × (forces s None a ≡ false)
  landed_free (Some y) a e = let x : Some y ≡ None = e in cc
  landed_free None a e = (refl, still (forces s None a) e)
    where
      still : (c : Bool) → cond c (Some (is_above a)) None ≡ None → c ≡ false
      still true e = let x : Some (is_above a) ≡ None = e in cc
      still false e = refl

  -- what is free behind the row was free before, and the row is calm there
  pub tight_fewer : (v : ℕ) → v < length (variables m) → at (tight (whole m) b (row_at m k)) v ≡ None → (at b v ≡ None) × (forces s None ((whole m).coef (row_at m k) v) ≡ false)
  tight_fewer v lt free = landed_free (at b v) ((whole m).coef (row_at m k) v) (sym (tight_value v lt) ∙ free)

  pub tight_calm : CalmAt m (tight (whole m) b (row_at m k)) s k
  tight_calm = record { met = met; still = λ v lt free. (tight_fewer v lt free).1 }

  pub tight_run : (ts : List Term) (c : Box) → AreTerms m (row_at m k) ts → length c ≡ length (variables m)
      → Partly (λ v. list_any (nat_eq v) (vars_in ts)) s (λ v. (whole m).coef (row_at m k) v) (length (variables m)) b c → c ≡ tight (whole m) b (row_at m k)
  tight_run ts c h len' partly =
      tight_by (whole m) b c (row_at m k) s len len' is met (listed_all s (λ (v : ℕ). (whole m).coef (row_at m k) v) (length (variables m)) b (vars_in ts) c met (none_else m (row_at m k) ts h) partly)

pub broken : (m : Voyage) (b : Box) (s : ℤ) (k : ℕ) → s ≡ slack_in m b k → int_lt s (pos 0) ≡ true → violated (whole m) b (row_at m k) ≡ true
broken m b s k is lt = sym (broken_is (whole m) b (row_at m k) s is) ∙ lt

-- ## Rows that rest

cleared_other : (ws : List Bool) (k j : ℕ) → j ≢ k → waits_at (set ws k false) j ≡ waits_at ws j
cleared_other ws k j other = get_or-set_other ws k j false false other

-- a row that forced nothing doesn't wait
pub rests_cleared : (m : Voyage) (b : Box) (old new : Slacks) (k : ℕ) → Rests m b old → new.slack ≡ old.slack → new.waits.items ≡ set old.waits.items k false → CalmAt m b (number_at old.slack.items k) k → Rests m b new
rests_cleared m b old new k rests same cleared calm j lt e = by (same_or_other j k)
  where
    number : number_at new.slack.items j ≡ number_at old.slack.items j
    number = ap (λ s. number_at s.items j) same

    by : (j ≡ k) ⊎ (j ≢ k) → CalmAt m b (number_at new.slack.items j) j
    by (inl here) = subst (λ (z : ℤ). CalmAt m b z j) (sym number) (subst (λ (i : ℕ). CalmAt m b (number_at old.slack.items i) i) (sym here) calm)
    by (inr other) = subst (λ (z : ℤ). CalmAt m b z j) (sym number) (rests j lt (sym (cleared_other old.waits.items k j other) ∙ sym (ap (λ (ws : List Bool). waits_at ws j) cleared) ∙ e))

-- nor does one that forced all that it can
pub rests_forced : (m : Voyage) (b c : Box) (old mid new : Slacks) (k : ℕ) → Holds m b old → k < count m → pos 0 ≤ℤ number_at old.slack.items k → Rests m b old → mid.slack ≡ old.slack → mid.waits.items ≡ set old.waits.items k false
    → c ≡ tight (whole m) b (row_at m k) → ChangedRowsWait m mid new → Rests m c new
rests_forced m b c old mid new k holds k_lt met rests same cleared is marks j lt e = by (marks j lt e).0 (marks j lt e).1
  where
    number : number_at mid.slack.items j ≡ number_at old.slack.items j
    number = ap (λ s. number_at s.items j) same

    fewer : (v : ℕ) → v < length (variables m) → at c v ≡ None → (at b v ≡ None) × (forces (number_at old.slack.items k) None ((whole m).coef (row_at m k) v) ≡ false)
    fewer v v_lt free = tight_fewer m b (number_at old.slack.items k) k holds.whole (holds.slack k k_lt) met v v_lt (sym (ap (λ (d : Box). at d v) is) ∙ free)

    unmoved : number_at new.slack.items j ≡ number_at mid.slack.items j → waits_at mid.waits.items j ≡ false → (j ≡ k) ⊎ (j ≢ k) → CalmAt m c (number_at new.slack.items j) j
    unmoved q w (inl here) =
        subst (λ (z : ℤ). CalmAt m c z j) (sym (q ∙ number)) (subst (λ (i : ℕ). CalmAt m c (number_at old.slack.items i) i) (sym here) (record { met = met; still = λ v v_lt free. (fewer v v_lt free).1 }))
    unmoved q w (inr other) =
        let calm : CalmAt m b (number_at old.slack.items j) j = rests j lt (sym (cleared_other old.waits.items k j other) ∙ sym (ap (λ (ws : List Bool). waits_at ws j) cleared) ∙ w) in
        subst (λ (z : ℤ). CalmAt m c z j) (sym (q ∙ number)) (record { met = calm.met; still = λ v v_lt free. calm.still v v_lt (fewer v v_lt free).0 })

    by : waits_at mid.waits.items j ≡ false → (number_at new.slack.items j ≡ number_at mid.slack.items j) ⊎ ((pos 0 ≤ℤ number_at new.slack.items j) × IsWide m (number_at new.slack.items j) j) → CalmAt m c (number_at new.slack.items j) j
    by w (inl q) = unmoved q w (same_or_other j k)
    by w (inr wide) = wide_calm m c (number_at new.slack.items j) j wide.0 wide.1

pub holds_cleared : (m : Voyage) (b : Box) (old new : Slacks) (k : ℕ) → Holds m b old → new.slack ≡ old.slack → new.waits.items ≡ set old.waits.items k false → new.waiting ≡ waiting_in new.waits.items → Holds m b new
holds_cleared m b old new k h same cleared counted = record {
  whole = h.whole;
  short = record { slacks = ap (λ s. length s.items) same ∙ h.short.slacks; marks = ap (λ (ws : List Bool). length ws) cleared ∙ length-set old.waits.items k false ∙ h.short.marks; count = counted };
  slack = λ j lt. ap (λ s. number_at s.items j) same ∙ h.slack j lt;
}

-- ## What is still to be done

pub work_cleared : (m : Voyage) (d e : PropagationState) (k : ℕ) → waits_at d.slacks.waits.items k ≡ true → e.b ≡ d.b → e.slacks.waits.items ≡ set d.slacks.waits.items k false → work m e < work m d
work_cleared m d e k waits box cleared =
    let w : waiting_in e.slacks.waits.items ≡ waiting_in (set d.slacks.waits.items k false) = ap waiting_in cleared in
    let f : free_in e.b * (count m + 1) ≡ free_in d.b * (count m + 1) = ap (λ (b : Box). free_in b * (count m + 1)) box in
    omega (arith, waiting_set d.slacks.waits.items k waits)

lesser : (x y n p q : ℕ) → x < y → p ≤ n → x * (n + 1) + p < y * (n + 1) + q
lesser x y n p q h k =
    let s : (x + 1) * (n + 1) ≤ y * (n + 1) = grind arith in
    let t : (x + 1) * (n + 1) ≡ x * (n + 1) + (n + 1) = grind arith in
    omega arith

pub work_forced : (m : Voyage) (d e : PropagationState) → free_in e.b < free_in d.b → length e.slacks.waits.items ≡ count m → work m e < work m d
work_forced m d e fewer len = lesser (free_in e.b) (free_in d.b) (count m) (waiting_in e.slacks.waits.items) (waiting_in d.slacks.waits.items) fewer (let w = waiting_most e.slacks.waits.items in omega arith)
