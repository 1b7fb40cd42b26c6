-- Records prove a bound exactly where they have no first fault.
use Rattle.std.proofs.Common.{◌≡◌, ℕ, ◌+◌, ◌<◌, Bool, true, false, ◌&&◌, cond, nat_lt, List, [], ◌∷◌, Option, Some, None, Result, Ok, Err, ℤ, All, arith, refl, sym, ◌∙◌, ap, subst}
use Rattle.std.specs.Prelude.{int_lt}
use Rattle.std.specs.Option.{is_none, ok_or, option_or}
use Rattle.std.specs.Result.{result_ok}
use borrow.Author.Differences.{ints}
use Rattle.std.proofs.lemmas.Bool.Decides.{nat_tests}
use Rattle.std.proofs.lemmas.List.Elements.{All-nil, All-cons, All-head, All-tail}
use Rattle.zero_one_rows.specs.declared.program.Row.{Row}
use Rattle.proof_trees.specs.Program.{Program}
use Rattle.proof_trees.specs.Boxes.{Box, at, fixed, tightened, AreRows}
use Rattle.proof_trees.specs.Multipliers.{Multipliers, worth, Closes, raised, raised_all}
use Rattle.proof_trees.specs.Trees.{End, Leaf, Left, Branch, Entry, Pending, begun, EndProves, ProveAll}
use Rattle.certificate.specs.declared.refusals.BoundNo.{BoundNo}
use Rattle.certificate.specs.declared.refusals.BoundNo.TheVariants.{Multiplier, StepRow, BranchFixed, LeafShort}
use Rattle.certificate.specs.Entries.{same_row}
use Rattle.bound_checker.proofs.InOrder.{failed}
use Rattle.bound_checker.specs.Faults.{needed, step_fault, raised_rows, short_fault, end_fault, tree_fault}

first_none : {A : Type 0} (o q : Option A) → option_or o q ≡ None → (o ≡ None) × (q ≡ None)
first_none None q e = (refl, e)
first_none (Some x) q e = absurd (let bad : ⊥ = cc in bad)

both_none : {A : Type 0} (o q : Option A) → o ≡ None → q ≡ None → option_or o q ≡ None
both_none None q h k = k
both_none (Some x) q h k = h

module _ (p : Program Row) (bound : ℕ) where
  -- ## Steps

  steps_are : (node : ℕ) (rs : List Row) → step_fault p node rs ≡ None → AreRows p rs
  steps_are node [] e = All-nil (λ (r : Row). p.has r ≡ true)
  steps_are node (r ∷ rs) e = by (p.has r) refl e (steps_are node rs)
    where
      by : (b : Bool) → p.has r ≡ b → cond b (step_fault p node rs) (Some (StepRow node)) ≡ None → (step_fault p node rs ≡ None → AreRows p rs) → AreRows p (r ∷ rs)
      by true h e rest = All-cons (λ (r : Row). p.has r ≡ true) r rs h (rest e)
      by false h e rest = absurd (let bad : ⊥ = cc in bad)

  pub no_step : (node : ℕ) (rs : List Row) → AreRows p rs → step_fault p node rs ≡ None
  no_step node [] are = refl
  no_step node (r ∷ rs) are = ap (λ (b : Bool). cond b (step_fault p node rs) (Some (StepRow node))) (All-head (λ (r : Row). p.has r ≡ true) r rs are) ∙ no_step node rs (All-tail (λ (r : Row). p.has r ≡ true) r rs are)

  -- ## Raises

  abbrev pub Named : Row × ℤ → Type 0
  Named r = p.has r.0 ≡ true

  rows_named : (node : ℕ) (rs : List (Row × ℤ)) (ms ms' : Multipliers Row) → raised_rows p node (Ok ms) rs ≡ Ok ms' → All Named rs
  rows_named node [] ms ms' e = All-nil Named
  rows_named node (r ∷ rs) ms ms' e = by (p.has r.0) refl (raised same_row ms r.0 r.1) e (λ next k. rows_named node rs next ms' k)
    where
      failing : (f : BoundNo) → raised_rows p node (Err f) rs ≡ Ok ms' → All Named (r ∷ rs)
      failing f e = absurd (let k : raised_rows p node (Err f) rs ≡ Err f = failed p node f rs in let bad : ⊥ = cc in bad)

      by : (b : Bool) → p.has r.0 ≡ b → (o : Option (Multipliers Row)) → raised_rows p node (cond b (ok_or o (Multiplier node)) (Err (StepRow node))) rs ≡ Ok ms'
          → ((next : Multipliers Row) → raised_rows p node (Ok next) rs ≡ Ok ms' → All Named rs) → All Named (r ∷ rs)
      by true h (Some next) e rest = All-cons Named r rs h (rest next e)
      by true h None e rest = failing (Multiplier node) e
      by false h o e rest = failing (StepRow node) e

  raised_none : (rs : List (Row × ℤ)) → raised_all same_row None rs ≡ None
  raised_none [] = refl
  raised_none (r ∷ rs) = refl

  pub rows_same : (node : ℕ) (rs : List (Row × ℤ)) (ms : Multipliers Row) → All Named rs → result_ok (raised_rows p node (Ok ms) rs) ≡ raised_all same_row (Some ms) rs
  rows_same node [] ms named = refl
  rows_same node (r ∷ rs) ms named =
      ap (λ (b : Bool). result_ok (raised_rows p node (cond b (ok_or (raised same_row ms r.0 r.1) (Multiplier node)) (Err (StepRow node))) rs)) (All-head Named r rs named) ∙ by (raised same_row ms r.0 r.1) (λ next. rows_same node rs next (All-tail Named r rs named))
    where
      by : (o : Option (Multipliers Row)) → ((next : Multipliers Row) → result_ok (raised_rows p node (Ok next) rs) ≡ raised_all same_row (Some next) rs) → result_ok (raised_rows p node (ok_or o (Multiplier node)) rs) ≡ raised_all same_row o rs
      by (Some next) rest = rest next
      by None rest = ap (λ (k : Result (Multipliers Row) BoundNo). result_ok k) (failed p node (Multiplier node) rs) ∙ sym (raised_none rs)

  -- ## Ends

  closing : (node : ℕ) (b : Box) (ms : Multipliers Row) → short_fault p bound node b ms ≡ None → Closes p b ms bound
  closing node b ms e = by (int_lt (worth p b ms) (needed bound)) refl e
    where
      by : (t : Bool) → int_lt (worth p b ms) (needed bound) ≡ t → cond t (Some (LeafShort node (worth p b ms) (needed bound))) None ≡ None → Closes p b ms bound
      by true h e = absurd (let bad : ⊥ = cc in bad)
      by false h e = omega (arith, ints)

  pub closed : (node : ℕ) (b : Box) (ms : Multipliers Row) → Closes p b ms bound → short_fault p bound node b ms ≡ None
  closed node b ms h = by (int_lt (worth p b ms) (needed bound)) refl
    where
      by : (t : Bool) → int_lt (worth p b ms) (needed bound) ≡ t → cond t (Some (LeafShort node (worth p b ms) (needed bound))) None ≡ None
      by true k = absurd (omega (arith, ints))
      by false k = refl

  both : (a b : Bool) → (a && b) ≡ true → (a ≡ true) × (b ≡ true)
  both true b h = (refl, h)
  both false b h = absurd (let bad : ⊥ = cc in bad)

  pub and_true : (a b : Bool) → a ≡ true → b ≡ true → (a && b) ≡ true
  and_true true b h k = k
  and_true false b h k = absurd (let bad : ⊥ = cc in bad)

  none_there : (o : Option Bool) → is_none o ≡ true → o ≡ None
  none_there None h = refl
  none_there (Some x) h = absurd (let bad : ⊥ = cc in bad)

  below : (a b : ℕ) → nat_lt a b ≡ true → a < b
  below a b h = grind (arith, nat_tests)

  pub below_is : (a b : ℕ) → a < b → nat_lt a b ≡ true
  below_is a b h = grind (arith, nat_tests)

  module _ (Rest : List (Pending Row) → Option BoundNo) (Q : List (Pending Row) → Type 0) (node : ℕ) (waiting : List (Pending Row)) (b : Box) where
    abbrev halves : Multipliers Row → ℕ → List (Pending Row)
    halves ms v = record { box = fixed b v true; multipliers = ms } ∷ record { box = fixed b v false; multipliers = ms } ∷ waiting

    end_proves : ((more : List (Pending Row)) → Rest more ≡ None → Q more) → (o : Result (Multipliers Row) BoundNo) (e : End) → end_fault p bound Rest node waiting b o e ≡ None → EndProves same_row p bound Q waiting b (result_ok o) e
    end_proves go (Err f) e h = absurd (let bad : ⊥ = cc in bad)
    end_proves go (Ok ms) Leaf h = let k = first_none (short_fault p bound node b ms) (Rest waiting) h in (closing node b ms k.0, go waiting k.1)
    end_proves go (Ok ms) Left h = let k = first_none (short_fault p bound node b ms) (Rest waiting) h in (closing node b ms k.0, go waiting k.1)
    end_proves go (Ok ms) (Branch v) h = by (nat_lt v p.vars && is_none (at b v)) refl h
      where
        by : (t : Bool) → (nat_lt v p.vars && is_none (at b v)) ≡ t → cond t (Rest (halves ms v)) (Some (BranchFixed node)) ≡ None → EndProves same_row p bound Q waiting b (Some ms) (Branch v)
        by true k h = let a = both (nat_lt v p.vars) (is_none (at b v)) k in (below v p.vars a.0, none_there (at b v) a.1, go _ h)
        by false k h = absurd (let bad : ⊥ = cc in bad)

    end_none : ((more : List (Pending Row)) → Q more → Rest more ≡ None) → (o : Result (Multipliers Row) BoundNo) (e : End) → EndProves same_row p bound Q waiting b (result_ok o) e → end_fault p bound Rest node waiting b o e ≡ None
    end_none go (Err f) e h = absurd h
    end_none go (Ok ms) Leaf h = both_none (short_fault p bound node b ms) (Rest waiting) (closed node b ms h.0) (go waiting h.1)
    end_none go (Ok ms) Left h = both_none (short_fault p bound node b ms) (Rest waiting) (closed node b ms h.0) (go waiting h.1)
    end_none go (Ok ms) (Branch v) h =
        let t : (nat_lt v p.vars && is_none (at b v)) ≡ true = and_true (nat_lt v p.vars) (is_none (at b v)) (below_is v p.vars h.0) (ap (λ (o : Option Bool). is_none o) h.1) in
        ap (λ (t : Bool). cond t (Rest (record { box = fixed b v true; multipliers = ms } ∷ record { box = fixed b v false; multipliers = ms } ∷ waiting)) (Some (BranchFixed node))) t ∙ go _ h.2

  -- ## Trees

  ends_named : (Rest : List (Pending Row) → Option BoundNo) (node : ℕ) (waiting : List (Pending Row)) (b : Box) (rs : List (Row × ℤ)) (ms : Multipliers Row) (e : End) → end_fault p bound Rest node waiting b (raised_rows p node (Ok ms) rs) e ≡ None → All Named rs
  ends_named Rest node waiting b rs ms e h = by (raised_rows p node (Ok ms) rs) refl h
    where
      by : (o : Result (Multipliers Row) BoundNo) → raised_rows p node (Ok ms) rs ≡ o → end_fault p bound Rest node waiting b o e ≡ None → All Named rs
      by (Ok next) k h = rows_named node rs ms next k
      by (Err f) k h = absurd (let bad : ⊥ = cc in bad)

  pub faultless : (node : ℕ) (waiting : List (Pending Row)) (es : List (Entry Row)) → tree_fault p bound node waiting es ≡ None → ProveAll same_row p bound waiting es
  faultless node [] [] h = tt
  faultless node [] (e ∷ es) h = absurd (let bad : ⊥ = cc in bad)
  faultless node (q ∷ waiting) [] h = absurd (let bad : ⊥ = cc in bad)
  faultless node (q ∷ waiting) (e ∷ es) h =
      let k = first_none (step_fault p node e.steps) _ h in
      let named : All Named e.raises = ends_named (λ boxes. tree_fault p bound (node + 1) boxes es) node waiting (tightened p q.box e.steps) e.raises (begun e.from_zero q.multipliers) e.end k.1 in (
        steps_are node e.steps k.0,
        named,
        subst (λ (o : Option (Multipliers Row)). EndProves same_row p bound (λ boxes. ProveAll same_row p bound boxes es) waiting (tightened p q.box e.steps) o e.end) (rows_same node e.raises (begun e.from_zero q.multipliers) named)
            (end_proves (λ boxes. tree_fault p bound (node + 1) boxes es) (λ boxes. ProveAll same_row p bound boxes es) node waiting (tightened p q.box e.steps) (λ more none. faultless (node + 1) more es none) (raised_rows p node (Ok (begun e.from_zero q.multipliers)) e.raises) e.end k.1),
      )

  pub no_fault : (node : ℕ) (waiting : List (Pending Row)) (es : List (Entry Row)) → ProveAll same_row p bound waiting es → tree_fault p bound node waiting es ≡ None
  no_fault node [] [] h = refl
  no_fault node [] (e ∷ es) h = absurd h
  no_fault node (q ∷ waiting) [] h = absurd h
  no_fault node (q ∷ waiting) (e ∷ es) h =
      both_none (step_fault p node e.steps) _ (no_step node e.steps h.0)
      (end_none (λ boxes. tree_fault p bound (node + 1) boxes es) (λ boxes. ProveAll same_row p bound boxes es) node waiting (tightened p q.box e.steps) (λ more prove. no_fault (node + 1) more es prove) (raised_rows p node (Ok (begun e.from_zero q.multipliers)) e.raises) e.end
      (subst (λ (o : Option (Multipliers Row)). EndProves same_row p bound (λ boxes. ProveAll same_row p bound boxes es) waiting (tightened p q.box e.steps) o e.end) (sym (rows_same node e.raises (begun e.from_zero q.multipliers) h.1)) h.2))
