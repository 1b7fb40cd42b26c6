-- A tree in which no box is worth less than 0, neither where it begins nor where it is divided, proves the bound 0.
use Rattle.std.proofs.Common.{◌≡◌, ◌≢◌, ℕ, zero, suc, ◌≤◌, ◌<◌, ◌⊎◌, inl, inr, Bool, true, false, cond, List, [], ◌∷◌, Option, Some, None, map, ℤ, pos, ◌-ℤ◌, ◌*ℤ◌, ◌≤ℤ◌, arith, refl, sym, subst, ◌∙◌}
use borrow.Author.Differences.{ints}
use Rattle.std.specs.List.{range_with_len}
use Rattle.std.proofs.lemmas.Bool.Decides.{eqb_tells}
use Rattle.std.proofs.lemmas.List.{get_or-set_other}
use Rattle.std.proofs.lemmas.List.FromFn.{get_or-map-range_with_len}
use Rattle.proof_trees.specs.Program.{Program, sum_to}
use Rattle.proof_trees.specs.Boxes.{Box, at, fixed, free_box, forced_to, violated, tight_at, tight, tightened}
use Rattle.proof_trees.specs.Multipliers.{Multipliers, least, weighed, worth, Closes}
use Rattle.proof_trees.specs.Trees.{End, Leaf, Left, Branch, Entry, Pending, begun, root, EndProves, ProveAll, Proves}
use Rattle.proof_trees.proofs.Sums.{sum_le}
use Rattle.search_core.specs.Journals.{branches, divided, known, box_after, multipliers_after, EndSettles, SettleAll, Anything, Settled}
use Rattle.search_core.specs.Machine.{NoneNegative}
use Rattle.search_core.specs.Along.{HoldAll, HoldsAlong}

-- ## A box that fixes more is worth no less

-- up to n, what the one box fixes the other fixes alike
abbrev pub Keeps : ℕ → Box → Box → Type 0
Keeps n b c = (v : ℕ) → v < n → (at b v ≡ None) ⊎ (at c v ≡ at b v)

least_free : (o : Option Bool) (z : ℤ) → least None z ≤ℤ least o z
least_free None z = omega (arith, ints)
least_free (Some true) z = grind (arith, ints)
least_free (Some false) z = grind (arith, ints)

least_kept : (o q : Option Bool) (z : ℤ) → (o ≡ None) ⊎ (q ≡ o) → least o z ≤ℤ least q z
least_kept o q z (inl e) = subst (λ (x : Option Bool). least x z ≤ℤ least q z) (sym e) (least_free q z)
least_kept o q z (inr e) = subst (λ (x : Option Bool). least o z ≤ℤ least x z) (sym e) (omega (arith, ints))

same_or_other : (a b : ℕ) → (a ≡ b) ⊎ (a ≢ b)
same_or_other a b = elim (eqb_tells a b) [ inl h ↦ inl h.1 | inr h ↦ inr h.1 ]

keeps_fixed_at : (b : Box) (v w : ℕ) (y : Bool) → at b v ≡ None → (w ≡ v) ⊎ (w ≢ v) → (at b w ≡ None) ⊎ (at (fixed b v y) w ≡ at b w)
keeps_fixed_at b v w y free (inl same) = inl (subst (λ (u : ℕ). at b u ≡ None) (sym same) free)
keeps_fixed_at b v w y free (inr other) = inr (get_or-set_other b v w (Some y) None other)

keeps_fixed : (n : ℕ) (b : Box) (v : ℕ) (y : Bool) → at b v ≡ None → Keeps n b (fixed b v y)
keeps_fixed n b v y free w l = keeps_fixed_at b v w y free (same_or_other w v)

keeps_forced : (o : Option Bool) (t f : Bool) → (o ≡ None) ⊎ (forced_to o t f ≡ o)
keeps_forced None t f = inl refl
keeps_forced (Some y) t f = inr refl

keeps_next : (n : ℕ) (a b c : Box) → Keeps n a b → Keeps n b c → Keeps n a c
keeps_next n a b c h k v l = elim (h v l) [
  | inl free ↦ inl free
  | inr same ↦ elim (k v l) [
    | inl free ↦ inl (sym same ∙ free)
    | inr again ↦ inr (again ∙ same)
  ]
]

module _ {R : Type 0} (p : Program R) where
  keeps_list : (b : Box) (r : R) → Keeps p.vars b (map (λ v. tight_at p b r v) (range_with_len 0 p.vars))
  keeps_list b r v l =
      subst (λ (o : Option Bool). (at b v ≡ None) ⊎ (o ≡ at b v)) (sym (get_or-map-range_with_len (λ (u : ℕ). tight_at p b r u) 0 p.vars v v None l (omega arith)))
      (keeps_forced (at b v) _ _)

  keeps_cond : (t : Bool) (b c : Box) → Keeps p.vars b c → Keeps p.vars b (cond t b c)
  keeps_cond true b c h = λ v l. inr refl
  keeps_cond false b c h = h

  keeps_tightened : (b : Box) (rs : List R) → Keeps p.vars b (tightened p b rs)
  keeps_tightened b [] = λ v l. inr refl
  keeps_tightened b (r ∷ rs) = keeps_next p.vars b (tight p b r) (tightened p (tight p b r) rs) (keeps_cond (violated p b r) b _ (keeps_list b r)) (keeps_tightened (tight p b r) rs)

  pub worth_kept : (b c : Box) (ms : Multipliers R) → Keeps p.vars b c → worth p b ms ≤ℤ worth p c ms
  worth_kept b c ms h =
      let parts : sum_to p.vars (λ v. least (at b v) (pos 16 *ℤ p.cost v -ℤ weighed p ms v)) ≤ℤ sum_to p.vars (λ v. least (at c v) (pos 16 *ℤ p.cost v -ℤ weighed p ms v)) =
      sum_le p.vars _ _ (λ v l. least_kept (at b v) (at c v) _ (h v l)) in
      omega (arith, ints)

  -- ## Without multipliers a box is worth no less than 0

  least_from : (o : Option Bool) (z : ℤ) → pos 0 ≤ℤ z → pos 0 ≤ℤ least o (pos 16 *ℤ z -ℤ pos 0)
  least_from None z h = grind (arith, ints)
  least_from (Some true) z h = omega (arith, ints)
  least_from (Some false) z h = omega (arith, ints)

  sum_from : (n : ℕ) (f : ℕ → ℤ) → ((v : ℕ) → v < n → pos 0 ≤ℤ f v) → pos 0 ≤ℤ sum_to n f
  sum_from zero f h = omega (arith, ints)
  sum_from (suc n) f h = omega (arith, ints, sum_from n f (λ v l. h v (omega arith)), h n (omega arith))

  pub worth_from : NoneNegative p → (b : Box) → pos 0 ≤ℤ worth p b []
  worth_from costs b =
      let parts : pos 0 ≤ℤ sum_to p.vars (λ v. least (at b v) (pos 16 *ℤ p.cost v -ℤ pos 0)) = sum_from p.vars _ (λ v l. least_from (at b v) (p.cost v) (costs v l)) in
      omega (arith, ints)

  worth_begun : NoneNegative p → (z : Bool) (b : Box) (ms : Multipliers R) → pos 0 ≤ℤ worth p b ms → pos 0 ≤ℤ worth p b (begun z ms)
  worth_begun costs true b ms h = worth_from costs b
  worth_begun costs false b ms h = h

  -- what a record's raises begin with is worth no less than 0, if what the record begins with is
  pub worth_started : NoneNegative p → (q : Pending R) (e : Entry R) → pos 0 ≤ℤ worth p q.box q.multipliers → pos 0 ≤ℤ worth p (tightened p q.box e.steps) (begun e.from_zero q.multipliers)
  worth_started costs q e h =
      let kept = worth_kept q.box (tightened p q.box e.steps) q.multipliers (keeps_tightened q.box e.steps) in
      worth_begun costs e.from_zero (tightened p q.box e.steps) q.multipliers (omega (arith, ints))

-- ## Along a tree

module _ {R : Type 0} (same : R → R → Bool) (p : Program R) where
  abbrev pub IsWorth : Pending R → Type 0
  IsWorth q = pos 0 ≤ℤ worth p q.box q.multipliers

  abbrev pub AreWorth : List (Pending R) → Type 0
  AreWorth [] = Unit {0}
  AreWorth (q ∷ qs) = IsWorth q × AreWorth qs

  -- a record that doesn't end in a leaf leaves its box worth no less than 0
  abbrev pub LeavesWorth : End → Box → Multipliers R → Type 0
  LeavesWorth Leaf b ms = Unit {0}
  LeavesWorth Left b ms = pos 0 ≤ℤ worth p b ms
  LeavesWorth (Branch v) b ms = pos 0 ≤ℤ worth p b ms

  abbrev pub KeepsWorth : Bool → Pending R → Entry R → Type 0
  KeepsWorth top q e = IsWorth q → LeavesWorth e.end (box_after same p q e) (known (multipliers_after same p q e))

  closes_none : (b : Box) (ms : Multipliers R) (bound : ℕ) → Closes p b ms bound → Closes p b ms 0
  closes_none b ms bound h = omega (arith, ints)

  worth_closes : (b : Box) (ms : Multipliers R) → pos 0 ≤ℤ worth p b ms → Closes p b ms 0
  worth_closes b ms h = omega (arith, ints)

  end_at_none : (bound : ℕ) (Rest Rest' : List (Pending R) → Type 0) (waiting : List (Pending R)) (b : Box) (o : Option (Multipliers R)) (e : End)
      → AreWorth waiting → LeavesWorth e b (known o)
      → (AreWorth (cond (branches e) (record { box = divided b e true; multipliers = known o } ∷ record { box = divided b e false; multipliers = known o } ∷ waiting) waiting) → Rest (cond (branches e) (record { box = divided b e true; multipliers = known o } ∷ record { box = divided b e false; multipliers = known o } ∷ waiting) waiting) → Rest' (cond (branches e) (record { box = divided b e true; multipliers = known o } ∷ record { box = divided b e false; multipliers = known o } ∷ waiting) waiting))
      → EndSettles same p Anything bound Rest waiting b o e → EndProves same p 0 Rest' waiting b o e
  end_at_none bound Rest Rest' waiting b None e worths leaves go h = h
  end_at_none bound Rest Rest' waiting b (Some ms) Leaf worths leaves go h = (closes_none b ms bound h.0, go worths h.1)
  end_at_none bound Rest Rest' waiting b (Some ms) Left worths leaves go h = (worth_closes b ms leaves, go worths h.1)
  end_at_none bound Rest Rest' waiting b (Some ms) (Branch v) worths leaves go h =
      let one = worth_kept p b (fixed b v true) ms (keeps_fixed p.vars b v true h.1) in
      let none = worth_kept p b (fixed b v false) ms (keeps_fixed p.vars b v false h.1) in
      (h.0, h.1, go (omega (arith, ints), (omega (arith, ints), worths)) h.2)

  all_at_none : (bound : ℕ) (top : Bool) (waiting : List (Pending R)) (es : List (Entry R)) → AreWorth waiting → HoldAll same p KeepsWorth top waiting es → SettleAll same p Anything bound waiting es → ProveAll same p 0 waiting es
  all_at_none bound top [] [] worths held h = h
  all_at_none bound top [] (e ∷ es) worths held h = h
  all_at_none bound top (q ∷ waiting) [] worths held h = h
  all_at_none bound top (q ∷ waiting) (e ∷ es) worths held h = (
    h.0,
    h.1,
    end_at_none bound (λ boxes. SettleAll same p Anything bound boxes es) (λ boxes. ProveAll same p 0 boxes es) waiting (box_after same p q e) (multipliers_after same p q e) e.end worths.1 (held.0 worths.0)
        (λ more settled. all_at_none bound false _ es more held.1 settled) h.2,
  )

  pub proves_none : NoneNegative p → (bound : ℕ) (es : List (Entry R)) → HoldsAlong same p KeepsWorth es → Settled same p es bound → Proves same p es 0
  proves_none costs bound es held h = all_at_none bound true (root p ∷ []) es (worth_from p costs (free_box p), tt) held h

-- ## What is settled at a value is settled at each lesser one

module _ {R : Type 0} (same : R → R → Bool) (p : Program R) (bound less : ℕ) (le : less ≤ bound) where
  closes_lesser : (b : Box) (ms : Multipliers R) → Closes p b ms bound → Closes p b ms less
  closes_lesser b ms h = omega (arith, ints)

  end_lesser : (Rest Rest' : List (Pending R) → Type 0) → ((more : List (Pending R)) → Rest more → Rest' more)
      → (waiting : List (Pending R)) (b : Box) (o : Option (Multipliers R)) (e : End) → EndSettles same p Anything bound Rest waiting b o e → EndSettles same p Anything less Rest' waiting b o e
  end_lesser Rest Rest' go waiting b None e h = h
  end_lesser Rest Rest' go waiting b (Some ms) Leaf h = (closes_lesser b ms h.0, go waiting h.1)
  end_lesser Rest Rest' go waiting b (Some ms) Left h = (h.0, go waiting h.1)
  end_lesser Rest Rest' go waiting b (Some ms) (Branch v) h = (h.0, h.1, go _ h.2)

  all_lesser : (waiting : List (Pending R)) (es : List (Entry R)) → SettleAll same p Anything bound waiting es → SettleAll same p Anything less waiting es
  all_lesser [] [] h = h
  all_lesser [] (e ∷ es) h = h
  all_lesser (q ∷ waiting) [] h = h
  all_lesser (q ∷ waiting) (e ∷ es) h =
      (h.0, h.1, end_lesser (λ boxes. SettleAll same p Anything bound boxes es) (λ boxes. SettleAll same p Anything less boxes es) (λ more hm. all_lesser more es hm) waiting _ _ e.end h.2)

  pub settled_lesser : (es : List (Entry R)) → Settled same p es bound → Settled same p es less
  settled_lesser es h = all_lesser (root p ∷ []) es h
