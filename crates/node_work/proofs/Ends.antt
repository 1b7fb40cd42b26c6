-- The records that end a node are lean, and ones that the rules of proof trees allow.
use Rattle.std.proofs.Common.{◌≡◌, ℕ, zero, suc, ◌+◌, ◌-◌, ◌*◌, ◌<◌, ◌≤◌, ◌^◌, ◌⊎◌, inl, inr, Bool, true, false, not, ◌&&◌, cond, nat_le, All, List, [], ◌∷◌, ◌++◌, length, map, get_or, Option, Some, None, ℤ, pos, ◌≤ℤ◌, refl, sym, subst, ◌∙◌, ap, arith}
use borrow.Author.Differences.{ints}
use Rattle.std.specs.Prelude.{slice_get, IsSome}
use Rattle.std.specs.Option.{is_some}
use Rattle.std.proofs.lemmas.Bool.Decides.{nat_tests}
use Rattle.std.proofs.lemmas.List.{length-map}
use Rattle.std.proofs.lemmas.List.Elements.{All-map}
use Rattle.std.proofs.lemmas.Option.{get_or_from_slice_get}
use Rattle.stow_data.specs.Shipment.{IsCargo, most_cost}
use Rattle.zero_one_rows.specs.declared.program.Row.{Row}
use Rattle.zero_one_rows.specs.declared.program.Raise.{Raise}
use Rattle.zero_one_rows.specs.Variables.{Voyage, variables, var, var_cost}
use Rattle.zero_one_rows.specs.Rows.{whole, base, is_base, has}
use Rattle.zero_one_rows.specs.Counted.{base_rows}
use Rattle.zero_one_rows.proofs.EveryRow.{lists_base_rows}
use Rattle.zero_one_rows.proofs.Sizes.{most_cost_low}
use Rattle.proof_trees.specs.Program.{Program, cost_of}
use Rattle.proof_trees.specs.Boxes.{Box, at, violated, tightened, AreRows}
use Rattle.proof_trees.specs.Multipliers.{Multipliers, Closes, raised_all}
use Rattle.proof_trees.specs.Trees.{begun, Pending}
use Rattle.proof_trees.specs.Trees as trees
use Rattle.certificate.specs.declared.tree.End.{End}
use Rattle.certificate.specs.declared.tree.End.TheVariants.{Leaf, Branch}
use Rattle.certificate.specs.declared.tree.Record.{Record}
use Rattle.certificate.specs.Entries.{same_row, raise_of, entry_of, end_of, number_of}
use Rattle.search_core.specs.Journals.{NamesRows, EndAllowed, Anything, known, branches, multipliers_after}
use Rattle.search_core.specs.Machine.{Divides, is_fixed, fixed_below, breaks_none, is_full, nat_of, price}
use Rattle.partial_plan.specs.Full.{ones}
use Rattle.zero_one_rows.specs.Tightening.{IsQuiet, ForceAll}
use Rattle.partial_plan.specs.Tightening.{Tightens}
use Rattle.certificate.specs.Stuck.{IsStuck}
use Rattle.dual_bound.specs.Raising.{IsRaise, RiseAll, Raises}
use Rattle.node_solver.specs.declared.worked.Worked.{Worked}
use Rattle.node_solver.specs.declared.worked.Worked.TheVariants.{Closed, Branched, Full, NoMemory}
use Rattle.node_work.specs.Starts.{IsTight, HasSteps, IsAfterSteps}
use Rattle.node_solver.specs.Work.{EachRises, IsLean, IsEarnest, Ends, EndsClosed, EndsBranched, EndsFull}
use Rattle.node_work.proofs.Folds.{default_any}
use Rattle.node_work.proofs.Numbered.{number_is}
use Rattle.node_work.proofs.Values.{and_right, full_closes, violated_closes}

from_zero : (n : ℕ) → pos 0 ≤ℤ pos n
from_zero n = omega (arith, ints)

-- no variable costs less than nothing
pub costs : (m : Voyage) (v : ℕ) → v < (whole m).vars → pos 0 ≤ℤ (whole m).cost v
costs m v lt = from_zero (var_cost m (var m v))

base_has : (m : Voyage) (rs : List Row) → All (λ r. (base m).has r ≡ true) rs → AreRows (whole m) rs
base_has m rs h k d lt = and_right (is_base (get_or rs k d)) (has m (get_or rs k d)) (h k d lt)

-- ## A tightened box

module _ (m : Voyage) (b c : Box) (old new : List Row) (h : Tightens m b c old new) where
  pub is_tight : (q : Pending Row) → q.box ≡ b → old ≡ [] → IsTight m q c new
  is_tight q same none =
      let e : h.rows ≡ new = sym (h.added ∙ ap (λ (rs : List Row). rs ++ h.rows) none) in
      record {
        rows = subst (λ (rs : List Row). All (λ r. (base m).has r ≡ true) rs) e h.base;
        box = h.box ∙ ap (λ (rs : List Row). tightened (whole m) b rs) e ∙ ap (λ (d : Box). tightened (whole m) d new) (sym same);
        forced = subst (λ (rs : List Row). ForceAll (whole m) q.box rs) e (subst (λ (d : Box). ForceAll (whole m) d h.rows) (sym same) h.forced);
      }

  -- the box of a record that divides it
  pub after_steps : old ≡ [] → (w : Worked) → HasSteps new w → IsAfterSteps m b c w
  after_steps none (Closed r) steps = tt
  after_steps none (Branched r) steps =
      let e : h.rows ≡ new = sym (h.added ∙ ap (λ (rs : List Row). rs ++ h.rows) none) in
      h.box ∙ ap (λ (rs : List Row). tightened (whole m) b rs) (e ∙ sym steps)
  after_steps none (Full r full cost) steps = tt
  after_steps none NoMemory steps = tt

module _ (m : Voyage) (q : Pending Row) (most value : ℕ) (from_zero : Bool) (steps : List Row) (raises : List Raise) (b : Box) (ms : Multipliers Row)
    (tight : IsTight m q b steps) (named : All (λ (r : Row × ℤ). (whole m).has r.0 ≡ true) (map raise_of raises)) (few : length raises ≤ most)
    (to : raised_all same_row (Some (begun from_zero q.multipliers)) (map raise_of raises) ≡ Some ms) where
  abbrev pub ended_by : End → Record
  ended_by e = record { from_zero = from_zero; steps = steps; raises = raises; end = e }

  lean : (e : End) → IsLean m q most (entry_of m (ended_by e))
  lean e = record { steps = tight.forced; raises = omega (arith, few, length-map raises raise_of) }

  names : (e : End) → NamesRows same_row (whole m) (entry_of m (ended_by e))
  names e = (base_has m steps tight.rows, named)

  allowed : (e : trees.End) → EndAllowed same_row (whole m) Anything value b (Some ms) e
      → EndAllowed same_row (whole m) Anything value (tightened (whole m) q.box steps) (raised_all same_row (Some (begun from_zero q.multipliers)) (map raise_of raises)) e
  allowed e h = subst (λ (o : Option (Multipliers Row)). EndAllowed same_row (whole m) Anything value (tightened (whole m) q.box steps) o e) (sym to) (subst (λ (c : Box). EndAllowed same_row (whole m) Anything value c (Some ms) e) tight.box h)

  pub leaf_ends : Closes (whole m) b ms value → EndsClosed m q most value (ended_by Leaf)
  leaf_ends closes = record { ends = record { allowed = (names Leaf, allowed trees.Leaf closes); lean = lean Leaf }; leaf = refl }

  pub branch_ends : (x : ℕ) → x < length (variables m) → slice_get b x ≡ Some None → Ends m q most value (ended_by (Branch (var m x)))
  branch_ends x lt free =
      let n : number_of m (var m x) ≡ x = number_is m (var m x) x lt refl in
      let here : (x < length (variables m)) × (at b x ≡ None) = (lt, get_or_from_slice_get b x None None free) in
      record {
        allowed = (names (Branch (var m x)), allowed (trees.Branch (number_of m (var m x))) (subst (λ (k : ℕ). (k < length (variables m)) × (at b k ≡ None)) (sym n) here));
        lean = lean (Branch (var m x));
      }

-- ## A violated row

in_range : (n : ℕ) → n ≤ 2 ^ 40 → (ms : Multipliers Row) → cond (nat_le n (2 ^ 40)) (Some ms) None ≡ Some ms
in_range n le ms = let e : nat_le n (2 ^ 40) ≡ true = grind (arith, nat_tests) in ap (λ (c : Bool). cond c (Some ms) None) e

one_raised : (r : Row) (l : ℕ) → l ≤ 2 ^ 40 → raised_all same_row (Some []) ((r, pos l) ∷ []) ≡ Some ((r, l) ∷ [])
one_raised r l le =
    let z : 0 + l ≡ l = omega arith in
    ap (λ (o : Option (Multipliers Row)). raised_all same_row o []) (ap (λ (n : ℕ). cond (nat_le n (2 ^ 40)) (Some ((r, n) ∷ [])) None) z ∙ in_range l le ((r, l) ∷ []))

one_named : (m : Voyage) (r : Row) (z : ℤ) → (base m).has r ≡ true → All (λ (x : Row × ℤ). (whole m).has x.0 ≡ true) ((r, z) ∷ [])
one_named m r z h zero d lt = and_right (is_base r) (has m r) h
one_named m r z h (suc k) d lt = absurd (omega arith)

pub cost_low : (m : Voyage) → IsCargo m.cargo → 16 * most_cost m.cargo + 1 ≤ 2 ^ 40
cost_low m c = omega (arith, most_cost_low m.cargo c)

pub violated_ends : (m : Voyage) (q : Pending Row) (most cut : ℕ) (steps : List Row) (b : Box) (r : Row) → IsCargo m.cargo → 1 ≤ most → cut ≤ most_cost m.cargo + 1
    → IsTight m q b steps → (base m).has r ≡ true → violated (whole m) b r ≡ true
    → EndsClosed m q most cut (record { from_zero = true; steps = steps; raises = record { row = r; amount = pos (16 * most_cost m.cargo + 1) } ∷ []; end = Leaf })
violated_ends m q most cut steps b r cargo some low tight here broken =
    let l : ℕ = 16 * most_cost m.cargo + 1 in
    let one : Raise = record { row = r; amount = pos l } in
    let to : raised_all same_row (Some []) (map raise_of (one ∷ [])) ≡ Some ((r, l) ∷ []) = one_raised r l (cost_low m cargo) in
    leaf_ends m q most cut true steps (one ∷ []) b ((r, l) ∷ []) tight (one_named m r (pos l) here) some to
    (violated_closes (whole m) b r l (costs m) cut broken (omega arith))

-- ## A full box

bit_is : (o : Option Bool) → is_some o ≡ true → is_fixed o ≡ true
bit_is None h = absurd (cc)
bit_is (Some y) h = refl

both : (a b : Bool) → a ≡ true → b ≡ true → (a && b) ≡ true
both true b h k = k
both false b h k = absurd (cc)

all_fixed : (b : Box) (n : ℕ) → n ≤ length b → All IsSome b → fixed_below n b ≡ true
all_fixed b zero le h = refl
all_fixed b (suc n) le h = both (is_fixed (at b n)) (fixed_below n b) (bit_is (at b n) (h n None (omega arith))) (all_fixed b n (omega arith) h)

none_broken : (p : Program Row) (b : Box) (rs : List Row) → All (λ r. violated p b r ≡ false) rs → breaks_none p rs b ≡ true
none_broken p b [] h = refl
none_broken p b (r ∷ rs) h = both (not (violated p b r)) (breaks_none p rs b) (ap not (h 0 r (omega arith))) (none_broken p b rs (λ k d lt. h (suc k) d (omega arith)))

module _ (m : Voyage) (b : Box) (vars : length b ≡ length (variables m)) (full : All IsSome b) where
  pub fixed_all : fixed_below (length (variables m)) b ≡ true
  fixed_all = all_fixed b (length (variables m)) (omega arith) full

  base_met : IsQuiet m b → breaks_none (whole m) (base_rows m) b ≡ true
  base_met quiet = none_broken (whole m) b (base_rows m) (λ k d lt. (quiet (get_or (base_rows m) k d) ((lists_base_rows m (get_or (base_rows m) k d)).0 (k, lt, default_any (base_rows m) k (get_or (base_rows m) k d) d lt))).0)

  pub full_is : IsQuiet m b → is_full (whole m) (base_rows m) b ≡ true
  full_is quiet = both (fixed_below (length (variables m)) b) (breaks_none (whole m) (base_rows m) b) fixed_all (base_met quiet)

none_named : (m : Voyage) → All (λ (r : Row × ℤ). (whole m).has r.0 ≡ true) []
none_named m k d lt = absurd (omega arith)

module _ (m : Voyage) (q : Pending Row) (most cut cost : ℕ) (steps : List Row) (b : Box) (tight : IsTight m q b steps)
    (vars : length b ≡ length (variables m)) (full : All IsSome b) (quiet : IsQuiet m b) (paid : pos cost ≡ cost_of (whole m) (ones b)) where
  at_cost : (value : ℕ) (raises : List Raise) → raises ≡ [] → value ≤ cost → EndsClosed m q most value (record { from_zero = true; steps = steps; raises = raises; end = Leaf })
  at_cost value raises none le = subst (λ (rs : List Raise). EndsClosed m q most value (record { from_zero = true; steps = steps; raises = rs; end = Leaf })) (sym none)
      (leaf_ends m q most value true steps [] b [] tight (none_named m) (omega arith) refl (full_closes (whole m) b cost value (fixed_all m b vars full) paid le))

  -- no cheaper than the cut
  pub full_closed : (raises : List Raise) → raises ≡ [] → cut ≤ cost → EndsClosed m q most cut (record { from_zero = true; steps = steps; raises = raises; end = Leaf })
  full_closed raises none le = at_cost cut raises none le

  -- cheaper
  pub full_ends : (raises : List Raise) (c : Box) → raises ≡ [] → c ≡ b → cost < cut → EndsFull m q most cut (record { from_zero = true; steps = steps; raises = raises; end = Leaf }) c cost
  full_ends raises c none same lt = record {
    closed = at_cost cost raises none (omega arith);
    box = same ∙ tight.box;
    full = subst (λ (d : Box). is_full (whole m) (base_rows m) d ≡ true) (sym same) (full_is m b vars full quiet);
    price = ap nat_of paid ∙ ap (price (whole m)) (sym same);
    cheaper = lt;
  }

-- ## Raises

module _ (m : Voyage) where
  raises_named : (rs : List Raise) → All (IsRaise m) rs → All (λ (r : Row × ℤ). (whole m).has r.0 ≡ true) (map raise_of rs)
  raises_named rs h = All-map (λ (r : Row × ℤ). (whole m).has r.0 ≡ true) raise_of rs (λ k d lt. (h k d lt).row)

  each_rises : (b : Box) (ms : Multipliers Row) (rs : List Raise) → RiseAll m b ms rs → EachRises m b ms (map raise_of rs)
  each_rises b ms [] h = tt
  each_rises b ms (r ∷ rs) h = (h.0, h.1, h.2, each_rises b h.0 rs h.3)

module _ (m : Voyage) (q : Pending Row) (most cut : ℕ) (steps : List Row) (b : Box) (tight : IsTight m q b steps)
    (ms ns : Multipliers Row) (old new : List Raise) (inherited : q.multipliers ≡ ms) (none : old ≡ []) (raises : Raises m b most ms ns old new) where
  made_is : new ≡ raises.made
  made_is = raises.added ∙ ap (λ (rs : List Raise). rs ++ raises.made) none

  to_is : raised_all same_row (Some q.multipliers) (map raise_of raises.made) ≡ Some ns
  to_is = ap (λ (us : Multipliers Row). raised_all same_row (Some us) (map raise_of raises.made)) inherited ∙ raises.to

  pub reached_ends : Closes (whole m) b ns cut → EndsClosed m q most cut (record { from_zero = false; steps = steps; raises = new; end = Leaf })
  reached_ends closes = subst (λ (rs : List Raise). EndsClosed m q most cut (record { from_zero = false; steps = steps; raises = rs; end = Leaf })) (sym made_is)
      (leaf_ends m q most cut false steps raises.made b ns tight (raises_named m raises.made raises.rows) raises.few to_is closes)

  earnest : (e : End) → IsQuiet m b → (Closes (whole m) b ns cut → ⊥) → (length raises.made ≡ most) ⊎ IsStuck m b ns
      → IsEarnest m q cut most (entry_of m (record { from_zero = false; steps = steps; raises = raises.made; end = e }))
  earnest e quiet short spent =
      let known_is : ns ≡ known (raised_all same_row (Some q.multipliers) (map raise_of raises.made)) = ap known (sym to_is) in
      record {
        quiet = subst (IsQuiet m) tight.box quiet;
        rising = subst (λ (c : Box). EachRises m c q.multipliers (map raise_of raises.made)) tight.box (subst (λ (us : Multipliers Row). EachRises m b us (map raise_of raises.made)) (sym inherited) (each_rises m b ms raises.made raises.rise));
        short = subst (λ (c : Box). Closes (whole m) c (known (raised_all same_row (Some q.multipliers) (map raise_of raises.made))) cut → ⊥) tight.box (subst (λ (us : Multipliers Row). Closes (whole m) b us cut → ⊥) known_is short);
        spent = subst (λ (c : Box). (length (map raise_of raises.made) ≡ most) ⊎ IsStuck m c (known (raised_all same_row (Some q.multipliers) (map raise_of raises.made)))) tight.box
            (subst (λ (us : Multipliers Row). (length (map raise_of raises.made) ≡ most) ⊎ IsStuck m b us) known_is (subst (λ (n : ℕ). (n ≡ most) ⊎ IsStuck m b ns) (sym (length-map raises.made raise_of)) spent));
      }

  pub stuck_ends : (x : ℕ) → x < length (variables m) → slice_get b x ≡ Some None → IsQuiet m b → (Closes (whole m) b ns cut → ⊥) → (length new ≡ length old + most) ⊎ IsStuck m b ns
      → EndsBranched m q most cut (record { from_zero = false; steps = steps; raises = new; end = Branch (var m x) })
  stuck_ends x lt free quiet short spent =
      let count : length old ≡ 0 = ap (λ (rs : List Raise). length rs) none in
      let full : (length raises.made ≡ most) ⊎ IsStuck m b ns = elim spent [ inl n ↦ inl (omega (arith, ap (λ (rs : List Raise). length rs) made_is)) | inr h ↦ inr h ] in
      subst (λ (rs : List Raise). EndsBranched m q most cut (record { from_zero = false; steps = steps; raises = rs; end = Branch (var m x) })) (sym made_is)
      (record {
        ends = branch_ends m q most cut false steps raises.made b ns tight (raises_named m raises.made raises.rows) raises.few to_is x lt free;
        divides = refl;
        earnest = earnest (Branch (var m x)) quiet short full;
      })

-- ## Where a record divides the box

divides_by : {R : Type 0} (p : Program R) (b : Box) (o : Option (Multipliers R)) (value : ℕ) (same : R → R → Bool) (e : trees.End) → branches e ≡ true → EndAllowed same p Anything value b o e → Divides p b e
divides_by p b None value same e is h = absurd h
divides_by p b (Some ms) value same trees.Leaf is h = absurd (cc)
divides_by p b (Some ms) value same trees.Left is h = absurd (cc)
divides_by p b (Some ms) value same (trees.Branch v) is h = h

pub branched_divides : (m : Voyage) (q : Pending Row) (most cut : ℕ) (r : Record) (b : Box) → EndsBranched m q most cut r → b ≡ tightened (whole m) q.box r.steps → Divides (whole m) b (end_of (number_of m) r.end)
branched_divides m q most cut r b h is = subst (λ (c : Box). Divides (whole m) c (end_of (number_of m) r.end)) (sym is)
    (divides_by (whole m) (tightened (whole m) q.box r.steps) (multipliers_after same_row (whole m) q (entry_of m r)) cut same_row (end_of (number_of m) r.end) h.divides h.ends.allowed.1)
