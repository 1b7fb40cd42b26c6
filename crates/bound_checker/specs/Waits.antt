-- The boxes of a tree that wait, kept as one box with what was fixed and changed since. No public clause cites this module.
use Rattle.std.specs.Prelude.{◌≡◌, ℕ, ◌<◌, ◌≤◌, ◌^◌, true, false, cond, All, IfSome, List, [], ◌∷◌, ◌++◌, Option, Some, None, length, take, drop, ◌⊎◌}
use Rattle.std.specs.Option.{option_map}
use Rattle.proof_trees.specs.Boxes.{Box, at, fixed}
use Rattle.proof_trees.specs.Multipliers.{Multipliers, amount_of}
use Rattle.proof_trees.specs.Trees.{Pending}
use Rattle.partial_plan.specs.Fixing.{released}
use Rattle.zero_one_rows.specs.declared.program.Row.{Row}
use Rattle.zero_one_rows.specs.Variables.{Voyage}
use Rattle.zero_one_rows.specs.Rows.{whole}
use Rattle.certificate.specs.Entries.{same_row}
use Rattle.bound_checker.specs.declared.prices.Change.{Change}
use Rattle.bound_checker.specs.declared.walk.Frame.{Frame}
use Rattle.dual_bound.specs.Costs.{AreSmall}
use Rattle.bound_checker.specs.declared.sums.Aside.{Aside}
use Rattle.bound_checker.specs.Sums.{IsAside}

-- a row's multiplier before these changes: what the first change of the row found
abbrev pub back_at : Row → ℕ → List Change → ℕ
back_at r n [] = n
back_at r n (c ∷ cs) = cond (same_row c.row r) c.old (back_at r n cs)

-- the multipliers in hand, where others may be aside
abbrev pub in_hand : Option Aside → Multipliers Row → Multipliers Row
in_hand None ms = ms
in_hand (Some aside) ms = []

-- the multipliers before the changes past a place of the list
abbrev pub Before : Multipliers Row → ℕ → List Change → Multipliers Row → Type 0
Before ns to k ms = (r : Row) → back_at r (amount_of same_row ms r) (drop to k) ≡ amount_of same_row ns r

-- a change of a row of the program, which found a multiplier in its range
pub record IsSound (m : Voyage) (c : Change) : Type 0 where
  pub named : (whole m).has c.row ≡ true
  pub low : c.old ≤ 2 ^ 40

-- the multipliers, with the changes noted so far, became others, with more changes
pub record Moves (m : Voyage) (ms : Multipliers Row) (k : List Change) (ns : Multipliers Row) (l : List Change) : Type 0 where
  pub more : List Change
  pub added : l ≡ k ++ more
  pub back : (r : Row) → back_at r (amount_of same_row ns r) more ≡ amount_of same_row ms r
  pub sound : All (IsSound m) more

-- A box that waits for the half of value 0 of a variable: what was fixed and changed since is taken back. Where its multipliers are aside, the changes since are from none.
pub record Waits (m : Voyage) (b : Box) (undo : List ℕ) (ms : Multipliers Row) (k : List Change) (f : Frame) (q : Pending Row) : Type 0 where
  pub mark : f.mark ≤ length undo
  pub changes : f.changes ≤ length k
  pub inside : f.var < length b
  pub free : at (released b undo f.mark) f.var ≡ None
  pub box : q.box ≡ fixed (released b undo f.mark) f.var false
  pub amounts : (r : Row) → back_at r (amount_of same_row ms r) (drop f.changes k) ≡ amount_of same_row (in_hand f.aside q.multipliers) r
  pub aside : IfSome f.aside (IsAside m (released b undo f.mark) q.multipliers)
  pub small : AreSmall m q.multipliers

-- the same frame, where no costs are kept aside
abbrev pub without_costs : Aside → Aside
without_costs a = record { amounts = a.amounts; costs = None }

abbrev pub bare : Frame → Frame
bare f = record { var = f.var; mark = f.mark; changes = f.changes; aside = option_map without_costs f.aside }

-- the same frames, where some may have become bare
abbrev pub AreBarer : List Frame → List Frame → Type 0
AreBarer [] [] = Unit {0}
AreBarer [] (g ∷ gs) = ⊥
AreBarer (f ∷ fs) [] = ⊥
AreBarer (f ∷ fs) (g ∷ gs) = ((g ≡ f) ⊎ (g ≡ bare f)) × AreBarer fs gs

-- the boxes that wait, the last frame first
abbrev pub AllWait : Voyage → Box → List ℕ → Multipliers Row → List Change → List Frame → List (Pending Row) → Type 0
AllWait m b undo ms k [] [] = Unit {0}
AllWait m b undo ms k [] (q ∷ qs) = ⊥
AllWait m b undo ms k (f ∷ fs) [] = ⊥
AllWait m b undo ms k (f ∷ fs) (q ∷ qs) = Waits m b undo ms k f q × AllWait m (released b undo f.mark) (take f.mark undo) q.multipliers (take f.changes k) fs qs
