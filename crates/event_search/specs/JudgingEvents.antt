-- What the rules of a voyage's program say of a record at a node.
use Rattle.std.specs.Prelude.{◌≡◌, ℕ, true, false, Some, Result, Ok, Err, pos, ◌+ℤ◌, ◌-ℤ◌, ◌*ℤ◌}
use Rattle.zero_one_rows.specs.declared.program.Row.{Row}
use Rattle.zero_one_rows.specs.Variables.{Voyage}
use Rattle.zero_one_rows.specs.Rows.{whole}
use Rattle.zero_one_rows.specs.Counted.{base_rows}
use Rattle.proof_trees.specs.Boxes.{Box}
use Rattle.proof_trees.specs.Multipliers.{Multipliers, Closes, worth}
use Rattle.proof_trees.specs.Trees.{Leaf, Entry, Pending, root}
use Rattle.certificate.specs.Entries.{same_row}
use Rattle.search_core.specs.Journals.{branches, box_after, multipliers_after, NamesRows}
use Rattle.search_core.specs.Machine.{Node, begins, price, is_full, IsEntry, IsTrail, Divides}
use Rattle.search_core.specs.declared.refused.Refused.{Refused}
use Rattle.search_core.specs.declared.refused.Refused.TheVariants.{BadEntry, NotFull, Short, NotFree}

module _ (m : Voyage) where
  -- the records above the node are a trail
  abbrev pub HasTrail : Node Row → Type 0
  HasTrail n = IsTrail same_row (whole m) (root (whole m)) n.path n.trail

  module _ (n : Node Row) (e : Entry Row) where
    -- with what the record begins, and the box after its steps
    abbrev pub begun_at : Pending Row
    begun_at = begins same_row (whole m) n

    abbrev pub box_there : Box
    box_there = box_after same_row (whole m) begun_at e

    -- it names rows of the program and keeps multipliers in range; and it is a leaf, or divides its box
    abbrev pub IsRecord : Type 0
    IsRecord = IsEntry same_row (whole m) begun_at e

    abbrev pub IsLeaf : Type 0
    IsLeaf = IsRecord × (e.end ≡ Leaf)

    abbrev pub IsBranch : Type 0
    IsBranch = IsRecord × (branches e.end ≡ true)

    -- the leaf has these multipliers
    abbrev pub IsPricedLeaf : Multipliers Row → Type 0
    IsPricedLeaf ms = NamesRows same_row (whole m) e × (multipliers_after same_row (whole m) begun_at e ≡ Some ms) × (e.end ≡ Leaf)

    -- a leaf that closes at the value seen
    abbrev pub JudgesClose : ℕ → Result (Unit {0}) Refused → Type 0
    JudgesClose seen (Ok u) = (ms : Multipliers Row) × IsPricedLeaf ms × Closes (whole m) box_there ms seen
    JudgesClose seen (Err BadEntry) = IsLeaf → ⊥
    JudgesClose seen (Err (Short value needed)) = (ms : Multipliers Row) × IsPricedLeaf ms × (Closes (whole m) box_there ms seen → ⊥)
        × (value ≡ worth (whole m) box_there ms) × (needed ≡ (pos 16 *ℤ (pos seen -ℤ pos 1)) +ℤ pos 1)
    JudgesClose seen (Err r) = ⊥

    -- a branch by a variable that is free
    abbrev pub JudgesBranch : Result (Unit {0}) Refused → Type 0
    JudgesBranch (Ok u) = IsRecord × Divides (whole m) box_there e.end
    JudgesBranch (Err BadEntry) = IsBranch → ⊥
    JudgesBranch (Err NotFree) = IsBranch × (Divides (whole m) box_there e.end → ⊥)
    JudgesBranch (Err r) = ⊥

    -- a leaf with a full box that violates no base row, and the price of the box
    abbrev pub JudgesOffer : Result ℕ Refused → Type 0
    JudgesOffer (Ok cost) = IsLeaf × (is_full (whole m) (base_rows m) box_there ≡ true) × (cost ≡ price (whole m) box_there)
    JudgesOffer (Err BadEntry) = IsLeaf → ⊥
    JudgesOffer (Err NotFull) = IsLeaf × (is_full (whole m) (base_rows m) box_there ≡ false)
    JudgesOffer (Err r) = ⊥
