-- The first fault of records that are no tree which proves the bound, in preorder; within a record first its steps, then its raises in order, then its end.
use Rattle.std.specs.Prelude.{ℕ, ◌+◌, true, false, cond, ◌&&◌, nat_lt, List, [], ◌∷◌, map, Option, Some, None, Result, Ok, Err, ℤ, pos, ◌+ℤ◌, ◌-ℤ◌, ◌*ℤ◌, int_lt}
use Rattle.std.specs.Option.{is_none, ok_or, option_or}
use Rattle.zero_one_rows.specs.declared.program.Row.{Row}
use Rattle.zero_one_rows.specs.Variables.{Voyage}
use Rattle.zero_one_rows.specs.Rows.{whole}
use Rattle.certificate.specs.declared.tree.Record.{Record}
use Rattle.proof_trees.specs.Program.{Program}
use Rattle.proof_trees.specs.Boxes.{Box, at, fixed, tightened}
use Rattle.proof_trees.specs.Multipliers.{Multipliers, worth, raised}
use Rattle.proof_trees.specs.Trees.{End, Leaf, Left, Branch, Entry, Pending, begun, root}
use Rattle.certificate.specs.declared.refusals.BoundNo.{BoundNo}
use Rattle.certificate.specs.declared.refusals.BoundNo.TheVariants.{Multiplier, StepRow, BranchFixed, LeafShort, TreeEnds, TreeTooLong}
use Rattle.certificate.specs.Entries.{same_row, entry_of}

-- the least dual value that closes at the bound
abbrev pub needed : ℕ → ℤ
needed bound = pos 16 *ℤ (pos bound -ℤ pos 1) +ℤ pos 1

module _ (p : Program Row) where
  -- the program hasn't each of these rows
  abbrev pub step_fault : ℕ → List Row → Option BoundNo
  step_fault node [] = None
  step_fault node (r ∷ rs) = cond (p.has r) (step_fault node rs) (Some (StepRow node))

  -- one change of a multiplier
  abbrev pub raised_row : ℕ → Multipliers Row → Row × ℤ → Result (Multipliers Row) BoundNo
  raised_row node ms r = cond (p.has r.0) (ok_or (raised same_row ms r.0 r.1) (Multiplier node)) (Err (StepRow node))

  abbrev pub raised_rows : ℕ → Result (Multipliers Row) BoundNo → List (Row × ℤ) → Result (Multipliers Row) BoundNo
  raised_rows node (Err fault) rs = Err fault
  raised_rows node (Ok ms) [] = Ok ms
  raised_rows node (Ok ms) (r ∷ rs) = raised_rows node (raised_row node ms r) rs

  -- the box doesn't close at the bound
  abbrev pub short_fault : ℕ → ℕ → Box → Multipliers Row → Option BoundNo
  short_fault bound node b ms = cond (int_lt (worth p b ms) (needed bound)) (Some (LeafShort node (worth p b ms) (needed bound))) None

  -- of the end of a record, where `rest` gives the first fault of the records behind it for boxes that wait
  abbrev pub end_fault : ℕ → (List (Pending Row) → Option BoundNo) → ℕ → List (Pending Row) → Box → Result (Multipliers Row) BoundNo → End → Option BoundNo
  end_fault bound rest node waiting b (Err fault) end = Some fault
  end_fault bound rest node waiting b (Ok ms) Leaf = option_or (short_fault bound node b ms) (rest waiting)
  end_fault bound rest node waiting b (Ok ms) Left = option_or (short_fault bound node b ms) (rest waiting)
  end_fault bound rest node waiting b (Ok ms) (Branch v) =
      cond (nat_lt v p.vars && is_none (at b v)) (rest (record { box = fixed b v true; multipliers = ms } ∷ record { box = fixed b v false; multipliers = ms } ∷ waiting)) (Some (BranchFixed node))

  -- of the trees of boxes that wait, from the node with this number on
  abbrev pub tree_fault : ℕ → ℕ → List (Pending Row) → List (Entry Row) → Option BoundNo
  tree_fault bound node [] [] = None
  tree_fault bound node [] (e ∷ es) = Some TreeTooLong
  tree_fault bound node (q ∷ waiting) [] = Some TreeEnds
  tree_fault bound node (q ∷ waiting) (e ∷ es) =
      option_or (step_fault node e.steps)
      (end_fault bound (λ boxes. tree_fault bound (node + 1) boxes es) node waiting (tightened p q.box e.steps) (raised_rows node (Ok (begun e.from_zero q.multipliers)) e.raises) e.end)

-- nodes count from 1
abbrev pub first_fault : Voyage → List Record → ℕ → Option BoundNo
first_fault m records bound = tree_fault (whole m) bound 1 (root (whole m) ∷ []) (map (entry_of m) records)
