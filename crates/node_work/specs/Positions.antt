-- Boxes that are kept from node to node: the records on the way to a node, and what is left of the box when only so many variables were fixed. No public clause cites this module.
use Rattle.std.specs.Prelude.{◌≡◌, ℕ, ◌≤◌, Bool, List, [], ◌∷◌, length}
use Rattle.zero_one_rows.specs.Variables.{Voyage}
use Rattle.zero_one_rows.specs.Rows.{whole}
use Rattle.proof_trees.specs.Boxes.{Box, free_box, tightened}
use Rattle.certificate.specs.declared.tree.Record.{Record}
use Rattle.certificate.specs.Entries.{end_of, number_of}
use Rattle.search_core.specs.Journals.{divided}
use Rattle.search_core.specs.Machine.{Divides}
use Rattle.partial_plan.specs.Fixing.{released}
use Rattle.node_work.specs.declared.positions.Frame.{Frame}
use Rattle.node_work.specs.declared.positions.TreePosition.{TreePosition}

abbrev pub entry_in : Frame → Record
entry_in f = f.entry

abbrev pub value_in : Frame → Bool
value_in f = f.value

module _ (m : Voyage) where
  -- the box after the record's steps, and that of the half at the frame's value
  abbrev pub box_under : Box → Frame → Box
  box_under b f = tightened (whole m) b f.entry.steps

  abbrev pub half_under : Box → Frame → Box
  half_under b f = divided (box_under b f) (end_of (number_of m) f.entry.end) f.value

  -- the box after all frames
  abbrev pub box_along : Box → List Frame → Box
  box_along b [] = b
  box_along b (f ∷ fs) = box_along (half_under b f) fs

  -- From this box on: the record names rows of the program and divides the box, and the box after its steps is what is left when so many variables are fixed as the frame says.
  pub record IsFrame (known : Box) (undo : List ℕ) (from : ℕ) (b : Box) (f : Frame) : Type 0 where
    pub rising : from ≤ f.mark
    pub mark : f.mark ≤ length undo
    pub left : released known undo f.mark ≡ box_under b f
    pub divides : Divides (whole m) (box_under b f) (end_of (number_of m) f.entry.end)

  abbrev pub Stacked : Box → List ℕ → ℕ → Box → List Frame → Type 0
  Stacked known undo from b [] = Unit {0}
  Stacked known undo from b (f ∷ fs) = IsFrame known undo from b f × Stacked known undo f.mark (half_under b f) fs

  -- the kept box is of the program, the free box once all is freed, and stands along the frames
  pub record IsPosition (s : TreePosition) : Type 0 where
    pub voyage : s.kept.voyage ≡ m
    pub bottom : released s.kept.known s.kept.undo 0 ≡ free_box (whole m)
    pub stacked : Stacked s.kept.known s.kept.undo 0 (free_box (whole m)) s.frames.items
