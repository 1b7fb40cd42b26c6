use Rattle.std.proofs.Common.{◌≡◌, ◌≤◌, take}
use Rattle.std.specs.Prelude.{count_by}
use Rattle.crane_pictures.specs.Shapes.{has_purpose}
use Rattle.crane_pictures.proofs.shapes.count_of.Given as goal

abbrev pub invariant-loop-shape : goal.invariant-loop-shape
invariant-loop-shape l = (l.count ≡ count_by (has_purpose l.purpose) (take l.shape-index l.shapes)) × (l.count ≤ l.shape-index)
