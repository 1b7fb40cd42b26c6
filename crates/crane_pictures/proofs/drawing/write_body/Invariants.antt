use Rattle.std.proofs.Common.{◌≡◌, ◌++◌, take}
use Rattle.std.specs.Prelude.{flat_map}
use Rattle.crane_pictures.specs.Pictures.{shape_text}
use Rattle.crane_pictures.proofs.drawing.write_body.Given as goal

abbrev pub invariant-loop-shape : goal.invariant-loop-shape
invariant-loop-shape l = l.out ≡ l.fn.out ++ flat_map shape_text (take l.shape-index l.shapes)
