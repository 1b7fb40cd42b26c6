use Rattle.std.proofs.lemmas.List.{length-map}
use Rattle.bay_views.specs.Cells.{shape_of}
use Rattle.bay_views.proofs.Shapes.{filled}
use Rattle.bay_views.proofs.law.drawn_once.Goals as goal

pub returns : goal.returns
returns c = record { each = λ s ports groups. length-map groups (shape_of s ports); filled = filled }
