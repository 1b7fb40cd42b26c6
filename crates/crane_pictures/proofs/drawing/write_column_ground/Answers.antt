use Rattle.std.proofs.Common.{append_assoc}
use Rattle.crane_pictures.specs.Pictures.{column_ground}
use Rattle.crane_pictures.proofs.drawing.write_column_ground.Goals as goal

pub returns : goal.returns
unfolding column_ground
returns c =
    let front = c.in_ok-put.ensures in
    simp append_assoc (simp append_assoc at (rw front at c.write_raw.ensures))
