use Rattle.std.proofs.Common.{append_assoc}
use Rattle.crane_pictures.specs.Pictures.{opening}
use Rattle.crane_pictures.proofs.drawing.write_opening.Goals as goal

pub returns : goal.returns
unfolding opening
returns c =
    let e0 = c.in_ok-write_raw.ensures in
    let e1 = c.in_ok-put.ensures in
    simp append_assoc (simp append_assoc at (rw (e1, e0, c.picture_mark.ensures) at c.put-2.ensures))
