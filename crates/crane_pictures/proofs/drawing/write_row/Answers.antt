use Rattle.std.proofs.Common.{append_assoc}
use Rattle.crane_pictures.specs.Pictures.{row}
use Rattle.crane_pictures.proofs.drawing.write_row.Goals as goal

pub returns : goal.returns
unfolding row
returns c =
    let e0 = c.in_ok-put.ensures in
    let e1 = c.in_ok-put-2.ensures in
    simp append_assoc (simp append_assoc at (rw (e1, e0) at c.write_raw.ensures))
