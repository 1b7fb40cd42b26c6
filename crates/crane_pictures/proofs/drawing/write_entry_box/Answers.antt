use Rattle.std.proofs.Common.{append_assoc}
use Rattle.crane_pictures.specs.Pictures.{entry_box}
use Rattle.crane_pictures.proofs.drawing.write_entry_box.Goals as goal

pub returns : goal.returns
unfolding entry_box
returns c =
    let e0 = c.in_ok-write_raw.ensures in
    let e1 = c.in_ok-write_raw-2.ensures in
    let e2 = c.in_ok-write_raw-3.ensures in
    simp append_assoc (simp append_assoc at (rw (c.words.ensures, e2, e1, c.letter.ensures, e0) at c.write_raw-4.ensures))
