use Rattle.std.proofs.Common.{append_assoc}
use Rattle.crane_pictures.specs.Pictures.{named_list}
use Rattle.crane_pictures.proofs.drawing.write_name.Goals as goal

pub returns : goal.returns
unfolding named_list
returns c =
    let e0 = c.in_ok-write_raw.ensures in
    let e1 = c.in_ok-escape_text.ensures in
    simp append_assoc (simp append_assoc at (rw (e1, e0) at c.write_raw-2.ensures))
