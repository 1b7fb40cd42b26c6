use Rattle.std.proofs.Common.{append_assoc}
use Rattle.bay_views.proofs.drawing.write_use.Goals as goal

pub returns : goal.returns
returns c =
    let first = c.in_ok-put.ensures in
    let second = c.in_ok-put-2.ensures in
    simp append_assoc (simp append_assoc at (rw (second, first) at c.write_raw.ensures))
