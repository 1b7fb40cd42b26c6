use Rattle.std.proofs.Common.{append_assoc}
use Rattle.bay_views.proofs.marks.write_filled.Goals as goal

pub returns : goal.returns
returns c =
    let e0 = c.in_ok-write_raw.ensures in
    let e1 = c.in_ok-write_classes.ensures in
    let e2 = c.in_ok-write_raw-2.ensures in
    let e3 = c.in_ok-write_title.ensures in
    let e4 = c.in_ok-write_raw-3.ensures in
    let e5 = c.in_ok-write_inside.ensures in
    simp append_assoc (simp append_assoc at (rw (e5, e4, e3, e2, e1, e0) at c.write_raw-4.ensures))
