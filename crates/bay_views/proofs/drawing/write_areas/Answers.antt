use Rattle.std.proofs.Common.{append_assoc}
use Rattle.bay_views.proofs.drawing.write_areas.Goals as goal

pub returns : goal.returns
returns c =
    let e0 = c.in_ok-write_area.ensures in
    let e1 = c.in_ok-write_area-2.ensures in
    simp append_assoc (simp append_assoc at (rw (e1, e0) at c.write_area-3.ensures))
