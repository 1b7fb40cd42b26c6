use Rattle.std.proofs.Common.{append_assoc}
use Rattle.bay_views.specs.Drawings.{view}
use Rattle.bay_views.proofs.drawing.write_view.Goals as goal

pub returns : goal.returns
unfolding view
returns c =
    let e0 = c.in_ok-put.ensures in
    let e1 = c.in_ok-put-2.ensures in
    let e2 = c.in_ok-put-3.ensures in
    let e3 = c.in_ok-put-4.ensures in
    let e4 = c.in_ok-put-5.ensures in
    simp append_assoc (simp append_assoc at (rw (e4, e3, e2, e1, e0) at c.write_raw.ensures))
