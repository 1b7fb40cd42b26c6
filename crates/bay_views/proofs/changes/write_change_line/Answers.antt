use Rattle.std.proofs.Common.{append_assoc}
use Rattle.bay_views.specs.Changes.{change_line}
use Rattle.bay_views.proofs.changes.write_change_line.Goals as goal

pub returns : goal.returns
unfolding change_line
returns c =
    let e0 = c.in_ok-write_label.ensures in
    let e1 = c.in_ok-put.ensures in
    let e2 = c.in_ok-put-2.ensures in
    let e3 = c.in_ok-put-3.ensures in
    simp append_assoc (simp append_assoc at (rw (e3, e2, e1, e0) at c.write_raw.ensures))
