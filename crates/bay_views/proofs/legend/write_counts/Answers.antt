use Rattle.std.proofs.Common.{append_assoc}
use Rattle.bay_views.proofs.legend.write_counts.Goals as goal

pub returns : goal.returns
returns c =
    let e0 = rw c.bytes.ensures.value at c.in_ok-write_port.ensures in
    let e1 = c.in_ok-put.ensures in
    let e2 = c.in_ok-write_raw.ensures in
    let e3 = c.in_ok-write_tonnes.ensures in
    simp append_assoc (simp append_assoc at (rw (e3, e2, e1, e0) at c.write_raw-2.ensures))
