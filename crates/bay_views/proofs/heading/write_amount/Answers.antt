use Rattle.std.proofs.Common.{append_assoc}
use Rattle.bay_views.specs.Heads.{amount}
use Rattle.bay_views.proofs.heading.write_amount.Goals as goal

pub returns : goal.returns
unfolding amount
returns c =
    let e0 = c.in_ok-write_number.ensures in
    let e1 = c.in_ok-write_raw.ensures in
    let e2 = c.in_ok-write_tonnes.ensures in
    simp append_assoc (simp append_assoc at (rw (e2, e1, e0) at c.write_raw-2.ensures))
