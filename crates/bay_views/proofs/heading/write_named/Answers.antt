use Rattle.std.proofs.Common.{append_assoc}
use Rattle.bay_views.specs.Heads.{named}
use Rattle.bay_views.proofs.heading.write_named.Goals as goal

pub returns : goal.returns
unfolding named
returns c =
    let e0 = c.in_ok-write_raw.ensures in
    let e1 = c.in_ok-write_whole.ensures in
    let e2 = c.in_ok-write_raw-2.ensures in
    let e3 = c.in_ok-write_short.ensures in
    simp append_assoc (simp append_assoc at (rw (e3, e2, e1, e0) at c.write_raw-3.ensures))
