use Rattle.std.proofs.Common.{append_assoc}
use Rattle.bay_views.specs.Pages.{links}
use Rattle.bay_views.proofs.page.write_links.Goals as goal

pub returns : goal.returns
unfolding links
returns c =
    let e0 = c.in_ok-write_raw.ensures in
    let e1 = c.in_ok-write_reference.ensures in
    let e2 = c.in_ok-write_raw-2.ensures in
    let e3 = c.in_ok-escape_text.ensures in
    let e4 = c.in_ok-write_raw-3.ensures in
    let e5 = c.in_ok-write_reference-2.ensures in
    simp append_assoc (simp append_assoc at (rw (e5, e4, e3, e2, e1, e0) at c.write_raw-4.ensures))
