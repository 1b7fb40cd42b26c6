use Rattle.std.proofs.Common.{append_assoc}
use Rattle.bay_views.specs.Pages.{section_of}
use Rattle.bay_views.proofs.page.write_section_of.Goals as goal

pub returns : goal.returns
unfolding section_of
returns c =
    let e0 = rw (c.as_str-name.ensures, c.len-many.ensures) at c.in_ok-write_section.ensures in
    let e1 = rw (c.as_str-name.ensures, c.bays_at.ensures) at c.in_ok-write_prints.ensures in
    rw c.at.ensures (simp append_assoc (simp append_assoc at (rw (e1, e0) at c.write_raw.ensures)))
