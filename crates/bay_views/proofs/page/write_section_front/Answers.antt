use Rattle.std.proofs.Common.{append_assoc}
use Rattle.bay_views.specs.Pages.{section_front}
use Rattle.bay_views.proofs.page.write_section_front.Goals as goal

pub returns : goal.returns
unfolding section_front
returns c =
    let front = c.in_ok-put.ensures in
    simp append_assoc (simp append_assoc at (rw front at c.write_raw.ensures))
