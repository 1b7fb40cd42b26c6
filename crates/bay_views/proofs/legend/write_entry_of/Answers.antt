use Rattle.std.proofs.Common.{append_assoc}
use Rattle.bay_views.specs.Drawings.{entry_of}
use Rattle.bay_views.proofs.legend.write_entry_of.Goals as goal

pub returns : goal.returns
unfolding entry_of
returns c =
    let front = rw (c.containers_for-containers.ensures, c.kilograms_for-kilograms.ensures) at c.in_ok-write_entry.ensures in
    let both = rw (front, c.mark_at.ensures, c.entry_left.ensures.value, c.entry_top.ensures.value) at c.write_letters.ensures in
    rw c.at-port.ensures (simp append_assoc (simp append_assoc at both))
