use Rattle.std.proofs.Common.{◌≡◌, ◌++◌, take}
use Rattle.std.specs.Prelude.{flat_map}
use Rattle.stow_gen.specs.Profile.{cover_text}
use Rattle.stow_gen.proofs.profile.write_covers.Given as goal

abbrev pub invariant-loop-bay : goal.invariant-loop-bay
invariant-loop-bay l = l.out ≡ l.fn.out ++ flat_map cover_text (take l.bay-index l.bays)
