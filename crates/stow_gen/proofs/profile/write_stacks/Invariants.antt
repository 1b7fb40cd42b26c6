use Rattle.std.proofs.Common.{◌≡◌, ◌++◌, take}
use Rattle.std.specs.Prelude.{flat_map}
use Rattle.stow_gen.specs.Profile.{bay_text}
use Rattle.stow_gen.proofs.profile.write_stacks.Given as goal

abbrev pub invariant-loop-bay : goal.invariant-loop-bay
invariant-loop-bay l = l.out ≡ l.fn.out ++ flat_map (bay_text l.rest) (take l.bay-index l.bays)
