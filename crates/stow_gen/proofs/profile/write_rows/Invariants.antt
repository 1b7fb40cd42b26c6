use Rattle.std.proofs.Common.{◌≡◌, ◌++◌, take}
use Rattle.std.specs.Prelude.{flat_map}
use Rattle.stow_gen.specs.Profile.{stack_text}
use Rattle.stow_gen.proofs.profile.write_rows.Given as goal

abbrev pub invariant-loop-row : goal.invariant-loop-row
invariant-loop-row l = l.out ≡ l.fn.out ++ flat_map (stack_text l.rest l.bay) (take l.row-index l.rows)
