use Rattle.std.proofs.Common.{◌≡◌, map, take}
use Rattle.std.specs.Prelude.{slice_index_or}
use Rattle.stow_data.specs.Ship.{places}
use Rattle.stow_data.specs.Plans.{no_place}
use Rattle.zero_one_model.proofs.index.stack_keys.Given as goal

abbrev pub invariant-loop-x : goal.invariant-loop-x
invariant-loop-x l = l.keys ≡ map (λ v. (slice_index_or (places l.ship) v.place no_place).stack) (take l.x-index l.vars)
