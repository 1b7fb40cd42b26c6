use Rattle.std.proofs.Common.{◌≡◌, map, take}
use Rattle.std.specs.Prelude.{slice_index_or}
use Rattle.stow_data.specs.Ship.{places}
use Rattle.stow_data.specs.Plans.{no_place}
use Rattle.zero_one_model.specs.Indexed.{place_shelf}
use Rattle.zero_one_model.proofs.index.shelf_keys.Given as goal

abbrev pub invariant-loop-x : goal.invariant-loop-x
invariant-loop-x l = l.keys ≡ map (λ v. place_shelf (slice_index_or (places l.ship) v.place no_place)) (take l.x-index l.vars)
