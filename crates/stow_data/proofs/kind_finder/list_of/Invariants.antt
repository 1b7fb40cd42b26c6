use Rattle.std.proofs.Common.{◌≡◌, take}
use Rattle.stow_data.specs.Kinds.{kinds_of}
use Rattle.stow_data.proofs.kind_finder.list_of.Given as goal

abbrev pub invariant-loop-container : goal.invariant-loop-container
invariant-loop-container l = l.list ≡ kinds_of l.ship.weight_step (take l.container-index l.containers)
