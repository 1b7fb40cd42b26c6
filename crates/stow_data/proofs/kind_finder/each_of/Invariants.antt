use Rattle.std.proofs.Common.{◌≡◌, take, map}
use Rattle.stow_data.specs.Kinds.{number_in, kind_of}
use Rattle.stow_data.proofs.kind_finder.each_of.Given as goal

abbrev pub invariant-loop-container : goal.invariant-loop-container
invariant-loop-container l = l.each ≡ map (λ c. number_in l.list (kind_of l.ship.weight_step c)) (take l.container-index l.containers)
