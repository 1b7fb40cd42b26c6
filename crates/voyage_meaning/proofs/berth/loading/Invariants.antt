use Rattle.std.proofs.Common.{◌≡◌, take}
use Rattle.std.specs.Prelude.{map, ◌==◌}
use Rattle.stow_data.specs.declared.cargoes.Container.{Container}
use Rattle.voyage_meaning.proofs.berth.loading.Given as goal

abbrev pub invariant-loop-c : goal.invariant-loop-c
invariant-loop-c l = l.quay ≡ map (λ (x : Container). x.load == l.call) (take l.c l.cargo.containers)
