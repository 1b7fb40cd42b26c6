use Rattle.std.proofs.Common.{◌≡◌, length}
use Rattle.stow_data.specs.Ship.{places}
use Rattle.greedy_loader.specs.Calls.{leaving}
use Rattle.greedy_loader.proofs.Leaving.{SetTo}
use Rattle.greedy_loader.proofs.lifted.leaving.Given as goal

abbrev pub invariant-loop-p : goal.invariant-loop-p
invariant-loop-p l = record {
  so_far : SetTo (leaving l.cargo l.call l.plan) l.set l.p;
  each_flag : length l.set ≡ length (places l.ship);
}
