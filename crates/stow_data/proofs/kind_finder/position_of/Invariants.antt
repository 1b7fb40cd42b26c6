use Rattle.std.proofs.Common.{◌≡◌, ◌+◌, drop}
use Rattle.stow_data.specs.Kinds.{number_in}
use Rattle.stow_data.proofs.kind_finder.position_of.Given as goal

abbrev pub invariant-loop-number : goal.invariant-loop-number
invariant-loop-number l = l.number + number_in (drop l.number l.list) l.shown ≡ number_in l.list l.shown
