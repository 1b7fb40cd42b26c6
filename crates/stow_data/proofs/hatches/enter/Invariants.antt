use Rattle.std.proofs.Common.{◌≡◌, take}
use Rattle.stow_data.proofs.CoverLemmas.{entered}
use Rattle.stow_data.proofs.hatches.enter.Given as goal

abbrev pub invariant-loop-stack : goal.invariant-loop-stack
invariant-loop-stack l = l.table ≡ entered l.initial.table l.cover (take l.stack-index l.stacks)
