use Rattle.std.proofs.Common.{◌<◌, All}
use Rattle.voyage_state.proofs.bonds.Groups.stacks_of.Given as goal

abbrev pub invariant-loop-stack : goal.invariant-loop-stack
invariant-loop-stack l = All (λ s. s < l.count) l.list.items
