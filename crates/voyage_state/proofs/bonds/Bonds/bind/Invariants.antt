use Rattle.std.proofs.Common.{◌<◌, All}
use Rattle.voyage_state.proofs.bonds.Bonds.bind.Given as goal

abbrev pub invariant-loop-group : goal.invariant-loop-group
invariant-loop-group l = All (λ list. All (λ s. s < l.count) list.items) l.lists.items
