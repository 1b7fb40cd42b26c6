use Rattle.std.proofs.Common.{take}
use Rattle.dual_bound.specs.Costs.{Priced}
use Rattle.dual_bound.proofs.raising.price_all.Given as goal

abbrev pub invariant-loop-entry : goal.invariant-loop-entry
invariant-loop-entry l = Priced l.model l.b (take l.entry-index l.m) l.costs
