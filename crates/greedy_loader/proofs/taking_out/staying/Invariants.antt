use Rattle.greedy_loader.specs.Kept.{IsKept}
use Rattle.greedy_loader.specs.Quays.{HoldsUpTo}
use Rattle.greedy_loader.proofs.taking_out.staying.Given as goal

abbrev pub invariant-loop-p : goal.invariant-loop-p
invariant-loop-p l = record {
  kept : IsKept l.ship l.cargo l.layout;
  holds : HoldsUpTo l.before l.set l.p l.layout.plan;
}
