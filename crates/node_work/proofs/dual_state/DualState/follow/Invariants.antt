use Rattle.std.proofs.Common.{◌≡◌, drop}
use Rattle.node_work.specs.Starts.{InRange, prices_along}
use Rattle.node_work.specs.DualStates.{AreNamed, IsDualState}
use Rattle.node_work.proofs.dual_state.DualState.follow.Given as goal

abbrev pub invariant-loop-k : goal.invariant-loop-k
invariant-loop-k l = record {
  dual_state : IsDualState l.model l.self;
  named : AreNamed l.model (drop l.k l.trail);
  range : InRange l.self.gauge.multipliers (drop l.k l.trail);
  along : prices_along l.self.gauge.multipliers (drop l.k l.trail) ≡ prices_along l.fn.self.gauge.multipliers (drop l.fn.depth l.trail);
}
