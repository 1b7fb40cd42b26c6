use Rattle.std.proofs.Common.{◌≡◌, ◌+◌, length}
use Rattle.model_bridge.proofs.Reached.{IsReached}
use Rattle.model_bridge.proofs.plans.push_plans.Given as goal

abbrev pub invariant-loop-call : goal.invariant-loop-call
invariant-loop-call l = record {
  reached : IsReached l.model l.full l.plans l.held;
  number : length l.plans + 1 ≡ l.call;
}
