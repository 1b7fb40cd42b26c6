use Rattle.std.proofs.Common.{◌≡◌, ◌-◌, drop, length}
use Rattle.model_bridge.specs.Pairs.{plan_of_pairs}
use Rattle.model_bridge.proofs.plans.plan_with.Given as goal

abbrev pub invariant-loop-n : goal.invariant-loop-n
invariant-loop-n l = l.plan ≡ plan_of_pairs l.model (drop (length l.held - l.n) l.held)
