use Rattle.std.proofs.Common.{length}
use Rattle.zero_one_rows.specs.Variables.{variables, var}
use Rattle.model_bridge.specs.Stays.{begin_in, is_stay}
use Rattle.model_bridge.proofs.Boxed.{IsFixedTo}
use Rattle.model_bridge.proofs.assignments.box_of_stays.Given as goal

abbrev pub invariant-loop-v : goal.invariant-loop-v
invariant-loop-v l = IsFixedTo (length (variables l.model)) (λ k. is_stay l.cargo l.kinds l.plans (length l.table) (begin_in l.table) (var l.model k)) l.v l.full
