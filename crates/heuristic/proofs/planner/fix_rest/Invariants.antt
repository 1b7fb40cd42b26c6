use Rattle.std.proofs.Common.{◌≡◌, length}
use Rattle.zero_one_rows.specs.Variables.{variables}
use Rattle.heuristic.proofs.planner.fix_rest.Given as goal

abbrev pub invariant-loop-x : goal.invariant-loop-x
invariant-loop-x l = length l.b ≡ length (variables l.model)
