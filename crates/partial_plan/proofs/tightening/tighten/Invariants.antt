use Rattle.std.proofs.Common.{◌≡◌, length}
use Rattle.zero_one_rows.specs.Variables.{variables}
use Rattle.partial_plan.specs.Fixing.{free_in}
use Rattle.partial_plan.specs.Tightening.{Tightens}
use Rattle.partial_plan.proofs.Calming.{Noted}
use Rattle.partial_plan.proofs.tightening.tighten.Given as goal

abbrev pub invariant-sweeps : goal.invariant-sweeps
invariant-sweeps l = record {
  len : length l.b ≡ length (variables l.model);
  steps : Tightens l.model l.fn.b l.b l.fn.steps l.steps;
  noted : Noted l.fn.b l.b l.fn.undo l.undo;
}

abbrev pub decreases-sweeps : goal.decreases-sweeps
decreases-sweeps l = free_in l.b
