use Rattle.std.proofs.Common.{◌≡◌, length}
use Rattle.zero_one_rows.specs.Variables.{variables}
use Rattle.partial_plan.specs.Packing.{AreOnes}
use Rattle.partial_plan.specs.Tightening.{Tightens}
use Rattle.partial_plan.proofs.Calming.{Noted, CalmBelow}
use Rattle.partial_plan.proofs.tightening.sweep.Given as goal

abbrev pub invariant-loop-k : goal.invariant-loop-k
invariant-loop-k l = record {
  len : length l.b ≡ length (variables l.model);
  steps : Tightens l.model l.fn.b l.b l.fn.steps l.steps;
  noted : Noted l.fn.b l.b l.fn.undo l.undo;
  ones : AreOnes l.b l.ones;
  calm : length l.steps ≡ length l.fn.steps → CalmBelow l.model l.b l.k;
}
