use Rattle.std.proofs.Common.{◌≡◌, length, take}
use Rattle.zero_one_rows.specs.declared.program.Row.{Row}
use Rattle.proof_trees.specs.Multipliers.{Multipliers}
use Rattle.partial_plan.specs.Fixing.{freed}
use Rattle.bound_checker.specs.Sums.{Carries, CarriesSome}
use Rattle.bound_checker.proofs.priced_box.free_all.Given as goal

abbrev pub invariant-loop-x : goal.invariant-loop-x
invariant-loop-x l = record {
  len : length l.b ≡ length l.fn.b;
  box : l.b ≡ freed l.fn.b (take l.x-index l.xs);
  some : CarriesSome l.model l.b l.sums;
  carries : (ms : Multipliers Row) → Carries l.model l.fn.b ms l.fn.sums → Carries l.model l.b ms l.sums;
}
