use Rattle.std.proofs.Common.{◌≡◌, length, drop}
use Rattle.zero_one_rows.specs.declared.program.Row.{Row}
use Rattle.proof_trees.specs.Multipliers.{Multipliers}
use Rattle.bound_checker.specs.Sums.{Carries, CarriesSome}
use Rattle.bound_checker.proofs.Following.{Nears}
use Rattle.bound_checker.proofs.priced_box.follow.Given as goal

abbrev pub invariant-loop-x : goal.invariant-loop-x
invariant-loop-x l = record {
  len : length l.b ≡ length l.fn.b;
  near : Nears l.to (drop l.x-index l.xs) l.b;
  some : CarriesSome l.model l.b l.sums;
  carries : (ms : Multipliers Row) → Carries l.model l.fn.b ms l.fn.sums → Carries l.model l.b ms l.sums;
}
