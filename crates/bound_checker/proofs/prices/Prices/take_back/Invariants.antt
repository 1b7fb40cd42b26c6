use Rattle.std.proofs.Common.{◌≡◌, ◌≤◌, length, take, All}
use Rattle.zero_one_rows.specs.declared.program.Row.{Row}
use Rattle.proof_trees.specs.Multipliers.{Multipliers}
use Rattle.bound_checker.specs.Sums.{Carries, CarriesSome}
use Rattle.bound_checker.specs.Waits.{Before, IsSound}
use Rattle.bound_checker.proofs.prices.Prices.take_back.Given as goal

abbrev pub invariant-loop-alloc : goal.invariant-loop-alloc
invariant-loop-alloc l = record {
  some : CarriesSome l.model l.b l.self.sums;
  carries : (ms ns : Multipliers Row) → Carries l.model l.b ms l.fn.self.sums → Before ns l.to l.fn.self.changes.items ms → (os : Multipliers Row) × Carries l.model l.b os l.self.sums × Before ns l.to l.self.changes.items os;
  sound : All (IsSound l.model) l.self.changes.items;
  kept : take l.to l.self.changes.items ≡ take l.to l.fn.self.changes.items;
  to : l.to ≤ length l.self.changes.items;
}

abbrev pub decreases-loop-alloc : goal.decreases-loop-alloc
decreases-loop-alloc l = length l.self.changes.items
