use Rattle.std.proofs.Common.{◌≡◌, ◌+◌, ◌*◌, ◌≤◌, ◌^◌, pos, ◌+ℤ◌, ◌-ℤ◌, ◌*ℤ◌}
use Rattle.std.specs.Int.RustNames.{unsigned_abs}
use Rattle.zero_one_rows.specs.declared.program.Row.{Row}
use Rattle.zero_one_rows.specs.Rows.{whole}
use Rattle.proof_trees.specs.Program.{sum_to}
use Rattle.proof_trees.specs.Boxes.{at}
use Rattle.proof_trees.specs.Multipliers.{Multipliers, least, weighed, weighed_rhs}
use Rattle.event_search.specs.Counting.{Tallies}
use Rattle.event_search.proofs.worth.dual_value.Given as goal

abbrev pub invariant-loop-v : goal.invariant-loop-v
invariant-loop-v l = record {
  value : (ns : Multipliers Row) → Tallies l.model ns l.tally
      → l.total ≡ weighed_rhs (whole l.model) ns +ℤ sum_to l.v (λ v. least (at l.b v) (pos 16 *ℤ (whole l.model).cost v -ℤ weighed (whole l.model) ns v));
  size : unsigned_abs l.total ≤ 2 ^ 98 + l.v * 2 ^ 99;
}
