use Rattle.std.proofs.Common.{◌≡◌, ◌≤◌, ◌*◌, ◌^◌, take}
use Rattle.std.specs.Int.RustNames.{unsigned_abs}
use Rattle.zero_one_rows.specs.Rows.{whole}
use Rattle.proof_trees.specs.Multipliers.{dot}
use Rattle.dual_bound.proofs.plain_value.weighed_right.Given as goal

abbrev pub invariant-loop-entry : goal.invariant-loop-entry
invariant-loop-entry l = record {
  value : l.total ≡ dot (take l.entry-index l.m) (whole l.model).rhs;
  size : unsigned_abs l.total ≤ l.entry-index * 2 ^ 77;
}
