use Rattle.std.proofs.Common.{◌≡◌, ℕ, ◌<◌, ◌≤◌, false, Some, None, length}
use Rattle.zero_one_rows.specs.Variables.{variables}
use Rattle.proof_trees.specs.Boxes.{at}
use Rattle.bound_checker.proofs.blank.zero_box.Given as goal

abbrev pub invariant-loop-v : goal.invariant-loop-v
invariant-loop-v l = record {
  len : length l.b ≡ length (variables l.model);
  zero : (x : ℕ) → x < l.v → at l.b x ≡ Some false;
  free : (x : ℕ) → l.v ≤ x → x < length (variables l.model) → at l.b x ≡ None;
}
