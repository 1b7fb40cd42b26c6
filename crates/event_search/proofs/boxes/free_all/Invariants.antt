use Rattle.std.proofs.Common.{◌≡◌, ℕ, ◌<◌, None, length}
use Rattle.zero_one_rows.specs.Variables.{variables}
use Rattle.proof_trees.specs.Boxes.{at}
use Rattle.event_search.proofs.boxes.free_all.Given as goal

abbrev pub invariant-loop-v : goal.invariant-loop-v
invariant-loop-v l = record {
  len : length l.b ≡ length (variables l.model);
  free : (j : ℕ) → j < l.v → at l.b j ≡ None;
}
