use Rattle.std.proofs.Common.{◌≡◌, ℕ, ◌<◌, length}
use Rattle.proof_trees.specs.Boxes.{at}
use Rattle.row_matrix.specs.Leaning.{cheaper, reduced_at}
use Rattle.row_matrix.proofs.loose.LooseBox.lean.Given as goal

abbrev pub invariant-loop-v : goal.invariant-loop-v
invariant-loop-v l = record {
  same : l.self.voyage ≡ l.fn.self.voyage;
  len : length l.self.known ≡ length l.b;
  each : (u : ℕ) → u < l.v → at l.self.known u ≡ cheaper (at l.b u) (reduced_at l.reduced u);
}
