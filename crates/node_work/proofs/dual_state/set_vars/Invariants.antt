use Rattle.std.proofs.Common.{◌≡◌, ℕ, ◌<◌, length}
use Rattle.proof_trees.specs.Boxes.{at}
use Rattle.node_work.proofs.dual_state.set_vars.Given as goal

abbrev pub invariant-loop-v : goal.invariant-loop-v
invariant-loop-v l = record {
  voyage : l.gauge.voyage ≡ l.fn.gauge.voyage;
  multipliers : l.gauge.multipliers ≡ l.fn.gauge.multipliers;
  whole : length l.gauge.box ≡ length l.fn.gauge.box;
  same : (k : ℕ) → k < l.v → at l.gauge.box k ≡ at l.b k;
}
