use Rattle.std.proofs.Common.{◌≡◌, drop, map, Some}
use Rattle.proof_trees.specs.Multipliers.{raised_all}
use Rattle.certificate.specs.Entries.{same_row, raise_of}
use Rattle.node_work.proofs.dual_state.reraise.Given as goal

abbrev pub invariant-loop-raise : goal.invariant-loop-raise
invariant-loop-raise l = record {
  voyage : l.gauge.voyage ≡ l.fn.gauge.voyage;
  known : l.gauge.box ≡ l.fn.gauge.box;
  rest : raised_all same_row (Some l.gauge.multipliers) (map raise_of (drop l.raise-index l.raises)) ≡ raised_all same_row (Some l.fn.gauge.multipliers) (map raise_of l.raises);
}
