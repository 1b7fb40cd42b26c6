use Rattle.std.proofs.Common.{◌≡◌, ◌-◌, length, map, take, Some}
use Rattle.zero_one_rows.specs.declared.program.Row.{Row}
use Rattle.proof_trees.specs.Multipliers.{Multipliers, raised_all}
use Rattle.certificate.specs.Entries.{same_row, raise_of}
use Rattle.node_work.proofs.Lowering.{Leads}
use Rattle.node_work.proofs.stages.lower_all.Given as goal

abbrev pub invariant-loop-done : goal.invariant-loop-done
invariant-loop-done l = record {
  voyage : l.gauge.voyage ≡ l.fn.gauge.voyage;
  known : l.gauge.box ≡ l.fn.gauge.box;
  lowered : (ms : Multipliers Row) → raised_all same_row (Some ms) (map raise_of l.raises) ≡ Some l.fn.gauge.multipliers → Leads ms (take (length l.raises - l.done) l.raises) l.gauge.multipliers;
}
