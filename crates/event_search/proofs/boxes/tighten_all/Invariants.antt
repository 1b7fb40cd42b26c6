use Rattle.std.proofs.Common.{◌≡◌, length, drop}
use Rattle.zero_one_rows.specs.Variables.{variables}
use Rattle.zero_one_rows.specs.Rows.{whole}
use Rattle.proof_trees.specs.Boxes.{tightened}
use Rattle.event_search.proofs.boxes.tighten_all.Given as goal

abbrev pub invariant-loop-row : goal.invariant-loop-row
invariant-loop-row l = record {
  len : length l.b ≡ length (variables l.model);
  rest : tightened (whole l.model) l.b (drop l.row-index l.rows) ≡ tightened (whole l.model) l.fn.b l.rows;
}
