use Rattle.std.proofs.Common.{◌≡◌, take}
use Rattle.certificate.proofs.tree.keep_rows.Given as goal

abbrev pub invariant-loop-row : goal.invariant-loop-row
invariant-loop-row l = l.kept ≡ take l.row-index l.rows
