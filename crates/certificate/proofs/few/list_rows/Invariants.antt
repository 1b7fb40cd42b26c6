use Rattle.std.proofs.Common.{◌≡◌, take}
use Rattle.certificate.proofs.few.list_rows.Given as goal

abbrev pub invariant-loop-row : goal.invariant-loop-row
invariant-loop-row l = l.rows ≡ take l.row-index l.kept
