use Rattle.std.proofs.Common.{◌∙◌, sym}
use Rattle.certificate.proofs.RowsAlike.{same_equal}
use Rattle.certificate.proofs.RowsTold.{equal_same}
use Rattle.node_work.proofs.stages.is_same_row.Goals as goal

pub returns : goal.returns
returns c = λ h. same_equal c.args.a.now c.args.b.now (sym (equal_same c.args.a.now c.args.b.now) ∙ (sym c.eq.ensures ∙ h))
