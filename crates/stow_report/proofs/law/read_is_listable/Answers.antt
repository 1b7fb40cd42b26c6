use Rattle.stow_report.proofs.Cells.{listable}
use Rattle.stow_report.proofs.law.read_is_listable.Goals as goal

pub returns : goal.returns
returns c = listable
