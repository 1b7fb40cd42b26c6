use Rattle.stow_report.proofs.Cells.{listable}
use Rattle.picture_files.proofs.reading.told_by.Goals as goal

pub returns-in-Ok : goal.returns-in-Ok
returns-in-Ok c = record {
  is_message = c.in-Ok.ensures.read;
  listable = listable c.args.bytes.now c.in-Ok.ensures.read.segments c.in-Ok.message c.requires c.in-Ok.ensures.read.interchange c.in-Ok.ensures.read.is_message;
}
