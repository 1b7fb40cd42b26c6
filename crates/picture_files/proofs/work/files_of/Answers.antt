use Rattle.picture_files.proofs.PicturesAndPage.{files_more}
use Rattle.picture_files.proofs.work.files_of.Goals as goal

pub loop-i-preserved : goal.loop-i-preserved
loop-i-preserved c = rw c.in_ok-push.ensures (files_more c.args.ports.now c.args.views.now c.loop-i.files _ c.loop-i.i c.in_ok-file_at.ensures c.loop-i.invariant)
