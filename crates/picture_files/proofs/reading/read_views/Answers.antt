use Rattle.std.proofs.Common.{◌∙◌}
use Rattle.std.proofs.Math.Nat.{le_trans}
use Rattle.std.proofs.lemmas.List.Elements.{All-push}
use Rattle.picture_files.specs.Reading.{IsViewOf}
use Rattle.picture_files.proofs.ReadViews.{names_more}
use Rattle.picture_files.proofs.reading.read_views.Goals as goal

pub loop-name-preserved : goal.loop-name-preserved
loop-name-preserved g c = record {
  named = rw c.in-Ok.ensures (names_more c.loop-name.views c.in_ok-view.view c.args.names.now c.loop-name.name-index c.name-item.result c.loop-name-test.true c.name-item.is (c.in_ok-view.ensures.named ∙ c.as_str.ensures) c.loop-name.invariant.named);
  read = rw c.in-Ok.ensures (All-push (IsViewOf (g.F.Folder.files c.args.folder.now)) c.loop-name.views c.in_ok-view.view c.loop-name.invariant.read (rw (← c.loop-name.invariant.stays) c.in_ok-view.ensures.gives));
  stays = c.in_ok-view.ensures.stays ∙ c.loop-name.invariant.stays;
  later = le_trans c.loop-name.invariant.later c.in_ok-view.ensures.later;
}
