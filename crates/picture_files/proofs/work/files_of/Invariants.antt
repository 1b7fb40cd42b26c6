use Rattle.std.proofs.Common.{◌≡◌}
use Rattle.bay_views.specs.Upto.{upto}
use Rattle.picture_files.specs.Work.{file_at}
use Rattle.picture_files.proofs.work.files_of.Given as goal

abbrev pub invariant-loop-i : goal.invariant-loop-i
invariant-loop-i l = l.files ≡ upto (file_at l.ports l.views) l.i
