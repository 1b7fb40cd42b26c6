use Rattle.std.proofs.Common.{◌≡◌, take}
use Rattle.std.specs.Prelude.{flat_map}
use Rattle.picture_files.specs.Work.{line_of}
use Rattle.picture_files.proofs.work.report_of.Given as goal

abbrev pub invariant-loop-file : goal.invariant-loop-file
invariant-loop-file l = l.out ≡ flat_map line_of (take l.file-index l.files)
