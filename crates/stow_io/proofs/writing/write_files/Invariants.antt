use Rattle.std.proofs.Common.{◌≡◌, take}
use Rattle.stow_io.specs.Writing.{with_files}
use Rattle.stow_io.proofs.writing.write_files.Given as goal

abbrev pub invariant-loop-index : goal.invariant-loop-index
invariant-loop-index g l = record {
  files : g.F.Folder.files l.folder ≡ with_files (take l.index l.files) (g.F.Folder.files l.initial.folder);
  quiet : g.F.Folder.faults l.folder ≡ g.F.Folder.faults l.initial.folder;
}
