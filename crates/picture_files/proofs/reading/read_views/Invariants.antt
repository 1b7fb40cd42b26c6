use Rattle.std.proofs.Common.{◌≡◌, ◌≤◌, take, map}
use Rattle.std.specs.Prelude.{All}
use Rattle.picture_files.specs.Reading.{IsViewOf}
use Rattle.picture_files.proofs.reading.read_views.Given as goal

abbrev pub invariant-loop-name : goal.invariant-loop-name
invariant-loop-name g l = record {
  named : map (λ v. v.name) l.views ≡ take l.name-index l.names;
  read : All (IsViewOf (g.F.Folder.files l.initial.folder)) l.views;
  stays : g.F.Folder.files l.folder ≡ g.F.Folder.files l.initial.folder;
  later : g.F.Folder.faults l.initial.folder ≤ g.F.Folder.faults l.folder;
}
