use Rattle.std.proofs.Common.{◌≡◌, ◌≤◌, ◌^◌, length}
use Rattle.std.specs.Prelude.{All}
use Rattle.stow_cli.specs.Checks.{AreTexts}
use Rattle.stow_cli.proofs.departures.read_departures.Given as goal

abbrev pub invariant-loop-index : goal.invariant-loop-index
invariant-loop-index g l = record {
  files : g.F.Folder.files l.folder ≡ g.F.Folder.files l.initial.folder;
  quiet : g.F.Folder.faults l.folder ≡ g.F.Folder.faults l.initial.folder;
  are : AreTexts l.base (g.F.Folder.files l.initial.folder) 1 l.texts;
  counted : length l.texts ≡ l.index;
  short : All (λ t. length t ≤ 2 ^ 29) l.texts;
}
