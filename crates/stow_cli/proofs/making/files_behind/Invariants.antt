use Rattle.std.proofs.Common.{◌≡◌, ◌++◌, ◌∷◌}
use Rattle.std.specs.Vec.Iter.{into_iter_items}
use Rattle.stow_cli.proofs.making.files_behind.Given as goal

abbrev pub invariant-loop-file : goal.invariant-loop-file
invariant-loop-file l = l.files ++ into_iter_items l.file-iterator ≡ l.fn.made.profile ∷ l.fn.made.bookings ∷ l.fn.own
