-- All that is promised of a run, whatever its words, its folder and its sink.
use Rattle.std.specs.Prelude.{◌≡◌, ◌≤◌, ℕ, List}
use Rattle.stow_io.specs.Outside.{Outside, HasRisen}
use Rattle.stow_words.specs.Orders.{ordered}
use Rattle.stow_cli.specs.declared.status.Status.{Status}
use Rattle.stow_cli.specs.declared.status.Status.TheVariants.{Fault}
use Rattle.stow_cli.specs.Ends.{IsRun, IsExact, IsReported}
use Rattle.stow_cli.specs.Complete.{IsComplete}
use Rattle.stow_cli.specs.Taken.{HasClapFault, OrdersOwn}

-- a run with these words ended with this status, and left this of what was outside before it
pub record Obeys (words : List (List ℕ)) (s : Status) (before now : Outside) : Type 0 where
  -- it ends as the order of the words says, and so do files and printed text
  pub run : IsRun (ordered words) s before now
  -- no other end is possible, but for what a search finds and want of memory
  pub exact : IsExact (ordered words) s before now
  -- accepted input has an answer, and `make` is never refused
  pub complete : IsComplete (ordered words) s before now
  -- words are refused only where `clap` finds a fault in them, and those of the plain form order their own texts
  pub not_taken : HasClapFault words s
  pub own : OrdersOwn words s
  -- a fault is answered only where a count of faults rose; no other answer hides one of the folder, and none whose report is printed hides one of the sink
  pub fault : s ≡ Fault → HasRisen before now
  pub quiet : (s ≡ Fault → ⊥) → now.folder_faults ≡ before.folder_faults
  pub sink_quiet : IsReported s → now.sink_faults ≡ before.sink_faults
  -- the counts never fall
  pub folder_later : before.folder_faults ≤ now.folder_faults
  pub sink_later : before.sink_faults ≤ now.sink_faults
