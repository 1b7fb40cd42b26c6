-- How a run ends, and what it leaves.
use Rattle.std.specs.Prelude.{◌≡◌, ◌⊎◌, ℕ, codes, List, Option, Some, Result, Ok, Err}
use Rattle.stow_io.specs.Files.{Files, append, AppendsPart}
use Rattle.stow_io.specs.Ends.{Prints, IsCut, fault_read, Finishes}
use Rattle.stow_io.specs.Outside.{Outside, FolderRose, HasRisen}
use Rattle.stow_io.specs.declared.ending.Ended.TheVariants as ended
use Rattle.stow_io.specs.declared.files.Finding.{Finding}
use Rattle.stow_io.specs.declared.files.Finding.TheVariants as finding
use Rattle.stow_io.specs.declared.files.Work.{Work}
use Rattle.stow_words.specs.declared.order.Order.{Order}
use Rattle.stow_words.specs.declared.order.WordsNo.{WordsNo}
use Rattle.stow_words.specs.declared.order.WordsNo.TheVariants.{NotTaken, Workers, Budget, Number, Call, Count, NoMemory}
use Rattle.voyage_files.specs.declared.answer.Answer.{Answer}
use Rattle.voyage_files.specs.declared.answer.Answer.TheVariants as answer
use Rattle.stow_cli.specs.Answers.{IsAnswerTo, IsReadFor}
use Rattle.stow_cli.specs.Law.{Agree}
use Rattle.stow_cli.specs.declared.status.Status.{Status}
use Rattle.stow_cli.specs.declared.status.Status.TheVariants as status

-- the line of a refused check is printed whole, or cut by a fault of the sink
abbrev pub SaysNo : Status → List ℕ → Option (List ℕ) → Option (List ℕ) → Type 0 → Type 0
SaysNo status.No line before now sink_rose = now ≡ append line before
SaysNo status.Fault line before now sink_rose = sink_rose × AppendsPart line before now
SaysNo _ _ _ _ _ = ⊥

-- the files and the report are finished, and the status says what was found, or how that ended
abbrev pub Completes : Work → Status → Outside → Outside → Type 0
Completes work status.Fine before now = (work.finding ≡ finding.Fine) × Finishes work ended.Done before now
Completes work status.Gap before now = (work.finding ≡ finding.Gap) × Finishes work ended.Done before now
Completes work status.NoPlan before now = (work.finding ≡ finding.NoPlan) × Finishes work ended.Done before now
Completes work status.Undecided before now = (work.finding ≡ finding.Undecided) × Finishes work ended.Done before now
Completes work status.Fault before now = Finishes work ended.Fault before now
Completes work status.Memory before now = Finishes work ended.Memory before now
Completes _ _ _ _ = ⊥

-- the files and the report of the answer are finished with the status
pub record IsDone (order : Order) (s : Status) (before now : Outside) : Type 0 where
  pub work : Work
  pub answered : IsAnswerTo order before.files (answer.Work work)
  pub finished : Completes work s before now

-- the answer is a line, of which this is true; nothing is written
pub record IsLine (order : Order) (variant : List ℕ → Answer) (before now : Outside) (Printed : List ℕ → Type 0) : Type 0 where
  pub line : List ℕ
  pub answered : IsAnswerTo order before.files (variant line)
  pub stays : now.files ≡ before.files
  pub printed : Printed line

-- a file that the order reads could not be read; nothing is written
pub record IsUnread (order : Order) (before now : Outside) : Type 0 where
  pub name : List ℕ
  pub is_read : IsReadFor order before.files name
  pub cause : FolderRose before now
  pub stays : now.files ≡ before.files
  pub says : Prints (fault_read name) before now

-- nothing is written, and this line is printed
abbrev pub OnlyPrints : List ℕ → Outside → Outside → Type 0
OnlyPrints line before now = (now.files ≡ before.files) × Prints line before now

-- the status of a report, or of a refused check, which is printed whole; another status may stand although its line was cut
abbrev pub IsReported : Status → Type 0
IsReported status.Fine = Unit {0}
IsReported status.No = Unit {0}
IsReported status.Gap = Unit {0}
IsReported status.NoPlan = Unit {0}
IsReported status.Undecided = Unit {0}
IsReported _ = ⊥

-- the line of words that are refused
abbrev pub words_line : WordsNo → List ℕ
words_line NotTaken = codes "refused words 1\n"
words_line Workers = codes "refused words 2\n"
words_line Budget = codes "refused words 3\n"
words_line Number = codes "refused words 4\n"
words_line Call = codes "refused words 7\n"
words_line Count = codes "refused words 8\n"
words_line NoMemory = codes "memory\n"

-- the call that the words name is past the last departure: the one refusal of words behind inputs
pub record IsCallPast (order : Order) (before now : Outside) : Type 0 where
  pub answered : IsAnswerTo order before.files answer.Call
  pub says : OnlyPrints (words_line Call) before now

-- how a run with this order may end: the status, and what is outside before it and after it
abbrev pub Follows : Order → Status → Outside → Outside → Type 0
Follows order status.Fine before now = IsDone order status.Fine before now
Follows order status.Gap before now = IsDone order status.Gap before now
Follows order status.NoPlan before now = IsDone order status.NoPlan before now
Follows order status.Undecided before now = IsDone order status.Undecided before now
Follows order status.No before now = IsLine order answer.No before now (λ line. now.text ≡ append line before.text)
Follows order status.Input before now = IsLine order answer.Input before now (λ line. Prints line before now)
Follows order status.Large before now = IsLine order answer.Large before now (λ line. Prints line before now)
Follows order status.Words before now = IsCallPast order before now
Follows order status.Fault before now = IsDone order status.Fault before now ⊎ (IsUnread order before now ⊎ IsLine order answer.No before now (λ line. IsCut line before now))
Follows order status.Memory before now = IsDone order status.Memory before now ⊎ OnlyPrints (codes "memory\n") before now

-- the status of words that are refused
abbrev pub words_status : WordsNo → Status
words_status NoMemory = status.Memory
words_status _ = status.Words

-- how a run with words that are refused ends
abbrev pub Refuses : WordsNo → Status → Outside → Outside → Type 0
Refuses why status.Words before now = OnlyPrints (words_line why) before now
Refuses why status.Memory before now = OnlyPrints (codes "memory\n") before now
Refuses _ _ _ _ = ⊥

-- how a run may end whose words order this, or are refused so
abbrev pub IsRun : Result Order WordsNo → Status → Outside → Outside → Type 0
IsRun (Ok order) s before now = Follows order s before now
IsRun (Err why) s before now = Refuses why s before now

-- ## Exactly where

abbrev pub found_status : Finding → Status
found_status finding.Fine = status.Fine
found_status finding.Gap = status.Gap
found_status finding.NoPlan = status.NoPlan
found_status finding.Undecided = status.Undecided

abbrev pub status_of : Answer → Status
status_of (answer.Work work) = found_status work.finding
status_of (answer.No line) = status.No
status_of (answer.Input line) = status.Input
status_of (answer.Large line) = status.Large
status_of answer.Call = status.Words

-- the status of an answer to the order that agrees with this one
pub record EndsAlike (order : Order) (files : Option Files) (s : Status) (a : Answer) : Type 0 where
  pub answer : Answer
  pub status_is : s ≡ status_of answer
  pub agrees : Agree order files answer a

-- Words that are refused end with the status of words. Where the folder tells its files and neither count rose, an order ends with the status of its one answer; the order of a plan with that of an answer to which a search can come, where the one given is such. Either may end with want of memory
abbrev pub IsExact : Result Order WordsNo → Status → Outside → Outside → Type 0
IsExact (Err why) s before now = (s ≡ status.Words) ⊎ (s ≡ status.Memory)
IsExact (Ok order) s before now = (files : Files) (a : Answer) → before.files ≡ Some files → (HasRisen before now → ⊥) → IsAnswerTo order before.files a → EndsAlike order before.files s a ⊎ (s ≡ status.Memory)
