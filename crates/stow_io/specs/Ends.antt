-- How the writes and the printing end, and what they leave.
use Rattle.std.specs.Prelude.{◌≡◌, ◌⊎◌, ℕ, codes, List, ◌++◌, slice_get, Option, Some, Result, Ok, Err}
use Rattle.stow_io.specs.Files.{append, AppendsPart}
use Rattle.stow_io.specs.declared.outside.FolderNo.TheVariants.{Failed, NoMemory}
use Rattle.stow_io.specs.declared.ending.Ended.{Ended}
use Rattle.stow_io.specs.declared.ending.Ended.TheVariants as ended
use Rattle.stow_io.specs.declared.files.NamedFile.{NamedFile}
use Rattle.stow_io.specs.declared.files.Work.{Work}
use Rattle.stow_io.specs.declared.given.NoWords.{NoWords}
use Rattle.stow_io.specs.declared.given.NoWords.TheVariants as no_words
use Rattle.stow_io.specs.declared.writing.WriteStop.{WriteStop}
use Rattle.stow_io.specs.Outside.{Outside, FolderRose, SinkRose}
use Rattle.stow_io.specs.Writing.{Written}

-- the line is printed, or a part of it where the sink's count rose
abbrev pub Says : List ℕ → Option (List ℕ) → Option (List ℕ) → Type 0 → Type 0
Says line before now sink_rose = (now ≡ append line before) ⊎ (sink_rose × AppendsPart line before now)

abbrev pub Prints : List ℕ → Outside → Outside → Type 0
Prints line before now = Says line before.text now.text (SinkRose before now)

-- the report or the line is cut by a fault of the sink
abbrev pub IsCut : List ℕ → Outside → Outside → Type 0
IsCut text before now = SinkRose before now × AppendsPart text before.text now.text

abbrev pub fault_write : List ℕ → List ℕ
fault_write name = codes "fault write " ++ (name ++ codes "\n")

abbrev pub fault_read : List ℕ → List ℕ
fault_read name = codes "fault read " ++ (name ++ codes "\n")

-- a fact of the name of the nth file
abbrev pub OfName : List NamedFile → ℕ → (List ℕ → Type 0) → Type 0
OfName list n P = (f : NamedFile) × (slice_get list n ≡ Some f) × P f.name

-- the end and what is printed, where the writes ended so
abbrev pub EndsWith : Work → Result (Unit {0}) WriteStop → Ended → Outside → Outside → Type 0
EndsWith work (Ok _) ended.Done before now = now.text ≡ append work.report before.text
EndsWith work (Ok _) ended.Fault before now = IsCut work.report before now
EndsWith work (Err stop) ended.Fault before now = (stop.no ≡ Failed) × FolderRose before now × OfName work.files stop.index (λ name. Prints (fault_write name) before now)
EndsWith work (Err stop) ended.Memory before now = (stop.no ≡ NoMemory) × Prints (codes "memory\n") before now
EndsWith _ _ _ _ _ = ⊥

-- the writes ended at some place: the files are written up to there, and the end and the printed text are as that says
pub record Finishes (work : Work) (ended : Ended) (before now : Outside) : Type 0 where
  pub end : Result (Unit {0}) WriteStop
  pub written : Written work.files end before.files now.files
  pub ends : EndsWith work end ended before now

-- where there are no words, the line that says why is printed, or a part of it
abbrev pub SaysWhy : {T : Type 0} → Result T NoWords → Option (List ℕ) → Option (List ℕ) → Type 0 → Type 0
SaysWhy (Ok words) before now sink_rose = now ≡ before
SaysWhy (Err no_words.NoMemory) before now sink_rose = Says (codes "memory\n") before now sink_rose
SaysWhy (Err no_words.NotText) before now sink_rose = Says (codes "refused words 1\n") before now sink_rose
