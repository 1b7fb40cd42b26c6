-- How the program ends as it is run: with the process's own words, folder and output.
use Rattle.std.specs.Prelude.{◌≡◌, ℕ, List, None, Result, Ok, Err}
use Rattle.stow_io.specs.Outside.{Outside}
use Rattle.stow_io.specs.declared.given.NoWords.{NoWords}
use Rattle.stow_io.specs.declared.given.NoWords.TheVariants as no_words
use Rattle.stow_cli.specs.declared.status.Status.{Status}
use Rattle.stow_cli.specs.declared.status.Status.TheVariants as status
use Rattle.stow_cli.specs.Numbers.{number}
use Rattle.stow_cli.specs.Obeyed.{Obeys}

-- the process's folder and output, which tell nothing of what they hold, before any fault
abbrev pub untold : Outside
untold = record { files = None; text = None; folder_faults = 0; sink_faults = 0 }

-- the status where there are no words
abbrev pub ending_without_words : NoWords → Status
ending_without_words no_words.NoMemory = status.Memory
ending_without_words no_words.NotText = status.Words

-- the status is one of which all holds that the top call promises of a run with these words
pub record IsRunOf (words : List (List ℕ)) (s : Status) : Type 0 where
  pub now : Outside
  pub obeys : Obeys words s untold now

-- how the program ends with these words, or without
abbrev pub EndsWith : Result (List (List ℕ)) NoWords → Status → Type 0
EndsWith (Ok words) s = IsRunOf words s
EndsWith (Err why) s = s ≡ ending_without_words why

-- the program ends with this status, whatever words it is given
pub record IsProgram (s : Status) : Type 0 where
  pub given : Result (List (List ℕ)) NoWords
  pub ends : EndsWith given s

-- the process ends with the number of such a status
pub record IsExit (exit : ℕ) : Type 0 where
  pub ended : Status
  pub is_program : IsProgram ended
  pub exit_is : exit ≡ number ended
