-- The names that the code holds by reference.
use Rattle.std.specs.Prelude.{◌≡◌, ℕ, List, Result, Ok, Err, option_map}
use Rattle.voyage_files.specs.Names.{Names, names_from}
use Rattle.voyage_files.specs.declared.inputs.Inputs.{Inputs}
use Rattle.voyage_files.specs.declared.reading.ReadStop.{ReadStop}
use Rattle.voyage_files.specs.declared.reading.ReadStop.TheVariants.{Failed, FailedOwn, NoMemory}

abbrev pub names_of : Inputs → Names
names_of inputs = names_from inputs.profile.now inputs.bookings.now inputs.base.now (option_map (λ name. name.now) inputs.arrival)

-- a failed read has its cause, and names its file
abbrev pub IsStop : Type 0 → (List ℕ → Type 0) → ReadStop → Type 0
IsStop cause names (Failed name) = cause × names name.now
IsStop cause names (FailedOwn name) = cause × names name
IsStop cause names NoMemory = Unit {0}

-- the count of faults stays where no read failed
abbrev pub IsQuiet : {T : Type 0} → Result T ReadStop → ℕ → ℕ → Type 0
IsQuiet (Ok answer) before now = now ≡ before
IsQuiet (Err (Failed name)) before now = Unit {0}
IsQuiet (Err (FailedOwn name)) before now = Unit {0}
IsQuiet (Err NoMemory) before now = now ≡ before
