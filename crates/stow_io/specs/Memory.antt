-- What the doubles in memory hold.
use Rattle.std.specs.Prelude.{◌⊎◌, ℕ, ◌+◌, ◌-◌, ◌^◌, ◌<◌, min, length, Contains, IsNone, IsSomeAnd, List, String}
use Rattle.std.specs.BTreeMap.{BTreeMap, get_by_text}
use Rattle.std.specs.declared.alloc.Global.{Global}
use Rattle.stow_io.specs.Files.{Files}

abbrev pub Stored : Type 0
Stored = BTreeMap (String Global) (List ℕ)

abbrev pub held : Stored → Files
held stored = λ n. get_by_text stored n

-- the calls so far, the numbers of those that are to fail, and the count of faults
pub record Calls : Type 0 where
  pub failing : List ℕ
  pub made : ℕ
  pub faults : ℕ

-- the number of the next call; the last value of a u32 stands for all later ones
abbrev pub number_of_next : Calls → ℕ
number_of_next c = min (c.made + 1) (2 ^ 32 - 1)

-- the next call is to fail
abbrev pub NextFails : Calls → Type 0
NextFails c = Contains c.failing (number_of_next c)

-- a call more, which was no fault
abbrev pub after_call : Calls → Calls
after_call c = record { failing = c.failing; made = number_of_next c; faults = c.faults }

-- a call more, which was a fault
abbrev pub after_fault : Calls → Calls
after_fault c = record { failing = c.failing; made = number_of_next c; faults = min (c.faults + 1) (2 ^ 64 - 1) }

-- no bytes stand under the name, or more than a read gives
abbrev pub IsUnreadable : Files → List ℕ → Type 0
IsUnreadable files name = IsNone (files name) ⊎ IsSomeAnd (files name) (λ bytes. 536870912 < length bytes)

-- the state of a sink in memory
pub record MemText : Type 0 where
  pub text : List ℕ
  pub room : ℕ
  pub calls : Calls
