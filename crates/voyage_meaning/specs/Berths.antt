-- A ship at the berth of a call: what its state is, and what is unfinished there.
use Rattle.std.specs.Prelude.{◌≡◌, ℕ, ◌<◌, Bool, true, List, Some, length, slice_get}
use Rattle.stow_data.specs.declared.geometry.Half.{Half}
use Rattle.stow_data.specs.Ship.{Ship, places}
use Rattle.stow_data.specs.Shipment.{Cargo}
use Rattle.stowage_rules.specs.Plan.{Fills}
use Rattle.stowage_rules.specs.Faults.{IsLeast}
use Rattle.voyage_meaning.specs.declared.moves.Move.{Move}
use Rattle.voyage_meaning.specs.declared.moves.Move.TheVariants.{OffCover, OnCover, Lift, Put}
use Rattle.voyage_meaning.specs.declared.berth.Unfinished.{Unfinished}
use Rattle.voyage_meaning.specs.declared.berth.Unfinished.TheVariants.{Quay, Off}
use Rattle.voyage_meaning.specs.Moves.{State}

-- what contracts see of a berth: the call, and the state there
pub record Berth : Type 0 where
  pub call : ℕ
  pub state : State

-- the lists of a state have an entry for each place, container and cover, and no half-cell is in two filled places
pub record BelongsTo (ship : Ship) (cargo : Cargo) (s : State) : Type 0 where
  pub each_place : length s.plan ≡ length (places ship)
  pub each_container : length s.quay ≡ length cargo.containers
  pub each_cover : length s.off ≡ length ship.covers
  pub apart : (h : Half) (c d : ℕ) (x : Fills ship s.plan h c) (y : Fills ship s.plan h d) → x.number ≡ y.number

-- the numbers of a move name entries of the state's lists
abbrev pub IsInRange : State → Move → Type 0
IsInRange s (Lift p) = p < length s.plan
IsInRange s (Put c p) = (p < length s.plan) × (c < length s.quay)
IsInRange s (OffCover k) = k < length s.off
IsInRange s (OnCover k) = k < length s.off

-- none of the truth values is true
abbrev pub NoneSet : List Bool → Type 0
NoneSet flags = (n : ℕ) → slice_get flags n ≡ Some true → ⊥

-- this number is the least whose truth value is true
abbrev pub IsFirstSet : List Bool → ℕ → Type 0
IsFirstSet flags n = IsLeast (λ k. slice_get flags k ≡ Some true) n

-- the quay is empty and all covers are on
abbrev pub IsFinished : State → Type 0
IsFinished s = NoneSet s.quay × NoneSet s.off

-- the least container on the quay, or, where the quay is empty, the least cover that is off
abbrev pub IsFirstUnfinished : State → Unfinished → Type 0
IsFirstUnfinished s (Quay c) = IsFirstSet s.quay c
IsFirstUnfinished s (Off k) = NoneSet s.quay × IsFirstSet s.off k
