-- Why a move of a crane is refused, and which of several causes is named.
use Rattle.std.specs.Prelude.{◌≡◌, ℕ, ◌+◌, ◌<◌, ◌⊎◌, Bool, true, false, List, Option, Some, None, MatchOption, slice_get}
use Rattle.stow_data.specs.declared.geometry.Half.{Half}
use Rattle.stow_data.specs.declared.geometry.Length.{Length}
use Rattle.stow_data.specs.declared.geometry.Place.{Place}
use Rattle.stow_data.specs.declared.cargoes.Container.{Container}
use Rattle.stow_data.specs.Ship.{Ship, places, TakesSide, LiesUnder, StandsOn, FitsAt}
use Rattle.stow_data.specs.Shipment.{Cargo}
use Rattle.stow_data.specs.Plans.{Plan}
use Rattle.stowage_rules.specs.Plan.{Fills}
use Rattle.stowage_rules.specs.Places.{IsTaken}
use Rattle.stowage_rules.specs.Faults.{OfHalf, IsLeast}
use Rattle.voyage_meaning.specs.declared.moves.Move.{Move}
use Rattle.voyage_meaning.specs.declared.moves.Move.TheVariants.{OffCover, OnCover, Lift, Put}
use Rattle.voyage_meaning.specs.declared.refusals.MoveFault.{MoveFault}
use Rattle.voyage_meaning.specs.declared.refusals.MoveFault.TheVariants.{NotThere, NotOnQuay, DoesNotFit, CoverOver, CoverMissing, Blocked, Taken, Unsupported, Standing, AlreadySo}
use Rattle.voyage_meaning.specs.Moves.{State, Bears}

-- what holds of the place of a number; of the container of a number
pub record OfPlace (ship : Ship) (P : Place → Type 0) (p : ℕ) : Type 0 where
  pub place : Place
  pub is_place : slice_get (places ship) p ≡ Some place
  pub holds : P place

pub record OfContainer (cargo : Cargo) (P : Container → Type 0) (c : ℕ) : Type 0 where
  pub container : Container
  pub is_container : slice_get cargo.containers c ≡ Some container
  pub holds : P container

-- a cover over the stack is on; a cover under it is off
pub record IsShutOver (ship : Ship) (off : List Bool) (stack k : ℕ) : Type 0 where
  pub under : LiesUnder ship stack k
  pub is_on : slice_get off k ≡ Some false

pub record IsOpenUnder (ship : Ship) (off : List Bool) (stack k : ℕ) : Type 0 where
  pub on : StandsOn ship stack k
  pub is_off : slice_get off k ≡ Some true

-- the half-cell is in the place's columns, in this tier
pub record IsInTier (place : Place) (tier : ℕ) (half : Half) : Type 0 where
  pub same_stack : half.stack ≡ place.stack
  pub same_tier : half.tier ≡ tier
  pub side : TakesSide place.span half.aft

-- such a half-cell that is filled
pub record IsFilledIn (ship : Ship) (plan : Plan) (place : Place) (tier : ℕ) (half : Half) : Type 0 where
  pub is_in : IsInTier place tier half
  pub taken : IsTaken ship plan half

-- what fills the half-cell bears a container of this length
abbrev pub IsBearing : Ship → Cargo → Plan → Length → Half → Type 0
IsBearing ship cargo plan long h = (d : ℕ) × Fills ship plan h d × Bears cargo long d

-- such a half-cell, directly below the place, that doesn't bear a container of this length
pub record IsWeakBelow (ship : Ship) (cargo : Cargo) (plan : Plan) (place : Place) (long : Length) (half : Half) : Type 0 where
  pub tier : ℕ
  pub is_above : place.tier ≡ tier + 1
  pub is_in : IsInTier place tier half
  pub fails : IsBearing ship cargo plan long half → ⊥

-- a filled half-cell of a stack that stands on the cover
pub record IsOnCover (ship : Ship) (plan : Plan) (k : ℕ) (half : Half) : Type 0 where
  pub on : StandsOn ship half.stack k
  pub taken : IsTaken ship plan half

-- the move has this fault
abbrev pub IsMoveFault : Ship → Cargo → State → Move → MoveFault → Type 0
IsMoveFault ship cargo s (Lift p) NotThere = slice_get s.plan p ≡ Some None
IsMoveFault ship cargo s (Lift p) (CoverOver k) = OfPlace ship (λ place. IsShutOver ship s.off place.stack k) p
IsMoveFault ship cargo s (Lift p) (Blocked h) = OfPlace ship (λ place. OfHalf ship (IsFilledIn ship s.plan place (place.tier + 1)) h) p
IsMoveFault ship cargo s (Put c p) NotOnQuay = slice_get s.quay c ≡ Some false
IsMoveFault ship cargo s (Put c p) DoesNotFit = OfContainer cargo (λ container. FitsAt ship p container.long container.reefer → ⊥) c
IsMoveFault ship cargo s (Put c p) (CoverOver k) = OfPlace ship (λ place. IsShutOver ship s.off place.stack k) p
IsMoveFault ship cargo s (Put c p) (CoverMissing k) = OfPlace ship (λ place. IsOpenUnder ship s.off place.stack k) p
IsMoveFault ship cargo s (Put c p) (Taken h) = OfPlace ship (λ place. OfHalf ship (IsFilledIn ship s.plan place place.tier) h) p
IsMoveFault ship cargo s (Put c p) (Unsupported h) = OfContainer cargo (λ container. OfPlace ship (λ place. OfHalf ship (IsWeakBelow ship cargo s.plan place container.long) h) p) c
IsMoveFault ship cargo s (OffCover k) (Standing h) = OfHalf ship (IsOnCover ship s.plan k) h
IsMoveFault ship cargo s (OffCover k) (AlreadySo n) = (n ≡ k) × (slice_get s.off k ≡ Some true)
IsMoveFault ship cargo s (OnCover k) (AlreadySo n) = (n ≡ k) × (slice_get s.off k ≡ Some false)
IsMoveFault ship cargo s m fault = ⊥

-- the number of a fault, and its field
abbrev pub rank : MoveFault → ℕ × ℕ
rank NotThere = (1, 0)
rank NotOnQuay = (2, 0)
rank DoesNotFit = (3, 0)
rank (CoverOver k) = (4, k)
rank (CoverMissing k) = (5, k)
rank (Blocked h) = (6, h)
rank (Taken h) = (7, h)
rank (Unsupported h) = (8, h)
rank (Standing h) = (9, h)
rank (AlreadySo k) = (10, k)

-- by the first number that differs
abbrev pub IsLess : ℕ × ℕ → ℕ × ℕ → Type 0
IsLess (a, b) (x, y) = (a < x) ⊎ ((a ≡ x) × (b < y))

-- the move has this fault, and none before it by the number of the fault, then by its field
pub record IsFirstMoveFault (ship : Ship) (cargo : Cargo) (s : State) (m : Move) (fault : MoveFault) : Type 0 where
  pub is_fault : IsMoveFault ship cargo s m fault
  pub none_before : (other : MoveFault) → IsLess (rank other) (rank fault) → IsMoveFault ship cargo s m other → ⊥

-- the first fault of a move, or none where it has none
abbrev pub Judges : Ship → Cargo → State → Move → Option MoveFault → Type 0
Judges ship cargo s m answer = MatchOption answer ((f : MoveFault) → IsMoveFault ship cargo s m f → ⊥) (λ f. IsFirstMoveFault ship cargo s m f)

-- the least number of which something holds, or none where it holds of none
abbrev pub Finds : (ℕ → Type 0) → Option ℕ → Type 0
Finds P found = MatchOption found ((n : ℕ) → P n → ⊥) (λ n. IsLeast P n)
