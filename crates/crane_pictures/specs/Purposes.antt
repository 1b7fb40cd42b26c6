-- What the moves of a crane list are for.
use Rattle.std.specs.Prelude.{ℕ, Bool, true, false, List, if◌then◌else◌}
use Rattle.std.specs.List.{list_any}
use Rattle.baplie.specs.Segments.{same_text}
use Rattle.stow_report.specs.declared.crane_lists.CraneMove.{CraneMove}
use Rattle.stow_report.specs.declared.crane_lists.CraneMove.TheVariants.{Lift, Put, Off, On}
use Rattle.crane_pictures.specs.declared.purposes.Purpose.{Purpose}
use Rattle.crane_pictures.specs.declared.purposes.Purpose.TheVariants.{Discharge, Load, MoveAside, PutBack, CoverOff, CoverOn}

-- a move that lifts the container of this number, or puts it
abbrev pub is_lift_of : List ℕ → CraneMove → Bool
is_lift_of id (Lift cell lifted) = same_text lifted id
is_lift_of id _ = false

abbrev pub is_put_of : List ℕ → CraneMove → Bool
is_put_of id (Put cell put) = same_text put id
is_put_of id _ = false

-- some move of the rounds does
abbrev pub has_lift : List (List CraneMove) → List ℕ → Bool
has_lift rounds id = list_any (λ moves. list_any (is_lift_of id) moves) rounds

abbrev pub has_put : List (List CraneMove) → List ℕ → Bool
has_put rounds id = list_any (λ moves. list_any (is_put_of id) moves) rounds

-- a container that is lifted stays aboard where the rounds put it again, and one that is put was aboard where they lift it
abbrev pub purpose : List (List CraneMove) → CraneMove → Purpose
purpose rounds (Lift cell id) = if has_put rounds id then MoveAside else Discharge
purpose rounds (Put cell id) = if has_lift rounds id then PutBack else Load
purpose rounds (Off cover) = CoverOff
purpose rounds (On cover) = CoverOn

abbrev pub is_same : Purpose → Purpose → Bool
is_same Discharge Discharge = true
is_same Load Load = true
is_same MoveAside MoveAside = true
is_same PutBack PutBack = true
is_same CoverOff CoverOff = true
is_same CoverOn CoverOn = true
is_same _ _ = false
