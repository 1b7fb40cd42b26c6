-- The bay at which a crane stands for a move.
use Rattle.std.specs.Prelude.{ℕ, ◌++◌, min, List, Option, Some, None, fold, slice_get, slice_index_or}
use Rattle.stow_data.specs.declared.geometry.Cover.{Cover}
use Rattle.stow_data.specs.Ship.{Ship}
use Rattle.stow_data.specs.Plans.{no_stack}
use Rattle.voyage_meaning.specs.declared.moves.Move.{Move}
use Rattle.voyage_meaning.specs.declared.moves.Move.TheVariants.{OffCover, OnCover, Lift, Put}
use Rattle.crane_lists.specs.Tasks.{stack_of}

-- the bay of a stack by number
abbrev pub bay_of_stack : Ship → ℕ → ℕ
bay_of_stack ship s = (slice_index_or ship.stacks s no_stack).bay

-- the lesser of the least bay so far, if there is one, and that of a further stack
abbrev pub lesser_bay : Ship → Option ℕ → ℕ → Option ℕ
lesser_bay ship None s = Some (bay_of_stack ship s)
lesser_bay ship (Some b) s = Some (min b (bay_of_stack ship s))

-- the least bay of some stacks, or 0 without any
abbrev pub or_zero : Option ℕ → ℕ
or_zero None = 0
or_zero (Some b) = b

abbrev pub least_bay : Ship → List ℕ → ℕ
least_bay ship stacks = or_zero (fold (lesser_bay ship) None stacks)

-- the least bay of the stacks of a cover, or 0 without any
abbrev pub cover_bay : Ship → Option Cover → ℕ
cover_bay ship None = 0
cover_bay ship (Some cover) = least_bay ship (cover.under ++ cover.on)

-- the bay of a move is that of its stack, or of its cover
abbrev pub bay_of_move : Ship → Move → ℕ
bay_of_move ship (Lift p) = bay_of_stack ship (stack_of ship p)
bay_of_move ship (Put c p) = bay_of_stack ship (stack_of ship p)
bay_of_move ship (OffCover k) = cover_bay ship (slice_get ship.covers k)
bay_of_move ship (OnCover k) = cover_bay ship (slice_get ship.covers k)
