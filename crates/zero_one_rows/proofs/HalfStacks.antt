-- A half-cell stands in a stack of the ship.
use Rattle.std.proofs.Common.{◌≡◌, ◌<◌, ℕ, Some, ◌∙◌, ap, sym, length}
use Rattle.std.specs.Prelude.{slice_index_or}
use Rattle.std.proofs.lemmas.Option.{slice_get-get_or, slice_get_within}
use Rattle.stow_data.specs.declared.geometry.Half.{Half}
use Rattle.stow_data.specs.Ship.{Ship, halves}
use Rattle.stow_data.specs.Plans.{no_half}
use Rattle.stow_data.proofs.Listed.{half_from}

pub stack_of_half : (ship : Ship) (h : ℕ) (half : Half) → h < length (halves ship) → half ≡ slice_index_or (halves ship) h no_half → half.stack < length ship.stacks
stack_of_half ship h half l e =
    let from = half_from ship h half (slice_get-get_or (halves ship) h no_half l ∙ ap (λ (z : Half). Some z) (sym e)) in
    slice_get_within ship.stacks half.stack from.stack_at from.is_stack
