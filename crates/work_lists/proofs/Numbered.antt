-- The number of a place.
use Rattle.std.proofs.Common.{◌≡◌, ◌<◌, ◌≤◌, ℕ, List, Option, Some, None, length, sym, ap, ◌∙◌}
use Rattle.std.specs.Prelude.{slice_get, slice_index_or}
use Rattle.std.proofs.lemmas.Option.{get_or_from_slice_get}
use Rattle.stow_data.specs.declared.geometry.Place.{Place}
use Rattle.stow_data.specs.declared.geometry.Stack.{Stack}
use Rattle.stow_data.specs.Ship.{HasNumber, Ship, number_in, places}
use Rattle.stow_data.specs.Plans.{no_stack}
use Rattle.work_lists.specs.Shown.{cell_of, number_of}

pub numbered : (ship : Ship) (p : ℕ) (number : ℕ × ℕ × ℕ) → HasNumber ship p number → number ≡ cell_of ship p
numbered ship p number h =
    sym (h.is_number) ∙ ap (λ (s : Stack). number_in s h.place) (sym (get_or_from_slice_get ship.stacks (h.place).stack h.stack no_stack h.is_stack)) ∙ ap (λ (o : Option Place). number_of ship o) (sym h.is_place)
