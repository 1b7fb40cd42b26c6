use Rattle.std.proofs.Common.{◌≡◌}
use Rattle.std.specs.Prelude.{filter, slice_index_or}
use Rattle.std.specs.List.{range_with_len}
use Rattle.stow_data.specs.Ship.{places, fits}
use Rattle.stow_data.specs.Plans.{no_place}
use Rattle.zero_one_rows.proofs.offers.suited_places.Given as goal

abbrev pub invariant-loop-p : goal.invariant-loop-p
invariant-loop-p l = l.list ≡ filter (λ s. fits (slice_index_or (places l.ship) s no_place) l.long l.reefer) (range_with_len 0 l.p)
