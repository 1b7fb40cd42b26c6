-- Offers, by how much there is.
use Rattle.std.specs.Prelude.{◌<◌}
use Rattle.voyage_state.specs.declared.sizes.Sizes.{Sizes}
use Rattle.voyage_state.specs.Ranges.{IsSpot}
use Rattle.heuristic.specs.declared.placing.Offer.{Offer}

-- an offer is one of a place that there is, to a container of a kind that there is
pub record IsOffer (sizes : Sizes) (o : Offer) : Type 0 where
  pub of_kind : o.stay.kind < sizes.kinds
  pub at_spot : IsSpot sizes.stacks o.spot
