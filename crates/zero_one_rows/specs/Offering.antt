-- The places at which a container of a kind may be put at a call.
use Rattle.std.specs.Prelude.{◌≡◌, ℕ, ◌<◌, Bool, true, false, cond, ◌==◌, ◌&&◌, nat_le, List, [], length, filter, slice_index_or}
use Rattle.std.specs.List.{range_with_len}
use Rattle.stow_data.specs.declared.geometry.Length.{Length}
use Rattle.stow_data.specs.declared.geometry.Length.TheVariants.{Twenty, Forty}
use Rattle.stow_data.specs.Ship.{Ship, places, fits}
use Rattle.zero_one_rows.specs.Variables.{Voyage, kind, place, arrived, all_kinds}
use Rattle.stow_data.specs.Plans.{no_place}
use Rattle.zero_one_rows.specs.declared.offers.Offers.{Offers}

-- the places of a ship that a container of this length, a reefer or not, fits
abbrev pub suited : Ship → Length → Bool → List ℕ
suited ship long reefer = filter (λ s. fits (slice_index_or (places ship) s no_place) long reefer) (range_with_len 0 (length (places ship)))

module _ (m : Voyage) where
  abbrev pub arrived_at : ℕ → List ℕ
  arrived_at g = filter (λ s. arrived m g s) (range_with_len 0 (length (places m.ship)))

  -- kind g may be put at place s at call i
  abbrev pub may_put : ℕ → ℕ → ℕ → Bool
  may_put i g s = cond (i == 0) (arrived m g s) (nat_le (kind m g).first i && fits (place m s) (kind m g).long (kind m g).reefer)

  abbrev pub offered : ℕ → ℕ → List ℕ
  offered i g = filter (λ s. may_put i g s) (range_with_len 0 (length (places m.ship)))

  -- the places by length and plug, and those of each kind at arrival
  pub record IsOffers (o : Offers) : Type 0 where
    pub twenty : o.twenty ≡ suited m.ship Twenty false
    pub twenty_plug : o.twenty_plug ≡ suited m.ship Twenty true
    pub forty : o.forty ≡ suited m.ship Forty false
    pub forty_plug : o.forty_plug ≡ suited m.ship Forty true
    pub arrived : (g : ℕ) → g < length (all_kinds m) → slice_index_or o.arrived g [] ≡ arrived_at g
