-- The variables of the 0-1 program of a voyage, in their order.
use Rattle.std.specs.Prelude.{ℕ, ◌+◌, Bool, false, List, Option, Some, None, cond, ◌==◌, ◌&&◌, slice_index_or, length, nat_lt, nat_le, map, flat_map, filter}
use Rattle.std.specs.List.{range_with_len}
use Rattle.stow_data.specs.declared.geometry.Length.TheVariants.{Forty}
use Rattle.stow_data.specs.declared.geometry.Place.{Place}
use Rattle.stow_data.specs.declared.kind_list.Kind.{Kind}
use Rattle.stow_data.specs.Ship.{Ship, places, fits}
use Rattle.stow_data.specs.Shipment.{Cargo, price}
use Rattle.stow_data.specs.Plans.{no_place, no_container}
use Rattle.stow_data.specs.Kinds.{kinds_of, kind_number}
use Rattle.zero_one_rows.specs.declared.program.Var.{Var}

-- the voyage whose program it is
pub record Voyage : Type 0 where
  pub ship : Ship
  pub cargo : Cargo

abbrev pub no_kind : Kind
no_kind = record { dest = 0; long = Forty; reefer = false; class = None; kg = 0; first = 0 }

abbrev pub no_var : Var
no_var = record { put = 0; kind = 0; lifted = 0; place = 0 }

module _ (m : Voyage) where
  -- the number of calls
  abbrev pub calls : ℕ
  calls = length m.cargo.rotation

  abbrev pub all_kinds : List Kind
  all_kinds = kinds_of m.ship.weight_step m.cargo.containers

  abbrev pub kind : ℕ → Kind
  kind g = slice_index_or all_kinds g no_kind

  abbrev pub place : ℕ → Place
  place p = slice_index_or (places m.ship) p no_place

  -- a container of kind g arrived at place p
  abbrev pub arrived : ℕ → ℕ → Bool
  arrived g p = is_of (slice_index_or m.cargo.arrival p None)
    where
      is_of : Option ℕ → Bool
      is_of None = false
      is_of (Some c) = kind_number m.ship.weight_step m.cargo.containers (slice_index_or m.cargo.containers c no_container) == g

  -- put at arrival where one stands, or else from the kind's first load on, where it fits; lifted later, at its destination at the latest
  abbrev pub is_var : Var → Bool
  is_var x = nat_lt x.put x.lifted && (nat_le x.lifted (kind x.kind).dest && cond (x.put == 0) (arrived x.kind x.place) (nat_le (kind x.kind).first x.put && fits (place x.place) (kind x.kind).long (kind x.kind).reefer))

  -- by put, kind, lifted, place
  unfoldable pub variables : List Var
  variables = filter is_var (flat_map (λ i. flat_map (λ g. flat_map (λ v. map (λ s. record { put = i; kind = g; lifted = v; place = s }) (range_with_len 0 (length (places m.ship)))) (range_with_len 0 (calls + 1))) (range_with_len 0 (length all_kinds))) (range_with_len 0 calls))

  abbrev pub var : ℕ → Var
  var v = slice_index_or variables v no_var

  -- one that is lifted before its destination is a rehandle
  abbrev pub is_rehandled : Var → Bool
  is_rehandled x = nat_lt x.lifted (kind x.kind).dest

  -- what it costs: the price of the call at which it is lifted, where it is a rehandle
  abbrev pub var_cost : Var → ℕ
  var_cost x = cond (is_rehandled x) (price m.cargo x.lifted) 0
