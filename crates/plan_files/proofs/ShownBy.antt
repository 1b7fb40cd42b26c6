-- A departure file shows what its plan shows.
use Rattle.std.proofs.Common.{◌≡◌, ℕ, ◌-◌, List, [], ◌∷◌, ◌++◌, Option, Some, None, Ok, refl, sym, ap, subst, ◌∙◌, ◌⊎◌, inl, inr}
use Rattle.std.specs.Prelude.{slice_index_or}
use Rattle.std.specs.List.{flat_map}
use Rattle.std.proofs.lemmas.List.Concat.{flat_map-append}
use Rattle.std.proofs.lemmas.Option.{get_or_from_slice_get, slice_get_within}
use Rattle.stow_data.specs.declared.cargoes.Container.{Container}
use Rattle.stow_data.specs.Ship.{Ship}
use Rattle.stow_data.specs.Shipment.{Cargo, IsCargo}
use Rattle.stow_data.specs.Profile.{IsShip}
use Rattle.stow_data.specs.Plans.{Plan, container_at, held, place_numbers, IsKnown}
use Rattle.stow_data.proofs.PlanLookups.{is_held}
use Rattle.stowage_rules.specs.Departure.{IsStowed}
use Rattle.bookings.specs.declared.shipment.Bookings.{Bookings}
use Rattle.arrival_plan.specs.Settled.{told}
use Rattle.baplie.specs.declared.parts.CellGroup as baplie
use Rattle.baplie.specs.declared.parts.Facts.{Facts}
use Rattle.plan_files.specs.Shown.{CellGroup, Shows, shown_at, shown_by, shown_in}
use Rattle.plan_files.specs.DepartureFile.{cell_at, cells, group_at, group_by, groups, message_of, moved, no_group, number_at, port_of, shown_from}
use Rattle.plan_files.proofs.Showing.{groups_show}
use Rattle.plan_files.proofs.Told.{IsArrivedBy, IsBookedBy, same_rotation, told_at}

shown_joined : (at : ℕ → List baplie.CellGroup) (shown : ℕ → List CellGroup) (ps : List ℕ) → ((p : ℕ) → flat_map shown_in (at p) ≡ shown p) → flat_map shown_in (flat_map at ps) ≡ flat_map shown ps
shown_joined at shown [] h = refl
shown_joined at shown (p ∷ ps) h = flat_map-append shown_in (at p) (flat_map at ps) ∙ (ap (λ (xs : List CellGroup). xs ++ flat_map shown_in (flat_map at ps)) (h p) ∙ ap (λ (xs : List CellGroup). shown p ++ xs) (shown_joined at shown ps h))

module _ (ship : Ship) (bookings : Bookings) (arrived : List baplie.CellGroup) (cargo : Cargo) (h : told ship bookings arrived ≡ Ok cargo) where
  -- the port of an arrived container
  port_is : (x : Container) (a : IsArrivedBy bookings arrived x) → a.facts.dest ≡ port_of cargo x.dest
  port_is x a =
      let dest : x.dest ≡ a.call = ap (λ (y : Container). y.dest) a.container in
      sym (ap (λ (ports : List (List ℕ)). slice_index_or ports (x.dest - 1) []) (same_rotation ship bookings arrived cargo h)
      ∙ (ap (λ (n : ℕ). slice_index_or bookings.rotation (n - 1) []) dest ∙ get_or_from_slice_get bookings.rotation (a.call - 1) a.facts.dest [] a.first.here))

  shown_of : (p : ℕ) (x : Container) → IsBookedBy bookings x ⊎ IsArrivedBy bookings arrived x → shown_in (group_by ship cargo bookings arrived p x x.origin) ≡ cell_at ship cargo p x ∷ []
  shown_of p x (inl k) = subst (λ (y : Container). shown_in (group_by ship cargo bookings arrived p y y.origin) ≡ cell_at ship cargo p y ∷ []) (sym k.container) refl
  shown_of p x (inr a) =
      let group : slice_index_or arrived a.index no_group ≡ a.group = get_or_from_slice_get arrived a.index a.group no_group a.is_group in
      let origin = ap (λ (y : Container). y.origin) a.container in
      let id : a.facts.id ≡ x.id = sym (ap (λ (y : Container). y.id) a.container) in
      ap (λ o. shown_in (group_by ship cargo bookings arrived p x o)) origin
      ∙ ap (λ (g : baplie.CellGroup). shown_in (moved (number_at ship p) g)) group
      ∙ ap (λ (o : Option Facts). shown_at (number_at ship p).0 (number_at ship p).1 (number_at ship p).2 o) a.has
      ∙ (λ i. record { bay = (number_at ship p).0; row = (number_at ship p).1; tier = (number_at ship p).2; id = id i; port = port_is x a i } ∷ [])

  module _ (plan : Plan) (known : IsKnown cargo plan) where
    shown_here : (p : ℕ) (o : Option ℕ) → held plan p ≡ o → flat_map shown_in (group_at ship cargo bookings arrived p o) ≡ shown_from ship cargo p o
    shown_here p None e = refl
    shown_here p (Some c) e = ap (λ (xs : List CellGroup). xs ++ []) (shown_of p (container_at cargo c) (told_at ship bookings arrived cargo h c (known p c (is_held plan p c e))))

    pub shown_is : (call : ℕ) → shown_by (message_of cargo bookings call (groups ship cargo bookings arrived plan)) ≡ cells ship cargo plan
    unfolding groups cells
    shown_is call = shown_joined (λ p. group_at ship cargo bookings arrived p (held plan p)) (λ p. shown_from ship cargo p (held plan p)) (place_numbers ship) (λ p. shown_here p (held plan p) refl)

  -- the message shows the plan
  pub plan_shown : (plan : Plan) (call : ℕ) → IsShip ship → IsCargo cargo → IsStowed ship cargo call plan → Shows ship cargo call (shown_by (message_of cargo bookings call (groups ship cargo bookings arrived plan))) plan
  plan_shown plan call rules shipped stowed =
      let known : IsKnown cargo plan = λ p c holds. let x = stowed.well_formed.known p c holds in slice_get_within cargo.containers c x.0 x.1 in
      subst (λ (gs : List CellGroup). Shows ship cargo call gs plan) (sym (shown_is plan known call)) (groups_show ship cargo call plan rules shipped stowed)
