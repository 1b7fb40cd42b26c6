-- The groups of a plan, as they are gathered place by place.
use Rattle.std.proofs.Common.{◌≡◌, ℕ, ◌+◌, List, [], ◌∷◌, ◌++◌, Option, Some, None, sym, ap, ◌∙◌}
use Rattle.std.proofs.lemmas.List.{append-nil}
use Rattle.std.proofs.lemmas.Option.{get_or_from_slice_get}
use Rattle.std.specs.Prelude.{slice_get}
use Rattle.stow_data.specs.declared.cargoes.Container.{Container}
use Rattle.stow_data.specs.Ship.{Ship}
use Rattle.stow_data.specs.Shipment.{Cargo}
use Rattle.stow_data.specs.Plans.{Plan, container_at, held}
use Rattle.stow_data.proofs.PlanLookups.{container_is}
use Rattle.bookings.specs.declared.shipment.Bookings.{Bookings}
use Rattle.plan_files.specs.DepartureFile.{group_by, group_at}
use Rattle.plan_files.proofs.Composing.{groups_below, groups_more}
use Rattle.baplie.specs.declared.parts.CellGroup.{CellGroup}

module _ (ship : Ship) (cargo : Cargo) (bookings : Bookings) (arrived : List CellGroup) (plan : Plan) (n : ℕ) where
  -- a container stands at the next place
  pub filled : (c : ℕ) (container : Container) (list new : List CellGroup) (g : CellGroup) → list ≡ groups_below ship cargo bookings arrived plan n → slice_get plan n ≡ Some (Some c) → slice_get cargo.containers c ≡ Some container
      → g ≡ group_by ship cargo bookings arrived n container container.origin → new ≡ list ++ g ∷ [] → new ≡ groups_below ship cargo bookings arrived plan (n + 1)
  filled c container list new g so_far stands found made pushed =
      let before = groups_below ship cargo bookings arrived plan n in
      let here : held plan n ≡ Some c = get_or_from_slice_get plan n (Some c) None stands in
      let is : container_at cargo c ≡ container = container_is cargo c container found in
      let more : groups_below ship cargo bookings arrived plan (n + 1) ≡ before ++ group_by ship cargo bookings arrived n container container.origin ∷ [] =
      groups_more ship cargo bookings arrived plan n ∙ ap (λ (o : Option ℕ). before ++ group_at ship cargo bookings arrived n o) here ∙ ap (λ (k : Container). before ++ group_by ship cargo bookings arrived n k k.origin ∷ []) is in
      pushed ∙ ap (λ (l : List CellGroup). l ++ g ∷ []) so_far ∙ ap (λ (x : CellGroup). before ++ x ∷ []) made ∙ sym more

  -- none does
  pub empty : (list : List CellGroup) → list ≡ groups_below ship cargo bookings arrived plan n → slice_get plan n ≡ Some None → list ≡ groups_below ship cargo bookings arrived plan (n + 1)
  empty list so_far stands =
      let before = groups_below ship cargo bookings arrived plan n in
      let here : held plan n ≡ None = get_or_from_slice_get plan n None None stands in
      let more : groups_below ship cargo bookings arrived plan (n + 1) ≡ before = groups_more ship cargo bookings arrived plan n ∙ ap (λ (o : Option ℕ). before ++ group_at ship cargo bookings arrived n o) here ∙ append-nil before in
      so_far ∙ sym more
