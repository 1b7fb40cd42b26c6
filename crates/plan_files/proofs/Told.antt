-- What tells of a container: its booking, or its group of the bay plan of the ship as it came in.
use Rattle.std.proofs.Common.{◌≡◌, ℕ, zero, suc, ◌+◌, ◌<◌, List, [], ◌∷◌, ◌++◌, length, Option, Some, None, Ok, refl, sym, ◌∙◌, ap, subst, arith, ◌⊎◌, inl, inr, ⊎_elim}
use Rattle.std.specs.Prelude.{All, slice_get}
use Rattle.std.specs.List.{enumerate_from}
use Rattle.std.proofs.lemmas.Option.{get_or_from_slice_get, slice_get_within}
use Rattle.stow_data.specs.declared.cargoes.Container.{Container}
use Rattle.stow_data.specs.Ship.{Ship}
use Rattle.stow_data.specs.Shipment.{Cargo}
use Rattle.stow_data.specs.Plans.{container_at}
use Rattle.stow_data.proofs.Members.{Member, member_of, member_split, map_at, numbered}
use Rattle.stow_data.proofs.PlanLookups.{is_container}
use Rattle.toml_values.proofs.ValueLaws.{bound, same_Ok}
use Rattle.bookings.specs.declared.shipment.Booking.{Booking}
use Rattle.bookings.specs.declared.shipment.Bookings.{Bookings}
use Rattle.bookings.specs.BookedCargo as booked
use Rattle.baplie.specs.declared.parts.CellGroup.{CellGroup}
use Rattle.baplie.specs.declared.parts.Facts.{Facts}
use Rattle.arrival_plan.specs.declared.stowage.Stowage.{Stowage}
use Rattle.arrival_plan.specs.Aboard.{IsFirstCall}
use Rattle.arrival_plan.specs.Arriving.{arriving, cargo_with, container_of, nothing, placed, with_facts, with_groups, with_placed}
use Rattle.arrival_plan.specs.Settled.{told}
use Rattle.arrival_plan.proofs.Onward.{is_of}
use Rattle.plan_files.specs.DepartureFile.{IsTold}

-- a booking tells of the container
pub record IsBookedBy (bookings : Bookings) (x : Container) : Type 0 where
  pub booking : Booking
  pub index : ℕ
  pub container : x ≡ booked.container_of (index, booking)
  pub is_booking : slice_get bookings.containers index ≡ Some booking

-- a group does
pub record IsArrivedBy (bookings : Bookings) (arrived : List CellGroup) (x : Container) : Type 0 where
  pub group : CellGroup
  pub facts : Facts
  pub index : ℕ
  pub is_group : slice_get arrived index ≡ Some group
  pub has : group.facts ≡ Some facts
  pub call : ℕ
  pub first : IsFirstCall bookings.rotation facts.dest call
  pub container : x ≡ container_of index facts call

module _ (ship : Ship) (bookings : Bookings) (arrived : List CellGroup) where
  abbrev AllArrived : Stowage → Type 0
  AllArrived s = (x : Container) → Member x s.containers → IsArrivedBy bookings arrived x

  with_one : (before after : Stowage) (i : ℕ) (g : CellGroup) (o : Option Facts) → slice_get arrived i ≡ Some g → g.facts ≡ o → with_facts ship bookings before i g o ≡ Ok after → AllArrived before → AllArrived after
  with_one before after i g None at is h all = subst AllArrived (same_Ok before after h) all
  with_one before after i g (Some f) at is h all =
      let p = bound (placed ship bookings before i g f) (λ p. Ok (with_placed before p)) after h in
      let of = is_of ship bookings before i g f p.value p.is in
      subst AllArrived (same_Ok (with_placed before p.value) after p.goes_on) (λ x m. ⊎_elim
      (λ (k : Member x before.containers). all x k)
      (λ (k : (x ≡ p.value.container) ⊎ ⊥). ⊎_elim (λ (e : x ≡ p.value.container). record { group = g; facts = f; index = i; is_group = at; has = is; call = of.call; first = of.first; container = e ∙ of.container }) (λ (n : ⊥). absurd n) k)
      (member_split x before.containers (p.value.container ∷ []) m))

  with_all : (before after : Stowage) (i : ℕ) (gs : List CellGroup) → ((j : ℕ) (g : CellGroup) → slice_get gs j ≡ Some g → slice_get arrived (i + j) ≡ Some g) → with_groups ship bookings before i gs ≡ Ok after → AllArrived before → AllArrived after
  unfolding with_groups
  with_all before after i [] at h all = subst AllArrived (same_Ok before after h) all
  with_all before after i (g ∷ gs) at h all =
      let one = bound (with_facts ship bookings before i g g.facts) (λ s. with_groups ship bookings s (i + 1) gs) after h in
      let first : i + 0 ≡ i = omega arith in
      let here : slice_get arrived i ≡ Some g = subst (λ (k : ℕ). slice_get arrived k ≡ Some g) first (at zero g refl) in
      let later : (j : ℕ) (d : CellGroup) → slice_get gs j ≡ Some d → slice_get arrived (i + 1 + j) ≡ Some d = λ j d is. let e : i + suc j ≡ i + 1 + j = omega arith in subst (λ (k : ℕ). slice_get arrived k ≡ Some d) e (at (suc j) d is) in
      with_all one.value after (i + 1) gs later one.goes_on (with_one before one.value i g g.facts here refl one.is all)

  module _ (cargo : Cargo) (h : told ship bookings arrived ≡ Ok cargo) where
    pub same_rotation : cargo.rotation ≡ bookings.rotation
    same_rotation =
        let s = bound (arriving ship bookings arrived) (λ s. Ok (cargo_with ship bookings s)) cargo h in
        sym (ap (λ (c : Cargo). c.rotation) (same_Ok (cargo_with ship bookings s.value) cargo s.goes_on))

    booked_by : (x : Container) → Member x (booked.booked_cargo ship bookings).containers → IsBookedBy bookings x
    booked_by x m =
        let e = map_at booked.container_of (enumerate_from 0 bookings.containers) x m in
        let n = numbered bookings.containers 0 e.0 e.1 in
        let same : n.0 ≡ e.0.0 = omega (arith, n.1) in
        record { booking = e.0.1; index = e.0.0; container = e.2; is_booking = subst (λ (k : ℕ). slice_get bookings.containers k ≡ Some e.0.1) same n.2 }

    -- each container is told of
    pub told_of : (x : Container) → Member x cargo.containers → IsBookedBy bookings x ⊎ IsArrivedBy bookings arrived x
    told_of x m =
        let s = bound (arriving ship bookings arrived) (λ s. Ok (cargo_with ship bookings s)) cargo h in
        let all = with_all (nothing ship) s.value 0 arrived (λ j g is. let z : j ≡ 0 + j = omega arith in subst (λ (k : ℕ). slice_get arrived k ≡ Some g) z is) s.is (λ y k. absurd k) in
        let here : Member x (s.value.containers ++ (booked.booked_cargo ship bookings).containers) = subst (λ (c : Cargo). Member x c.containers) (sym (same_Ok (cargo_with ship bookings s.value) cargo s.goes_on)) m in
        ⊎_elim (λ (k : Member x s.value.containers). inr (all x k)) (λ (k : Member x (booked.booked_cargo ship bookings).containers). inl (booked_by x k)) (member_split x s.value.containers (booked.booked_cargo ship bookings).containers here)

    -- by its number
    pub told_at : (c : ℕ) → c < length cargo.containers → IsBookedBy bookings (container_at cargo c) ⊎ IsArrivedBy bookings arrived (container_at cargo c)
    told_at c l = told_of (container_at cargo c) (member_of cargo.containers c (container_at cargo c) (is_container cargo c l))

    is_told : (x : Container) → IsBookedBy bookings x ⊎ IsArrivedBy bookings arrived x → IsTold bookings arrived x.origin
    is_told x (inl b) = subst (λ (y : Container). IsTold bookings arrived y.origin) (sym b.container) (slice_get_within bookings.containers b.index b.booking b.is_booking)
    is_told x (inr a) = subst (λ (y : Container). IsTold bookings arrived y.origin) (sym a.container) (slice_get_within arrived a.index a.group a.is_group)

    pub all_told : All (λ x. IsTold bookings arrived x.origin) cargo.containers
    all_told k d l =
        let at = get_or_from_slice_get cargo.containers k (container_at cargo k) d (is_container cargo k l) in
        subst (λ (x : Container). IsTold bookings arrived x.origin) (sym at) (is_told (container_at cargo k) (told_at k l))

-- without a bay plan, the cargo is that of the bookings
pub booked_told : (ship : Ship) (bookings : Bookings) → told ship bookings [] ≡ Ok (booked.booked_cargo ship bookings)
unfolding with_groups
booked_told ship bookings = refl
