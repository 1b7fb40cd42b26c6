-- What stands on a ship obeys the rules of bookings, or stood aboard as the ship came in.
use Rattle.std.proofs.Common.{◌≡◌, ℕ, suc, ◌+◌, ◌*◌, ◌-◌, ◌^◌, ◌≤◌, ◌<◌, true, List, [], ◌∷◌, ◌++◌, length, length-append, Option, Some, None, Ok, refl, sym, ap, subst, ◌∙◌, arith, ◌⊎◌, inl, inr, ⊎_elim}
use Rattle.std.proofs.lemmas.Bool.{cases_eq}
use Rattle.std.proofs.lemmas.List.Elements.{All-get_or}
use Rattle.std.proofs.lemmas.Option.{get_or_from_slice_get, same_Some, slice_get_within}
use Rattle.std.specs.Prelude.{slice_get, slice_index_or, IfSome, IsTrue}
use Rattle.std.specs.List.{flat_map, range_with_len}
use Rattle.stow_data.specs.declared.geometry.Span.{Span}
use Rattle.stow_data.specs.declared.geometry.Span.TheVariants.{Fore, Aft, Both}
use Rattle.stow_data.specs.declared.cargoes.Container.{Container}
use Rattle.stow_data.specs.declared.cargoes.Origin.{Origin}
use Rattle.stow_data.specs.declared.cargoes.Origin.TheVariants.{Arrived, Booked}
use Rattle.stow_data.specs.Ship.{Ship, places, bay_of, length_in}
use Rattle.stow_data.specs.Shipment.{Cargo, IsCargo}
use Rattle.stow_data.specs.Profile.{IsShip, IsStack, is_class}
use Rattle.stow_data.proofs.CellLemmas.{each_bounded, stack_rules}
use Rattle.stow_data.proofs.Members.{member_of}
use Rattle.stow_data.specs.Plans.{Plan, place_at, container_at, held, no_stack}
use Rattle.stow_data.proofs.PlanLookups.{is_held, is_place, is_container}
use Rattle.stowage_rules.specs.Plan.{Holds, IsWellFormed}
use Rattle.bookings.specs.declared.shipment.Booking.{Booking}
use Rattle.bookings.specs.declared.shipment.Bookings.{Bookings}
use Rattle.bookings.specs.BookedCargo as booked
use Rattle.toml_values.specs.Values.{is_code}
use Rattle.bookings.specs.Rules.{IsBooking, IsBookings}
use Rattle.arrival_plan.specs.Settled.{told}
use Rattle.baplie.specs.declared.parts.CellGroup.{CellGroup}
use Rattle.baplie.specs.declared.parts.Facts.{Facts}
use Rattle.baplie.specs.Groups.{cell_group, long_of_bay}
use Rattle.baplie.specs.Whole.{IsWhole}
use Rattle.plan_files.specs.DepartureFile.{AreArrived, no_booking, no_group, port_of, number_at, booked_group, cell_group_of, group_by, group_at, groups, message_of, moved, moved_segments}
use Rattle.plan_files.proofs.Arrived.{few_arrived, long_by_bay, one_out, put_out, put_out_else, read_group, total, total_joined}
use Rattle.plan_files.proofs.Departures.{IsBookedHead, is_whole}
use Rattle.plan_files.proofs.Good.{AllGood, IsGood, good-append, joined}
use Rattle.plan_files.proofs.GroupParts.{booked_good, few_segments}
use Rattle.plan_files.proofs.Moved.{IsNumber, moved_good}
use Rattle.plan_files.proofs.Quiet.{IsBookedGroup}
use Rattle.plan_files.proofs.Showing.{id_once}
use Rattle.plan_files.proofs.Texts.{IsText, code_text, name_text, class_text, date_text}
use Rattle.plan_files.proofs.Told.{IsArrivedBy, IsBookedBy, same_rotation, told_at}

-- the port of a call of the rotation
port-is : (cargo : Cargo) (bookings : Bookings) (call : ℕ) → cargo.rotation ≡ bookings.rotation → IsBookings bookings → call ≤ length bookings.rotation → IsText 35 (port_of cargo call)
port-is cargo bookings call same b h =
    subst (λ (ports : List (List ℕ)). IsText 35 (slice_index_or ports (call - 1) [])) (sym same)
    (code_text 35 (slice_index_or bookings.rotation (call - 1) []) (All-get_or (λ port. is_code 35 port ≡ true) bookings.rotation (call - 1) [] (omega (arith, b.calls_from)) b.each_port))

booked_head : (cargo : Cargo) (bookings : Bookings) (call : ℕ) → cargo.rotation ≡ bookings.rotation → IsBookings bookings → call < length bookings.rotation → IsBookedHead cargo bookings call
booked_head cargo bookings call same b h = record {
  dated = date_text bookings.date b.dated;
  sender = name_text bookings.sender b.sender_named;
  recipient = name_text bookings.recipient b.recipient_named;
  voyage = name_text bookings.voyage b.voyage_named;
  vessel = name_text bookings.vessel b.vessel_named;
  here = port-is cargo bookings call same b (omega arith);
  next = port-is cargo bookings (call + 1) same b (omega arith);
  small = omega (arith, b.calls_to);
}

-- the class of a booking
class-is : (o : Option (List ℕ)) → IfSome o (λ c. IsTrue (is_class c)) → IfSome o (IsText 8)
class-is None h = tt
class-is (Some c) h = class_text c h

-- the number of a place
bay-small : (bay : ℕ) (span : Span) → bay ≤ 998 → bay_of bay span < 1000
bay-small bay Fore h = omega arith
bay-small bay Aft h = omega arith
bay-small bay Both h = omega arith

numbered_place : (ship : Ship) (p : ℕ) → IsShip ship → p < length (places ship) → IsNumber (number_at ship p)
numbered_place ship p s h =
    let place = place_at ship p in
    let b = each_bounded ship s p place (is_place ship p h) in
    let stack : slice_index_or ship.stacks place.stack no_stack ≡ b.0 = get_or_from_slice_get ship.stacks place.stack b.0 no_stack b.1 in
    let rules : IsStack b.0 = stack_rules ship place.stack b.0 s b.1 in
    record {
      bay = rw stack (bay-small b.0.bay place.span b.2.bay_to);
      row = rw stack (omega (arith, rules.row_to));
      tier = rw stack (omega (arith, b.2.tier_to));
    }

-- the booking of a number
booked_rules : (ship : Ship) (cargo : Cargo) (bookings : Bookings) (p index : ℕ) (booking : Booking) → IsShip ship → IsBookings bookings → cargo.rotation ≡ bookings.rotation → p < length (places ship) → slice_get bookings.containers index ≡ Some booking → IsBookedGroup (booked_group ship cargo booking p (booked.container_of (index, booking)))
booked_rules ship cargo bookings p index booking s b same h is =
    let n = numbered_place ship p s h in
    let rules : IsBooking (length bookings.rotation) booking = subst (IsBooking (length bookings.rotation)) (get_or_from_slice_get bookings.containers index booking no_booking is) (All-get_or (IsBooking (length bookings.rotation)) bookings.containers index no_booking (slice_get_within bookings.containers index booking is) b.each_booking) in
    let typed = code_text 10 booking.iso rules.typed in
    record {
      bay = n.bay;
      row = n.row;
      tier = n.tier;
      identified = code_text 17 booking.id rules.identified;
      discharged = port-is cargo bookings booking.dest same b rules.in_rotation;
      loaded = port-is cargo bookings booking.load same b (omega (arith, rules.later, rules.in_rotation));
      typed = typed;
      long = rules.long;
      kg = rules.kg_to;
      temperature_from = rules.temperature_from;
      temperature_to = rules.temperature_to;
      classed = class-is booking.class rules.classed;
    }

-- a 20-foot place has an odd bay, a 40-foot place an even one
bay_fits : (ship : Ship) (p : ℕ) → IsShip ship → p < length (places ship) → long_of_bay (number_at ship p).0 ≡ length_in (place_at ship p).span
bay_fits ship p s h =
    let place = place_at ship p in
    let b = each_bounded ship s p place (is_place ship p h) in
    let stack : slice_index_or ship.stacks place.stack no_stack ≡ b.0 = get_or_from_slice_get ship.stacks place.stack b.0 no_stack b.1 in
    let rules : IsStack b.0 = stack_rules ship place.stack b.0 s b.1 in
    rw stack (long_by_bay b.0.bay place.span rules.bay_even rules.bay_from)

module _ (ship : Ship) (bookings : Bookings) (arrived : List CellGroup) (cargo : Cargo) (plan : Plan) (s : IsShip ship) (b : IsBookings bookings) (shipped : IsCargo cargo) (came : AreArrived arrived) (h : told ship bookings arrived ≡ Ok cargo) (formed : IsWellFormed ship cargo plan) where
  known : (p c : ℕ) → Holds plan p c → c < length cargo.containers
  known p c stands = let x = formed.known p c stands in slice_get_within cargo.containers c x.0 x.1

  low : (p c : ℕ) → Holds plan p c → p < length (places ship)
  low p c stands = omega (arith, formed.each_place, slice_get_within plan p (Some c) stands)

  -- the length of a container fits the bay
  bay_long : (p c : ℕ) → Holds plan p c → long_of_bay (number_at ship p).0 ≡ (container_at cargo c).long
  bay_long p c stands =
      bay_fits ship p s (low p c stands)
      ∙ sym (formed.fits p c (place_at ship p) (container_at cargo c) (record { is_place = is_place ship p (low p c stands); holds = stands; is_container = is_container cargo c (known p c stands) }))

  arrived_good : (p : ℕ) (x : Container) → p < length (places ship) → long_of_bay (number_at ship p).0 ≡ x.long → (a : IsArrivedBy bookings arrived x) → IsGood (moved (number_at ship p) a.group)
  arrived_good p x l fits a =
      let r = read_group arrived a.group came (member_of arrived a.index a.group a.is_group) in
      let long : a.facts.long ≡ x.long = sym (ap (λ (y : Container). y.long) a.container) in
      let facts : (cell_group r.segments).facts ≡ Some a.facts = sym (ap (λ (g : CellGroup). g.facts) r.is) ∙ a.has in
      let told : IfSome (cell_group r.segments).facts (λ f. long_of_bay (number_at ship p).0 ≡ f.long) = subst (λ (o : Option Facts). IfSome o (λ f. long_of_bay (number_at ship p).0 ≡ f.long)) (sym facts) (fits ∙ sym long) in
      subst (λ (g : CellGroup). IsGood (moved (number_at ship p) g)) (sym r.is) (moved_good (number_at ship p) r.segments r.first (numbered_place ship p s l) r.cut r.quiet told)

  good_by : (p : ℕ) (x : Container) → p < length (places ship) → long_of_bay (number_at ship p).0 ≡ x.long → IsBookedBy bookings x ⊎ IsArrivedBy bookings arrived x → IsGood (group_by ship cargo bookings arrived p x x.origin)
  good_by p x l fits (inl k) =
      let booking : slice_index_or bookings.containers k.index no_booking ≡ k.booking = get_or_from_slice_get bookings.containers k.index k.booking no_booking k.is_booking in
      let good = booked_good (booked_group ship cargo k.booking p (booked.container_of (k.index, k.booking))) (booked_rules ship cargo bookings p k.index k.booking s b (same_rotation ship bookings arrived cargo h) l k.is_booking) in
      subst (λ (y : Container). IsGood (group_by ship cargo bookings arrived p y y.origin)) (sym k.container)
      (subst (λ (z : Booking). IsGood (cell_group_of (booked_group ship cargo z p (booked.container_of (k.index, k.booking))))) (sym booking) good)
  good_by p x l fits (inr a) =
      let group : slice_index_or arrived a.index no_group ≡ a.group = get_or_from_slice_get arrived a.index a.group no_group a.is_group in
      subst (λ (y : Container). IsGood (group_by ship cargo bookings arrived p y y.origin)) (sym a.container)
      (subst (λ (g : CellGroup). IsGood (moved (number_at ship p) g)) (sym group) (arrived_good p x l fits a))

  good_at : (p : ℕ) (o : Option ℕ) → held plan p ≡ o → AllGood (group_at ship cargo bookings arrived p o)
  good_at p None e = tt
  good_at p (Some c) e =
      let stands = is_held plan p c e in
      (good_by p (container_at cargo c) (low p c stands) (bay_long p c stands) (told_at ship bookings arrived cargo h c (known p c stands)), tt)

  all_good : (first count : ℕ) → AllGood (flat_map (λ p. group_at ship cargo bookings arrived p (held plan p)) (range_with_len first count))
  all_good first ℕ.zero = tt
  all_good first (suc count) = good-append (group_at ship cargo bookings arrived first (held plan first)) (flat_map (λ p. group_at ship cargo bookings arrived p (held plan p)) (range_with_len (first + 1) count)) (good_at first (held plan first) refl) (all_good (first + 1) count)

  -- ## How many segments

  -- the container has this group
  record HasGroup (p k : ℕ) : Type 0 where
    number : ℕ
    stands : Holds plan p number
    origin : (container_at cargo number).origin ≡ Arrived k

  index_is : (x : Container) (k : ℕ) → x.origin ≡ Arrived k → IsBookedBy bookings x ⊎ IsArrivedBy bookings arrived x → (a : IsArrivedBy bookings arrived x) × (a.index ≡ k)
  index_is x k o (inl y) = let e : Booked y.index ≡ Arrived k = sym (ap (λ (z : Container). z.origin) y.container) ∙ o in absurd cc
  index_is x k o (inr a) = let e : Arrived a.index ≡ Arrived k = sym (ap (λ (z : Container). z.origin) a.container) ∙ o in (a, let i : a.index ≡ k = cc in i)

  -- no two places have one group
  group_once : (p q k : ℕ) → HasGroup p k → HasGroup q k → p ≡ q
  group_once p q k x y =
      let c = x.number in
      let d = y.number in
      let a = index_is (container_at cargo c) k x.origin (told_at ship bookings arrived cargo h c (known p c x.stands)) in
      let e = index_is (container_at cargo d) k y.origin (told_at ship bookings arrived cargo h d (known q d y.stands)) in
      let same : a.0.group ≡ e.0.group = same_Some a.0.group e.0.group (sym a.0.is_group ∙ (ap (slice_get arrived) (a.1 ∙ sym e.1) ∙ e.0.is_group)) in
      let facts : a.0.facts ≡ e.0.facts = same_Some a.0.facts e.0.facts (sym a.0.has ∙ (ap (λ (g : CellGroup). g.facts) same ∙ e.0.has)) in
      let id : (container_at cargo c).id ≡ (container_at cargo d).id = ap (λ (z : Container). z.id) a.0.container ∙ (ap (λ (f : Facts). f.id) facts ∙ sym (ap (λ (z : Container). z.id) e.0.container)) in
      let one : c ≡ d = id_once cargo c d (container_at cargo c) (container_at cargo d) shipped (is_container cargo c (known p c x.stands)) (is_container cargo d (known q d y.stands)) id in
      formed.once p q d (subst (λ (z : ℕ). Holds plan p z) one x.stands) y.stands

  abbrev size : ℕ → ℕ
  size k = length (slice_index_or arrived k no_group).segments

  length_moved : (p k : ℕ) → length (moved (number_at ship p) (slice_index_or arrived k no_group)).segments ≡ size k
  length_moved p k = go (slice_index_or arrived k no_group).segments
    where
      go : (ss : List _) → length (moved_segments (number_at ship p) ss) ≡ length ss
      go [] = refl
      go (x ∷ ss) = refl

  -- the sizes of the groups that stand from a place on
  abbrev Sizes : ℕ → (ℕ → ℕ) → Type 0
  Sizes first w = (p k : ℕ) → first ≤ p → HasGroup p k → size k ≤ w k

  -- the groups of some places from one on
  abbrev groups_from : ℕ → ℕ → List CellGroup
  groups_from first count = flat_map (λ p. group_at ship cargo bookings arrived p (held plan p)) (range_with_len first count)

  few_more : (first count : ℕ) (w : ℕ → ℕ) → Sizes first w → ((v : ℕ → ℕ) → Sizes (first + 1) v → length (joined (groups_from (first + 1) count)) ≤ 8 * count + total arrived v) → length (joined (group_at ship cargo bookings arrived first (held plan first) ++ groups_from (first + 1) count)) ≤ 8 * suc count + total arrived w
  few_more first count w sizes rest = by_held (held plan first) refl
    where
      later : List CellGroup
      later = groups_from (first + 1) count

      by_origin : (x : Container) (o : Origin) → ((k : ℕ) → o ≡ Arrived k → HasGroup first k) → length ((group_by ship cargo bookings arrived first x o).segments ++ joined later) ≤ 8 * suc count + total arrived w
      by_origin x (Booked k) has =
          omega (arith, length-append (group_by ship cargo bookings arrived first x (Booked k)).segments (joined later), few_segments (booked_group ship cargo (slice_index_or bookings.containers k no_booking) first x), rest w (λ p j l g. sizes p j (omega arith) g))
      by_origin x (Arrived k) has =
          let own = has k refl in
          let c = own.number in
          let a = index_is (container_at cargo c) k own.origin (told_at ship bookings arrived cargo h c (known first c own.stands)) in
          let within : a.0.index < length arrived = slice_get_within arrived a.0.index a.0.group a.0.is_group in
          let l : k < length arrived = subst (λ (j : ℕ). j < length arrived) a.1 within in
          let others : Sizes (first + 1) (put_out k w) = λ p j behind g. ⊎_elim
          (λ (same : j ≡ k). let here : p ≡ first = group_once p first k (subst (HasGroup p) same g) own in absurd (omega (arith, here, behind)))
          (λ (ne : j ≡ k → ⊥). omega (arith, sizes p j (omega arith) g, put_out_else w k j ne))
          (cases_eq j k) in
          omega (arith, length-append (group_by ship cargo bookings arrived first x (Arrived k)).segments (joined later), length_moved first k, sizes first k (omega arith) own, one_out arrived w k l, rest (put_out k w) others)

      by_held : (o : Option ℕ) → held plan first ≡ o → length (joined (group_at ship cargo bookings arrived first o ++ later)) ≤ 8 * suc count + total arrived w
      by_held None e = omega (arith, rest w (λ p j l g. sizes p j (omega arith) g))
      by_held (Some c) e = by_origin (container_at cargo c) (container_at cargo c).origin (λ k o. record { number = c; stands = is_held plan first c e; origin = o })

  few_from : (first count : ℕ) (w : ℕ → ℕ) → Sizes first w → length (joined (groups_from first count)) ≤ 8 * count + total arrived w
  few_from first ℕ.zero w sizes = omega arith
  few_from first (suc count) w sizes = few_more first count w sizes (λ v later. few_from (first + 1) count v later)

  pub plan_good : AllGood (groups ship cargo bookings arrived plan)
  unfolding groups
  plan_good = all_good 0 (length (places ship))

  pub plan_few : length (joined (groups ship cargo bookings arrived plan)) ≤ 2 ^ 29 + 24000
  unfolding groups
  plan_few = omega (arith, few_from 0 (length (places ship)) size (λ p k l g. omega arith), total_joined arrived no_group, few_arrived arrived came, s.few_places)

  pub plan_whole : (call : ℕ) → call < length bookings.rotation → IsWhole (message_of cargo bookings call (groups ship cargo bookings arrived plan))
  plan_whole call l = is_whole cargo bookings call (groups ship cargo bookings arrived plan) (booked_head cargo bookings call (same_rotation ship bookings arrived cargo h) b l) plan_good plan_few
