-- What a group brought aboard stays there, group after group.
use Rattle.std.proofs.Common.{◌≡◌, ℕ, zero, suc, ◌+◌, ◌-◌, ◌≤◌, false, cond, List, [], ◌∷◌, ◌++◌, length, get_or, take, Option, Some, None, Ok, refl, ◌∙◌, ap, subst, arith}
use Rattle.std.specs.Prelude.{All, IfSome, is_some, not, ok_or, option_map, position, slice_get}
use Rattle.std.specs.Str.{bytes_eq}
use Rattle.std.proofs.lemmas.Bool.{both_ways}
use Rattle.std.proofs.lemmas.List.{length-append}
use Rattle.std.proofs.lemmas.List.Quantifiers.{position-Some}
use Rattle.std.proofs.lemmas.List.Sums.{sum_by-cons}
use Rattle.std.proofs.lemmas.Slice.Eq.{bytes_eq-Decides}
use Rattle.std.proofs.lemmas.Option.{get_or_from_slice_get, none-some, same_Some, slice_get-get_or, slice_get_within}
use Rattle.stow_data.specs.declared.cargoes.Container.{Container}
use Rattle.stow_data.specs.Ship.{Ship, HasNumber, fits, places}
use Rattle.stow_data.specs.Shipment.{Cargo}
use Rattle.stow_data.specs.Plans.{no_place, place_at}
use Rattle.stowage_rules.specs.Plan.{Holds}
use Rattle.stowage_rules.proofs.Items.{slice_get-set_same, slice_get_in}
use Rattle.toml_values.proofs.ValueLaws.{bound, same_Ok}
use Rattle.bookings.specs.declared.shipment.Bookings.{Bookings}
use Rattle.baplie.specs.declared.parts.CellGroup.{CellGroup}
use Rattle.baplie.specs.declared.parts.Facts.{Facts}
use Rattle.arrival_plan.specs.declared.faults.ArrivalFault.TheVariants.{NoSuchCell, WrongLength, Twice, NotInRotation, CellTaken}
use Rattle.arrival_plan.specs.declared.stowage.Placed.{Placed}
use Rattle.arrival_plan.specs.declared.stowage.Stowage.{Stowage}
use Rattle.arrival_plan.specs.Cells.{cell_of, first_call, is_same_cell, is_taken, place_of}
use Rattle.arrival_plan.specs.Ids.{is_named}
use Rattle.arrival_plan.specs.Arriving.{arriving, cargo_with, container_of, nothing, placed, with_facts, with_groups, with_placed}
use Rattle.arrival_plan.specs.Settled.{AreRead, told}
use Rattle.arrival_plan.specs.Aboard.{IsAboardAs, IsFirstCall, containers_before}
use Rattle.arrival_plan.proofs.CellLaws.{number_from}
use Rattle.arrival_plan.proofs.Steps.{ensured, is_free, wanted}
use Rattle.arrival_plan.proofs.Sound.{IsSound, get_kept, get_pushed, sound_facts, sound_first, stands_on}

-- ## A container and its place, from its group

first_is : (rotation : List (List ℕ)) (port : List ℕ) (k : ℕ) → position (λ name. bytes_eq name port) rotation ≡ Some k → IsFirstCall rotation port (k + 1)
first_is rotation port k h =
    let at = position-Some (λ name. bytes_eq name port) rotation k [] h in
    record {
      from_one = omega arith;
      here = ap (slice_get rotation) (let e : k + 1 - 1 ≡ k = omega arith in e) ∙ (slice_get-get_or rotation k [] at.0 ∙ ap (λ (z : List ℕ). Some z) ((bytes_eq-Decides (get_or rotation k []) port).0 at.1));
      none_before = λ j l is. both_ways (bytes_eq (get_or rotation j []) port) (at.2 j (omega arith)) ((bytes_eq-Decides (get_or rotation j []) port).1 (get_or_from_slice_get rotation j port [] is));
    }

call_is : (rotation : List (List ℕ)) (port : List ℕ) (o : Option ℕ) (call : ℕ) → ((k : ℕ) → o ≡ Some k → IsFirstCall rotation port (k + 1)) → option_map (λ k. k + 1) o ≡ Some call → IsFirstCall rotation port call
call_is rotation port None call first h = absurd (none-some call h)
call_is rotation port (Some k) call first h = subst (IsFirstCall rotation port) (same_Some (k + 1) call h) (first k refl)

first_call_is : (rotation : List (List ℕ)) (port : List ℕ) (call : ℕ) → first_call port rotation ≡ Some call → IsFirstCall rotation port call
unfolding first_call
first_call_is rotation port call h = call_is rotation port (position (λ name. bytes_eq name port) rotation) call (first_is rotation port) h

pub has_number : (ship : Ship) (cell : ℕ × ℕ × ℕ) (p : ℕ) → place_of ship cell ≡ Some p → HasNumber ship p cell
unfolding place_of
has_number ship cell p h =
    let at = position-Some (λ place. is_same_cell (cell_of ship place) cell) (places ship) p no_place h in
    number_from ship cell p (get_or (places ship) p no_place) (slice_get-get_or (places ship) p no_place at.0) at.1

pub record IsOf (ship : Ship) (bookings : Bookings) (i : ℕ) (g : CellGroup) (f : Facts) (p : Placed) : Type 0 where
  pub call : ℕ
  pub first : IsFirstCall bookings.rotation f.dest call
  pub container : p.container ≡ container_of i f call
  pub cell : HasNumber ship p.place (g.bay, g.row, g.tier)

pub is_of : (ship : Ship) (bookings : Bookings) (before : Stowage) (i : ℕ) (g : CellGroup) (f : Facts) (p : Placed) → placed ship bookings before i g f ≡ Ok p → IsOf ship bookings i g f p
unfolding placed
is_of ship bookings before i g f p h =
    let cell : ℕ × ℕ × ℕ = (g.bay, g.row, g.tier) in
    let at = bound (ok_or (place_of ship cell) (NoSuchCell (i + 1))) _ p h in
    let fit = ensured (fits (place_at ship at.value) f.long false) (WrongLength (i + 1)) _ p at.goes_on in
    let once = ensured (not (is_named f.id bookings.containers before.containers)) (Twice f.id) _ p fit.1 in
    let call = bound (ok_or (first_call f.dest bookings.rotation) (NotInRotation (i + 1))) _ p once.1 in
    let free = ensured (not (is_taken ship before.plan at.value)) (CellTaken (i + 1)) _ p call.goes_on in
    subst (IsOf ship bookings i g f) (same_Ok _ p free.1) record {
      call = call.value;
      first = first_call_is bookings.rotation f.dest call.value (wanted (first_call f.dest bookings.rotation) (NotInRotation (i + 1)) call.value call.is);
      container = refl;
      cell = has_number ship cell at.value (wanted (place_of ship cell) (NoSuchCell (i + 1)) at.value at.is);
    }

-- ## What stays

record IsKept (before after : Stowage) : Type 0 where
  containers : (k : ℕ) (x : Container) → slice_get before.containers k ≡ Some x → slice_get after.containers k ≡ Some x
  plan : (p c : ℕ) → Holds before.plan p c → Holds after.plan p c

kept_self : (s : Stowage) → IsKept s s
kept_self s = record { containers = λ k x h. h; plan = λ p c h. h }

kept_both : (a b c : Stowage) → IsKept a b → IsKept b c → IsKept a c
kept_both a b c h k = record { containers = λ n x is. k.containers n x (h.containers n x is); plan = λ p n is. k.plan p n (h.plan p n is) }

abbrev IsLight : CellGroup → Type 0
IsLight g = IfSome g.facts (λ f. f.kg ≤ 99999)

kept_facts : (ship : Ship) (bookings : Bookings) (before after : Stowage) (i : ℕ) (g : CellGroup) (o : Option Facts) → IfSome o (λ f. f.kg ≤ 99999) → with_facts ship bookings before i g o ≡ Ok after → IsSound ship bookings before → IsKept before after
kept_facts ship bookings before after i g None light h sound = subst (IsKept before) (same_Ok before after h) (kept_self before)
kept_facts ship bookings before after i g (Some f) light h sound =
    let p = bound (placed ship bookings before i g f) (λ p. Ok (with_placed before p)) after h in
    let free = is_free ship bookings before i g f p.value p.is in
    subst (IsKept before) (same_Ok (with_placed before p.value) after p.goes_on) record {
      containers = λ k x is. get_kept before.containers (p.value.container ∷ []) k (slice_get_within before.containers k x is) ∙ is;
      plan = λ q c is. stands_on ship bookings before f p.value sound free light q c is;
    }

kept_groups : (ship : Ship) (bookings : Bookings) (before after : Stowage) (i : ℕ) (gs : List CellGroup) → All IsLight gs → with_groups ship bookings before i gs ≡ Ok after → IsSound ship bookings before → IsKept before after
unfolding with_groups
kept_groups ship bookings before after i [] light h sound = subst (IsKept before) (same_Ok before after h) (kept_self before)
kept_groups ship bookings before after i (g ∷ gs) light h sound =
    let one = bound (with_facts ship bookings before i g g.facts) (λ s. with_groups ship bookings s (i + 1) gs) after h in
    let here : IsLight g = light 0 g (omega arith) in
    kept_both before one.value after
    (kept_facts ship bookings before one.value i g g.facts here one.is sound)
    (kept_groups ship bookings one.value after (i + 1) gs (λ k d l. light (suc k) d (omega arith)) one.goes_on (sound_facts ship bookings before one.value i g g.facts here one.is sound))

-- ## What each group brought

record IsBrought (ship : Ship) (bookings : Bookings) (s : Stowage) (i : ℕ) (g : CellGroup) (f : Facts) (n : ℕ) : Type 0 where
  call : ℕ
  first : IsFirstCall bookings.rotation f.dest call
  container : slice_get s.containers n ≡ Some (container_of i f call)
  place : ℕ
  cell : HasNumber ship place (g.bay, g.row, g.tier)
  stands : Holds s.plan place n

still : (ship : Ship) (bookings : Bookings) (before after : Stowage) (i : ℕ) (g : CellGroup) (f : Facts) (n : ℕ) → IsKept before after → IsBrought ship bookings before i g f n → IsBrought ship bookings after i g f n
still ship bookings before after i g f n kept b = record { call = b.call; first = b.first; container = kept.containers n _ b.container; place = b.place; cell = b.cell; stands = kept.plan b.place n b.stands }

brought_now : (ship : Ship) (bookings : Bookings) (before after : Stowage) (i : ℕ) (g : CellGroup) (f : Facts) → with_facts ship bookings before i g (Some f) ≡ Ok after → IsSound ship bookings before → IsBrought ship bookings after i g f (length before.containers)
brought_now ship bookings before after i g f h sound =
    let p = bound (placed ship bookings before i g f) (λ p. Ok (with_placed before p)) after h in
    let of = is_of ship bookings before i g f p.value p.is in
    let free = is_free ship bookings before i g f p.value p.is in
    let inside = free.inside in
    let each = sound.each_place in
    let there = slice_get_in before.plan p.value.place (omega (arith, inside, each)) in
    subst (λ (s : Stowage). IsBrought ship bookings s i g f (length before.containers)) (same_Ok (with_placed before p.value) after p.goes_on) record {
      call = of.call;
      first = of.first;
      container = get_pushed before.containers p.value.container ∙ ap (λ (x : Container). Some x) of.container;
      place = p.value.place;
      cell = of.cell;
      stands = slice_get-set_same before.plan p.value.place (Some (length before.containers)) there.0 there.1;
    }

count_after : (ship : Ship) (bookings : Bookings) (before after : Stowage) (i : ℕ) (g : CellGroup) (o : Option Facts) → with_facts ship bookings before i g o ≡ Ok after → length after.containers ≡ length before.containers + cond (is_some o) 1 0
count_after ship bookings before after i g None h = let same : length before.containers ≡ length after.containers = ap (λ (s : Stowage). length s.containers) (same_Ok before after h) in omega (arith, same)
count_after ship bookings before after i g (Some f) h =
    let p = bound (placed ship bookings before i g f) (λ p. Ok (with_placed before p)) after h in
    let same : length (before.containers ++ p.value.container ∷ []) ≡ length after.containers = ap (λ (s : Stowage). length s.containers) (same_Ok (with_placed before p.value) after p.goes_on) in
    omega (arith, same, length-append before.containers (p.value.container ∷ []))

brought : (ship : Ship) (bookings : Bookings) (before after : Stowage) (i : ℕ) (gs : List CellGroup) → All IsLight gs → with_groups ship bookings before i gs ≡ Ok after → IsSound ship bookings before → (j : ℕ) (g : CellGroup) (f : Facts) → slice_get gs j ≡ Some g → g.facts ≡ Some f → IsBrought ship bookings after (i + j) g f (length before.containers + containers_before gs j)
unfolding with_groups
brought ship bookings before after i [] light h sound j g f at is = absurd (none-some g at)
brought ship bookings before after i (d ∷ gs) light h sound zero g f at is =
    let one = bound (with_facts ship bookings before i d d.facts) (λ s. with_groups ship bookings s (i + 1) gs) after h in
    let here : IsLight d = light 0 d (omega arith) in
    let later = kept_groups ship bookings one.value after (i + 1) gs (λ k e l. light (suc k) e (omega arith)) one.goes_on (sound_facts ship bookings before one.value i d d.facts here one.is sound) in
    let same : d ≡ g = same_Some d g at in
    let facts : d.facts ≡ Some f = ap (λ (z : CellGroup). z.facts) same ∙ is in
    let now = brought_now ship bookings before one.value i d f (subst (λ (o : Option Facts). with_facts ship bookings before i d o ≡ Ok one.value) facts one.is) sound in
    let first : i ≡ i + 0 = omega arith in
    let count : length before.containers ≡ length before.containers + 0 = omega arith in
    subst (λ (z : CellGroup). IsBrought ship bookings after (i + 0) z f (length before.containers + 0)) same
    (subst (λ (k : ℕ). IsBrought ship bookings after k d f (length before.containers + 0)) first
    (subst (λ (n : ℕ). IsBrought ship bookings after i d f n) count (still ship bookings one.value after i d f (length before.containers) later now)))
brought ship bookings before after i (d ∷ gs) light h sound (suc j) g f at is =
    let one = bound (with_facts ship bookings before i d d.facts) (λ s. with_groups ship bookings s (i + 1) gs) after h in
    let here : IsLight d = light 0 d (omega arith) in
    let rest = brought ship bookings one.value after (i + 1) gs (λ k e l. light (suc k) e (omega arith)) one.goes_on (sound_facts ship bookings before one.value i d d.facts here one.is sound) j g f at is in
    let index : i + 1 + j ≡ i + suc j = omega arith in
    let count : length one.value.containers + containers_before gs j ≡ length before.containers + containers_before (d ∷ gs) (suc j) =
    omega (arith, count_after ship bookings before one.value i d d.facts one.is, sum_by-cons (λ (z : CellGroup). cond (is_some z.facts) 1 0) d (take j gs)) in
    subst (λ (k : ℕ). IsBrought ship bookings after k g f (length before.containers + containers_before (d ∷ gs) (suc j))) index
    (subst (λ (n : ℕ). IsBrought ship bookings after (i + 1 + j) g f n) count rest)

-- ## In the cargo

pub aboard_as : (ship : Ship) (bookings : Bookings) (groups : List CellGroup) (cargo : Cargo) → AreRead groups → told ship bookings groups ≡ Ok cargo → (i : ℕ) (g : CellGroup) (f : Facts) → slice_get groups i ≡ Some g → g.facts ≡ Some f → IsAboardAs ship cargo i g f (containers_before groups i)
aboard_as ship bookings groups cargo read h i g f at is =
    let s = bound (arriving ship bookings groups) (λ s. Ok (cargo_with ship bookings s)) cargo h in
    let b = brought ship bookings (nothing ship) s.value 0 groups read.weights s.is (sound_first ship bookings) i g f at is in
    let index : 0 + i ≡ i = omega arith in
    let count : 0 + containers_before groups i ≡ containers_before groups i = omega arith in
    let here : IsBrought ship bookings s.value i g f (containers_before groups i) = subst (λ (k : ℕ). IsBrought ship bookings s.value k g f (containers_before groups i)) index (subst (λ (n : ℕ). IsBrought ship bookings s.value (0 + i) g f n) count b) in
    subst (λ (c : Cargo). IsAboardAs ship c i g f (containers_before groups i)) (same_Ok (cargo_with ship bookings s.value) cargo s.goes_on) record {
      call = here.call;
      bound = here.first;
      container = get_kept s.value.containers _ (containers_before groups i) (slice_get_within s.value.containers (containers_before groups i) _ here.container) ∙ here.container;
      place = here.place;
      cell = here.cell;
      stands = here.stands;
    }
