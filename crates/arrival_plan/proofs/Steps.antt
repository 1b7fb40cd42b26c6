-- Groups read one after the other, and what a container at its place is.
use Rattle.std.proofs.Common.{◌≡◌, ℕ, suc, ◌+◌, ◌<◌, ◌≤◌, Bool, true, false, List, [], ◌∷◌, length, get_or, drop, drop-cons, Option, Some, None, Result, Ok, Err, refl, sym, ap, subst, ◌∙◌, arith}
use Rattle.std.specs.Prelude.{not, ok_or, option_map, position}
use Rattle.std.specs.Str.{bytes_eq}
use Rattle.std.proofs.lemmas.Bool.{both_ways}
use Rattle.std.proofs.lemmas.List.{drop_all}
use Rattle.std.proofs.lemmas.List.Quantifiers.{position-Some}
use Rattle.std.proofs.lemmas.Option.{none-some, same_Some}
use Rattle.stow_data.specs.Ship.{Ship, Takes, fits, places}
use Rattle.stow_data.specs.Plans.{no_place, place_at}
use Rattle.stow_data.proofs.Fitting.{fits_said}
use Rattle.toml_values.specs.Values.{◌>>=◌}
use Rattle.toml_values.proofs.ValueLaws.{bound, err_is_no_ok, same_Ok}
use Rattle.bookings.specs.declared.shipment.Bookings.{Bookings}
use Rattle.baplie.specs.declared.parts.CellGroup.{CellGroup}
use Rattle.baplie.specs.declared.parts.Facts.{Facts}
use Rattle.arrival_plan.specs.declared.faults.ArrivalFault.{ArrivalFault}
use Rattle.arrival_plan.specs.declared.faults.ArrivalFault.TheVariants.{NoSuchCell, WrongLength, Twice, NotInRotation, CellTaken}
use Rattle.arrival_plan.specs.declared.stowage.Placed.{Placed}
use Rattle.arrival_plan.specs.declared.stowage.Stowage.{Stowage}
use Rattle.arrival_plan.specs.Cells.{cell_of, first_call, is_same_cell, is_taken, place_of}
use Rattle.arrival_plan.specs.Ids.{is_named}
use Rattle.arrival_plan.specs.Arriving.{ensure, placed, with_facts, with_groups, with_placed}

-- ## Group after group

front_group : (gs : List CellGroup) (i : ℕ) (g : CellGroup) → i < length gs → g ≡ get_or gs i g → drop i gs ≡ g ∷ drop (i + 1) gs
front_group gs i g l is =
    let s : suc i ≡ i + 1 = omega arith in
    drop-cons gs i g l ∙ (ap (λ (z : CellGroup). z ∷ drop (suc i) gs) (sym is) ∙ ap (λ (k : ℕ). g ∷ drop k gs) s)

pub goes_on : (ship : Ship) (bookings : Bookings) (gs : List CellGroup) (i : ℕ) (g : CellGroup) (before after : Stowage) (total : Result Stowage ArrivalFault) → i < length gs → g ≡ get_or gs i g → with_facts ship bookings before i g g.facts ≡ Ok after → with_groups ship bookings before i (drop i gs) ≡ total → with_groups ship bookings after (i + 1) (drop (i + 1) gs) ≡ total
unfolding with_groups
goes_on ship bookings gs i g before after total l is h so_far =
    let one : with_groups ship bookings before i (drop i gs) ≡ with_groups ship bookings after (i + 1) (drop (i + 1) gs) = rw (front_group gs i g l is, h) refl in
    sym one ∙ so_far

pub stops : (ship : Ship) (bookings : Bookings) (gs : List CellGroup) (i : ℕ) (g : CellGroup) (before : Stowage) (e : ArrivalFault) (total : Result Stowage ArrivalFault) → i < length gs → g ≡ get_or gs i g → with_facts ship bookings before i g g.facts ≡ Err e → with_groups ship bookings before i (drop i gs) ≡ total → total ≡ Err e
unfolding with_groups
stops ship bookings gs i g before e total l is h so_far =
    let one : with_groups ship bookings before i (drop i gs) ≡ Err e = rw (front_group gs i g l is, h) refl in
    sym so_far ∙ one

pub is_told : (ship : Ship) (bookings : Bookings) (gs : List CellGroup) (i : ℕ) (before : Stowage) (total : Result Stowage ArrivalFault) → length gs ≤ i → with_groups ship bookings before i (drop i gs) ≡ total → total ≡ Ok before
unfolding with_groups
is_told ship bookings gs i before total l so_far =
    let one : with_groups ship bookings before i (drop i gs) ≡ Ok before = rw (drop_all i gs l) refl in
    sym so_far ∙ one

pub added : (ship : Ship) (bookings : Bookings) (before : Stowage) (i : ℕ) (g : CellGroup) (f : Facts) (p : Placed) → placed ship bookings before i g f ≡ Ok p → with_facts ship bookings before i g (Some f) ≡ Ok (with_placed before p)
added ship bookings before i g f p h = rw h refl

pub refused : (ship : Ship) (bookings : Bookings) (before : Stowage) (i : ℕ) (g : CellGroup) (f : Facts) (e : ArrivalFault) → placed ship bookings before i g f ≡ Err e → with_facts ship bookings before i g (Some f) ≡ Err e
refused ship bookings before i g f e h = rw h refl

-- ## A container at its place

pub ensured : {B : Type 0} (so : Bool) (fault : ArrivalFault) (f : Unit {0} → Result B ArrivalFault) (y : B) → (ensure so fault >>= f) ≡ Ok y → (so ≡ true) × (f tt ≡ Ok y)
ensured true fault f y h = (refl, h)
ensured false fault f y h = absurd (err_is_no_ok fault y h)

pub wanted : {X : Type 0} (o : Option X) (fault : ArrivalFault) (x : X) → ok_or o fault ≡ Ok x → o ≡ Some x
wanted (Some y) fault x h = ap (λ z. Some z) (same_Ok y x h)
wanted None fault x h = absurd (err_is_no_ok fault x h)

-- what a container and its place are
pub record IsFree (ship : Ship) (bookings : Bookings) (before : Stowage) (f : Facts) (p : Placed) : Type 0 where
  pub inside : p.place < length (places ship)
  pub length_fits : Takes (place_at ship p.place) p.container.long
  pub new : is_named p.container.id bookings.containers before.containers ≡ false
  pub load : p.container.load ≡ 0
  pub dest_from : 1 ≤ p.container.dest
  pub dest_to : p.container.dest ≤ length bookings.rotation
  pub kg : p.container.kg ≡ f.kg
  pub free : is_taken ship before.plan p.place ≡ false

pub place_inside : (ship : Ship) (cell : ℕ × ℕ × ℕ) (p : ℕ) → place_of ship cell ≡ Some p → p < length (places ship)
unfolding place_of
place_inside ship cell p h = (position-Some (λ place. is_same_cell (cell_of ship place) cell) (places ship) p no_place h).0

call_cases : (rotation : List (List ℕ)) (o : Option ℕ) (call : ℕ) → ((k : ℕ) → o ≡ Some k → k < length rotation) → option_map (λ k. k + 1) o ≡ Some call → (1 ≤ call) × (call ≤ length rotation)
call_cases rotation None call low h = absurd (none-some call h)
call_cases rotation (Some k) call low h = let e : k + 1 ≡ call = same_Some (k + 1) call h in let l = low k refl in (omega arith, omega arith)

call_within : (port : List ℕ) (rotation : List (List ℕ)) (call : ℕ) → first_call port rotation ≡ Some call → (1 ≤ call) × (call ≤ length rotation)
unfolding first_call
call_within port rotation call h = call_cases rotation (position (λ name. bytes_eq name port) rotation) call (λ k e. (position-Some (λ name. bytes_eq name port) rotation k [] e).0) h

not_so : (b : Bool) → not b ≡ true → b ≡ false
not_so true h = absurd (both_ways false refl h)
not_so false h = refl

pub is_free : (ship : Ship) (bookings : Bookings) (before : Stowage) (i : ℕ) (g : CellGroup) (f : Facts) (p : Placed) → placed ship bookings before i g f ≡ Ok p → IsFree ship bookings before f p
unfolding placed
is_free ship bookings before i g f p h =
    let cell : ℕ × ℕ × ℕ = (g.bay, g.row, g.tier) in
    let at = bound (ok_or (place_of ship cell) (NoSuchCell (i + 1))) _ p h in
    let fit = ensured (fits (place_at ship at.value) f.long false) (WrongLength (i + 1)) _ p at.goes_on in
    let once = ensured (not (is_named f.id bookings.containers before.containers)) (Twice f.id) _ p fit.1 in
    let call = bound (ok_or (first_call f.dest bookings.rotation) (NotInRotation (i + 1))) _ p once.1 in
    let free = ensured (not (is_taken ship before.plan at.value)) (CellTaken (i + 1)) _ p call.goes_on in
    let here = wanted (place_of ship cell) (NoSuchCell (i + 1)) at.value at.is in
    let bound_for = call_within f.dest bookings.rotation call.value (wanted (first_call f.dest bookings.rotation) (NotInRotation (i + 1)) call.value call.is) in
    subst (IsFree ship bookings before f) (same_Ok _ p free.1) record {
      inside = place_inside ship cell at.value here;
      length_fits = (fits_said (place_at ship at.value) f.long false fit.0).length_fits;
      new = not_so (is_named f.id bookings.containers before.containers) once.0;
      load = refl;
      dest_from = bound_for.0;
      dest_to = bound_for.1;
      kg = refl;
      free = not_so (is_taken ship before.plan at.value) free.0;
    }
