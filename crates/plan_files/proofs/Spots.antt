-- What it means that a group is at no fault.
use Rattle.std.proofs.Common.{◌≡◌, ℕ, ◌+◌, ◌-◌, ◌<◌, Bool, true, false, List, [], length, get_or, Option, Some, None, Result, Ok, refl, sym, ap, subst, ◌∙◌}
use Rattle.std.specs.Prelude.{not, nat_le, nat_lt, ok_or, slice_index_or}
use Rattle.std.specs.Str.{bytes_eq}
use Rattle.std.proofs.lemmas.Bool.{and_from, and_parts, both_ways, le-leb, leb-true, lt-ltb, ltb-true}
use Rattle.std.proofs.lemmas.List.Quantifiers.{position-Some}
use Rattle.std.proofs.lemmas.Option.{get_or_from_slice_get, slice_get-get_or, slice_get_within}
use Rattle.std.proofs.lemmas.Slice.Eq.{bytes_eq-Decides}
use Rattle.stow_data.specs.declared.geometry.Place.{Place}
use Rattle.stow_data.specs.declared.cargoes.Container.{Container}
use Rattle.stow_data.specs.Ship.{Ship, Takes, fits}
use Rattle.stow_data.specs.Shipment.{Cargo, IsAboard, IsCargo}
use Rattle.stow_data.specs.Profile.{IsShip}
use Rattle.stow_data.specs.Plans.{place_at, container_at, no_container}
use Rattle.stow_data.proofs.Fitting.{fits_said, fits_shown}
use Rattle.stow_data.proofs.PlanLookups.{container_is, is_container, place_is}
use Rattle.toml_values.specs.Values.{◌>>=◌}
use Rattle.toml_values.proofs.ValueLaws.{bound, err_is_no_ok, same_Ok}
use Rattle.baplie.specs.declared.parts.CellGroup as baplie
use Rattle.baplie.specs.declared.parts.Facts.{Facts}
use Rattle.arrival_plan.specs.Cells.{is_taken, place_of}
use Rattle.arrival_plan.proofs.CellLaws.{place_told}
use Rattle.arrival_plan.proofs.Onward.{has_number}
use Rattle.plan_files.specs.DepartureFile.{port_of}
use Rattle.plan_files.specs.Shown.{CellGroup, Says}
use Rattle.plan_files.proofs.Numbers.{number_once}
use Rattle.plan_files.proofs.Showing.{has_port}
use Rattle.plan_files.specs.declared.file_faults.FileNo.{FileNo}
use Rattle.plan_files.specs.declared.file_faults.FileNo.TheVariants.{NoSuchCell, Unknown, Twice, WrongLength, CellTaken, DischargeDiffers, NotAboard}
use Rattle.plan_files.specs.declared.standing.Spot.{Spot}
use Rattle.plan_files.specs.declared.standing.Standing.{Standing}
use Rattle.plan_files.specs.Ids.{HasId, number_of}
use Rattle.stow_data.specs.Shipment.{is_aboard}
use Rattle.plan_files.specs.PlanOf.{ensure, is_bound, spotted}
use Rattle.plan_files.proofs.Tables.{number_is}

-- what a group shows
abbrev pub shown_as : baplie.CellGroup → Facts → CellGroup
shown_as g f = record { bay = g.bay; row = g.row; tier = g.tier; id = f.id; port = f.dest }

-- a container at a place where nothing is in the way
pub record IsFree (ship : Ship) (cargo : Cargo) (call : ℕ) (before : Standing) (g : baplie.CellGroup) (f : Facts) (s : Spot) : Type 0 where
  pub says : Says ship cargo (shown_as g f) s.place s.container
  pub aboard : IsAboard call says.container
  pub new : slice_index_or before.placed s.container false ≡ false
  pub free : is_taken ship before.plan s.place ≡ false

ensured : {B : Type 0} (so : Bool) (fault : FileNo) (f : Unit {0} → Result B FileNo) (y : B) → (ensure so fault >>= f) ≡ Ok y → (so ≡ true) × (f tt ≡ Ok y)
ensured true fault f y h = (refl, h)
ensured false fault f y h = absurd (err_is_no_ok fault y h)

wanted : {X : Type 0} (o : Option X) (fault : FileNo) (x : X) → ok_or o fault ≡ Ok x → o ≡ Some x
wanted (Some y) fault x h = ap (λ z. Some z) (same_Ok y x h)
wanted None fault x h = absurd (err_is_no_ok fault x h)

not_so : (b : Bool) → not b ≡ true → b ≡ false
not_so true h = absurd (both_ways false refl h)
not_so false h = refl

named_is : (id : List ℕ) (containers : List Container) (c : ℕ) → number_of id containers ≡ Some c → HasId containers id c
unfolding number_of
named_is id containers c h =
    let at = position-Some (λ c. bytes_eq c.id id) containers c no_container h in
    record { container = get_or containers c no_container; is_container = slice_get-get_or containers c no_container at.0; same_id = (bytes_eq-Decides (get_or containers c no_container).id id).0 at.1 }

pub aboard_is : (call : ℕ) (c : Container) → is_aboard call c ≡ true → IsAboard call c
aboard_is call c h = let b = and_parts (nat_le c.load call) (nat_lt call c.dest) h in record { loaded = leb-true c.load call b.0; stays = ltb-true call c.dest b.1 }

pub is_aboard_from : (call : ℕ) (c : Container) → IsAboard call c → is_aboard call c ≡ true
is_aboard_from call c h = and_from (nat_le c.load call) (nat_lt call c.dest) (le-leb c.load call h.loaded) (lt-ltb call c.dest h.stays)

pub is_free : (ship : Ship) (cargo : Cargo) (call : ℕ) (before : Standing) (i : ℕ) (g : baplie.CellGroup) (f : Facts) (s : Spot) → IsCargo cargo → spotted ship cargo call before i g f ≡ Ok s → IsFree ship cargo call before g f s
unfolding spotted
is_free ship cargo call before i g f s shipped h =
    let cell : ℕ × ℕ × ℕ = (g.bay, g.row, g.tier) in
    let at = bound (ok_or (place_of ship cell) (NoSuchCell (i + 1))) _ s h in
    let by = bound (ok_or (number_of f.id cargo.containers) (Unknown f.id)) _ s at.goes_on in
    let once = ensured (not (slice_index_or before.placed by.value false)) (Twice f.id) _ s by.goes_on in
    let fit = ensured (fits (place_at ship at.value) (container_at cargo by.value).long false) (WrongLength f.id) _ s once.1 in
    let free = ensured (not (is_taken ship before.plan at.value)) (CellTaken f.id) _ s fit.1 in
    let port = ensured (is_bound cargo (container_at cargo by.value) f.dest) (DischargeDiffers f.id) _ s free.1 in
    let aboard = ensured (is_aboard call (container_at cargo by.value)) (NotAboard f.id) _ s port.1 in
    let id = named_is f.id cargo.containers by.value (wanted (number_of f.id cargo.containers) (Unknown f.id) by.value by.is) in
    let low : by.value < length cargo.containers = slice_get_within cargo.containers by.value id.container id.is_container in
    let c = container_at cargo by.value in
    let same : c ≡ id.container = container_is cargo by.value id.container id.is_container in
    subst (IsFree ship cargo call before g f) (same_Ok _ s aboard.1) record {
      says = record {
        container = c;
        is_container = is_container cargo by.value low;
        same_id = sym (ap (λ (x : Container). x.id) same ∙ id.same_id);
        cell = has_number ship cell at.value (wanted (place_of ship cell) (NoSuchCell (i + 1)) at.value at.is);
        fits = λ place is_place. subst (λ (z : Place). Takes z c.long) (place_is ship at.value place is_place) (fits_said (place_at ship at.value) c.long false fit.0).length_fits;
        discharge = has_port cargo by.value c shipped (is_container cargo by.value low) ∙ ap (λ (port : List ℕ). Some port) (sym ((bytes_eq-Decides f.dest (port_of cargo c.dest)).0 port.0));
      };
      aboard = aboard_is call c aboard.0;
      new = not_so (slice_index_or before.placed by.value false) once.0;
      free = not_so (is_taken ship before.plan at.value) free.0;
    }

-- ## The other way

pub spotted_from : (ship : Ship) (cargo : Cargo) (call : ℕ) (before : Standing) (i : ℕ) (g : baplie.CellGroup) (f : Facts) (s : Spot) → IsShip ship → IsCargo cargo → IsFree ship cargo call before g f s → spotted ship cargo call before i g f ≡ Ok s
unfolding spotted
spotted_from ship cargo call before i g f s rules shipped h =
    let cell : ℕ × ℕ × ℕ = (g.bay, g.row, g.tier) in
    let x = h.says.container in
    let at : place_of ship cell ≡ Some s.place = sym (place_told ship cell (Some s.place) h.says.cell (λ p k. ap (λ (n : ℕ). Some n) (number_once ship s.place p cell rules h.says.cell k))) in
    let by : number_of f.id cargo.containers ≡ Some s.container = sym (number_is cargo f.id (Some s.container) shipped (record { container = x; is_container = h.says.is_container; same_id = sym h.says.same_id })) in
    let same : container_at cargo s.container ≡ x = container_is cargo s.container x h.says.is_container in
    let place = h.says.cell.place in
    let is_place = h.says.cell.is_place in
    let length_fits : Takes (place_at ship s.place) x.long = subst (λ (z : Place). Takes z x.long) (sym (place_is ship s.place place is_place)) (h.says.fits place is_place) in
    let fit : fits (place_at ship s.place) (container_at cargo s.container).long false ≡ true =
    ap (λ (c : Container). fits (place_at ship s.place) c.long false) same ∙ fits_shown (place_at ship s.place) x.long false (record { length_fits = length_fits; has_plug = λ e. absurd (both_ways false refl e) }) in
    let port : port_of cargo x.dest ≡ f.dest = get_or_from_slice_get cargo.rotation (x.dest - 1) f.dest [] h.says.discharge in
    let bound_here : is_bound cargo (container_at cargo s.container) f.dest ≡ true =
    ap (λ (c : Container). is_bound cargo c f.dest) same ∙ (bytes_eq-Decides f.dest (port_of cargo x.dest)).1 (sym port) in
    let aboard : is_aboard call (container_at cargo s.container) ≡ true = ap (is_aboard call) same ∙ is_aboard_from call x h.aboard in
    rw (at, by, h.new, fit, h.free, bound_here, aboard) refl
