-- Which faults a group has.
use Rattle.std.proofs.Common.{◌≡◌, ℕ, ◌+◌, Bool, true, false, List, [], ◌∷◌, Option, Some, None, Result, Ok, Err, refl, ap, subst}
use Rattle.std.specs.Prelude.{not, ok_or}
use Rattle.std.specs.Result.{result_err}
use Rattle.std.proofs.lemmas.Option.{none-some, same_Some}
use Rattle.stow_data.specs.Ship.{Ship, fits}
use Rattle.stow_data.specs.Plans.{place_at}
use Rattle.toml_values.specs.Values.{◌>>=◌}
use Rattle.bookings.specs.declared.shipment.Bookings.{Bookings}
use Rattle.baplie.specs.declared.parts.CellGroup.{CellGroup}
use Rattle.baplie.specs.declared.parts.Facts.{Facts}
use Rattle.arrival_plan.specs.declared.faults.ArrivalFault.{ArrivalFault}
use Rattle.arrival_plan.specs.declared.faults.ArrivalFault.TheVariants.{NoSuchCell, WrongLength, Twice, NotInRotation, CellTaken, Rule, TooLarge, NoMemory}
use Rattle.arrival_plan.specs.declared.stowage.Stowage.{Stowage}
use Rattle.arrival_plan.specs.Cells.{first_call, is_taken, place_of}
use Rattle.arrival_plan.specs.Ids.{is_named}
use Rattle.arrival_plan.specs.Arriving.{container_of, ensure, placed, with_facts, with_groups, with_placed}

-- a fault of one group
abbrev pub IsOfGroup : ArrivalFault → Type 0
IsOfGroup (NoSuchCell g) = Unit {0}
IsOfGroup (WrongLength g) = Unit {0}
IsOfGroup (Twice id) = Unit {0}
IsOfGroup (NotInRotation g) = Unit {0}
IsOfGroup (CellTaken g) = Unit {0}
IsOfGroup (Rule r) = ⊥
IsOfGroup (TooLarge limit n) = ⊥
IsOfGroup NoMemory = ⊥

abbrev err : {A : Type 0} → ArrivalFault → Result A ArrivalFault
err e = Err e

same_err : {A : Type 0} (d e : ArrivalFault) → err {A = A} d ≡ Err e → d ≡ e
same_err {A} d e h = same_Some d e (ap (λ (r : Result A ArrivalFault). result_err r) h)

ok_is_no_err : {A : Type 0} (x : A) (e : ArrivalFault) → Ok x ≡ err e → ⊥
ok_is_no_err {A} x e h = none-some e (ap (λ (r : Result A ArrivalFault). result_err r) h)

-- each fault of a result is one of a group
abbrev HasKind : {A : Type 0} → Result A ArrivalFault → Type 0
HasKind r = (e : ArrivalFault) → r ≡ Err e → IsOfGroup e

then : {A B : Type 0} (r : Result A ArrivalFault) (f : A → Result B ArrivalFault) → HasKind r → ((x : A) → HasKind (f x)) → HasKind (r >>= f)
then (Ok x) f h k e is = k x e is
then {A} {B} (Err d) f h k e is = subst IsOfGroup (same_err {A = B} d e is) (h d refl)

fine : {A : Type 0} (x : A) → HasKind (Ok x)
fine x e is = absurd (ok_is_no_err x e is)

wanted : {A : Type 0} (o : Option A) (fault : ArrivalFault) → IsOfGroup fault → HasKind (ok_or o fault)
wanted (Some x) fault h e is = absurd (ok_is_no_err x e is)
wanted {A} None fault h e is = subst IsOfGroup (same_err {A = A} fault e is) h

ensured : (so : Bool) (fault : ArrivalFault) → IsOfGroup fault → HasKind (ensure so fault)
ensured true fault h e is = absurd (ok_is_no_err tt e is)
ensured false fault h e is = subst IsOfGroup (same_err {A = Unit {0}} fault e is) h

placed_kind : (ship : Ship) (bookings : Bookings) (before : Stowage) (i : ℕ) (g : CellGroup) (f : Facts) → HasKind (placed ship bookings before i g f)
unfolding placed
placed_kind ship bookings before i g f =
    then (ok_or (place_of ship (g.bay, g.row, g.tier)) (NoSuchCell (i + 1))) _ (wanted _ _ tt) (λ place.
    then (ensure (fits (place_at ship place) f.long false) (WrongLength (i + 1))) _ (ensured _ _ tt) (λ fit.
    then (ensure (not (is_named f.id bookings.containers before.containers)) (Twice f.id)) _ (ensured _ _ tt) (λ once.
    then (ok_or (first_call f.dest bookings.rotation) (NotInRotation (i + 1))) _ (wanted _ _ tt) (λ call.
    then (ensure (not (is_taken ship before.plan place)) (CellTaken (i + 1))) _ (ensured _ _ tt) (λ free.
    fine (record { place = place; container = container_of i f call }))))))

facts_kind : (ship : Ship) (bookings : Bookings) (before : Stowage) (i : ℕ) (g : CellGroup) (o : Option Facts) → HasKind (with_facts ship bookings before i g o)
facts_kind ship bookings before i g None = fine before
facts_kind ship bookings before i g (Some f) = then (placed ship bookings before i g f) (λ p. Ok (with_placed before p)) (placed_kind ship bookings before i g f) (λ p. fine (with_placed before p))

pub groups_kind : (ship : Ship) (bookings : Bookings) (before : Stowage) (i : ℕ) (gs : List CellGroup) → HasKind (with_groups ship bookings before i gs)
unfolding with_groups
groups_kind ship bookings before i [] = fine before
groups_kind ship bookings before i (g ∷ gs) = then (with_facts ship bookings before i g g.facts) (λ s. with_groups ship bookings s (i + 1) gs) (facts_kind ship bookings before i g g.facts) (λ s. groups_kind ship bookings s (i + 1) gs)
