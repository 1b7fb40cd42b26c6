-- The answer of the whole, from its parts.
use Rattle.std.proofs.Common.{◌≡◌, ◌≢◌, ℕ, ◌<◌, ◌≤◌, List, length, Ok, Err, refl, sym, ap, subst}
use Rattle.stow_data.specs.declared.limits.Limit.TheVariants.{Containers}
use Rattle.stow_data.specs.Profile.{IsShip}
use Rattle.stow_data.specs.Ship.{Ship}
use Rattle.stow_data.specs.Shipment.{Cargo, IsCargo}
use Rattle.stowage_rules.specs.declared.faults.RuleBroken.{RuleBroken}
use Rattle.stowage_rules.specs.Plan.{IsWellFormed}
use Rattle.stowage_rules.specs.Departure.{HasArrival}
use Rattle.stowage_rules.specs.Faults.{IsFirstFault}
use Rattle.bookings.specs.declared.shipment.Bookings.{Bookings}
use Rattle.bookings.specs.Rules.{IsBookings}
use Rattle.baplie.specs.declared.parts.CellGroup.{CellGroup}
use Rattle.arrival_plan.specs.declared.faults.ArrivalFault.{ArrivalFault}
use Rattle.arrival_plan.specs.declared.faults.ArrivalFault.TheVariants.{NoSuchCell, WrongLength, Twice, NotInRotation, CellTaken, Rule, TooLarge, NoMemory}
use Rattle.arrival_plan.specs.declared.stowage.Stowage.{Stowage}
use Rattle.arrival_plan.specs.Arriving.{arriving, cargo_with, nothing}
use Rattle.arrival_plan.specs.Settled.{AreRead, IsAsked, KeepsAsked, Settles, told}
use Rattle.arrival_plan.proofs.GroupFaults.{IsOfGroup, groups_kind}
use Rattle.arrival_plan.proofs.Legal.{arrival_formed, arrives, cargo_obeys, told_sound}

module _ (ship : Ship) (bookings : Bookings) (groups : List CellGroup) where
  -- a group's fault
  pub fault_settles : (e : ArrivalFault) → (e ≢ NoMemory → arriving ship bookings groups ≡ Err e) → Settles ship bookings groups (Err e)
  fault_settles e said = by_kind e said (λ h. groups_kind ship bookings (nothing ship) 0 groups e h)
    where
      told_fault : (e : ArrivalFault) → arriving ship bookings groups ≡ Err e → told ship bookings groups ≡ Err e
      told_fault e h = rw h refl

      by_kind : (e : ArrivalFault) → (e ≢ NoMemory → arriving ship bookings groups ≡ Err e) → (arriving ship bookings groups ≡ Err e → IsOfGroup e) → Settles ship bookings groups (Err e)
      by_kind (NoSuchCell g) h k = told_fault (NoSuchCell g) (h (λ e. cc))
      by_kind (WrongLength g) h k = told_fault (WrongLength g) (h (λ e. cc))
      by_kind (Twice id) h k = told_fault (Twice id) (h (λ e. cc))
      by_kind (NotInRotation g) h k = told_fault (NotInRotation g) (h (λ e. cc))
      by_kind (CellTaken g) h k = told_fault (CellTaken g) (h (λ e. cc))
      by_kind (Rule r) h k = absurd (k (h (λ e. cc)))
      by_kind (TooLarge limit n) h k = absurd (k (h (λ e. cc)))
      by_kind NoMemory h k = tt

  module _ (rules : IsBookings bookings) (read : AreRead groups) (s : Stowage) (said : arriving ship bookings groups ≡ Ok s) where
    pub obeys : IsShip ship → IsCargo (cargo_with ship bookings s)
    obeys lawful = cargo_obeys ship bookings rules s (told_sound ship bookings groups s read said) lawful

    module _ (cargo : Cargo) (is : cargo ≡ cargo_with ship bookings s) where
      pub is_told : told ship bookings groups ≡ Ok cargo
      is_told = rw said (ap (λ (c : Cargo). Ok c) (sym is))

      pub formed : IsWellFormed ship cargo cargo.arrival
      formed = subst (λ (c : Cargo). IsWellFormed ship c c.arrival) (sym is) (arrival_formed ship bookings rules s (told_sound ship bookings groups s read said))

      pub legal : KeepsAsked ship cargo cargo.arrival → HasArrival ship cargo
      legal keeps = subst (λ (c : Cargo). HasArrival ship c) (sym is) (arrives ship bookings rules s (told_sound ship bookings groups s read said) (subst (λ (c : Cargo). KeepsAsked ship c c.arrival) is keeps))

      pub broken : (r : RuleBroken) → IsAsked r → IsFirstFault ship cargo cargo.arrival r → Settles ship bookings groups (Err (Rule r))
      broken r asked first = record { cargo = cargo; is_told = is_told; asked = asked; first = first }

      pub too_many : (n : ℕ) → KeepsAsked ship cargo cargo.arrival → n ≡ length cargo.containers → 2000 < n → Settles ship bookings groups (Err (TooLarge Containers n))
      too_many n keeps count many = (refl, record { cargo = cargo; is_told = is_told; legal = legal keeps; count = count; many = many })

      pub settled : KeepsAsked ship cargo cargo.arrival → length cargo.containers ≤ 2000 → Settles ship bookings groups (Ok cargo)
      settled keeps few = (is_told, legal keeps, few)
