-- The cargo of the ship as it comes in and of bookings, or the first refusal.
use Rattle.std.specs.Prelude.{◌≡◌, ◌<◌, ◌≤◌, ◌^◌, ℕ, All, List, [], length, IfSome, Option, Some, None, Result, Ok, Err}
use Rattle.stow_data.specs.declared.limits.Limit.TheVariants.{Containers}
use Rattle.stow_data.specs.Ship.{Ship}
use Rattle.stow_data.specs.Shipment.{Cargo}
use Rattle.stow_data.specs.Plans.{Plan}
use Rattle.stowage_rules.specs.declared.faults.RuleBroken.{RuleBroken}
use Rattle.stowage_rules.specs.declared.faults.RuleBroken.TheVariants as rule
use Rattle.stowage_rules.specs.Departure.{HasArrival, IsPlugged, IsSupported, IsTwentyOnTwenty}
use Rattle.stowage_rules.specs.Faults.{IsFirstFault}
use Rattle.toml_values.specs.Values.{◌>>=◌}
use Rattle.bookings.specs.declared.shipment.Bookings.{Bookings}
use Rattle.baplie.specs.declared.parts.CellGroup.{CellGroup}
use Rattle.baplie.specs.declared.parts.Message.{Message}
use Rattle.arrival_plan.specs.declared.faults.ArrivalFault.{ArrivalFault}
use Rattle.arrival_plan.specs.declared.faults.ArrivalFault.TheVariants as fault
use Rattle.arrival_plan.specs.Arriving.{arriving, cargo_with}

-- the cell groups of a bay plan; none where there is no bay plan
abbrev pub groups_of : Option Message → List CellGroup
groups_of None = []
groups_of (Some m) = m.groups

-- what holds of the groups of every bay plan that is read from a file
pub record AreRead (groups : List CellGroup) : Type 0 where
  pub few : length groups ≤ 2 ^ 29
  pub weights : All (λ g. IfSome g.facts (λ f. f.kg ≤ 99999)) groups

-- a rule that what stands aboard at arrival has to keep: support, twenty on forty foot, plugs
abbrev pub IsAsked : RuleBroken → Type 0
IsAsked (rule.Support h) = Unit {0}
IsAsked (rule.TwentyOnForty h) = Unit {0}
IsAsked (rule.NoPlug p) = Unit {0}
IsAsked (rule.StackWeight s kg) = ⊥
IsAsked (rule.Separation e p q) = ⊥

-- the plan keeps these three rules
pub record KeepsAsked (ship : Ship) (cargo : Cargo) (plan : Plan) : Type 0 where
  pub supported : IsSupported ship plan
  pub twenty : IsTwentyOnTwenty ship cargo plan
  pub plugged : IsPlugged ship cargo plan

-- the cargo of the groups and the bookings, be it legal or not, or a group's fault
abbrev pub told : Ship → Bookings → List CellGroup → Result Cargo ArrivalFault
told ship bookings groups = arriving ship bookings groups >>= λ s. Ok (cargo_with ship bookings s)

-- what stands aboard breaks this rule first
pub record IsBroken (ship : Ship) (bookings : Bookings) (groups : List CellGroup) (r : RuleBroken) : Type 0 where
  pub cargo : Cargo
  pub is_told : told ship bookings groups ≡ Ok cargo
  pub asked : IsAsked r
  pub first : IsFirstFault ship cargo cargo.arrival r

-- it breaks none, and there are so many containers, which are too many
pub record AreTooMany (ship : Ship) (bookings : Bookings) (groups : List CellGroup) (n : ℕ) : Type 0 where
  pub cargo : Cargo
  pub is_told : told ship bookings groups ≡ Ok cargo
  pub legal : HasArrival ship cargo
  pub count : n ≡ length cargo.containers
  pub many : 2000 < n

-- The cargo has at most 2,000 containers, and what stands aboard at arrival keeps the rules of support, of twenty on
-- forty foot and of plugs. Else the first refusal: a group's, then a broken rule, then the limit. A stack weight or a
-- separation that the arrival breaks is not refused.
abbrev pub Settles : Ship → Bookings → List CellGroup → Result Cargo ArrivalFault → Type 0
Settles ship bookings groups (Ok cargo) = (told ship bookings groups ≡ Ok cargo) × HasArrival ship cargo × (length cargo.containers ≤ 2000)
Settles ship bookings groups (Err (fault.NoSuchCell g)) = told ship bookings groups ≡ Err (fault.NoSuchCell g)
Settles ship bookings groups (Err (fault.WrongLength g)) = told ship bookings groups ≡ Err (fault.WrongLength g)
Settles ship bookings groups (Err (fault.Twice id)) = told ship bookings groups ≡ Err (fault.Twice id)
Settles ship bookings groups (Err (fault.NotInRotation g)) = told ship bookings groups ≡ Err (fault.NotInRotation g)
Settles ship bookings groups (Err (fault.CellTaken g)) = told ship bookings groups ≡ Err (fault.CellTaken g)
Settles ship bookings groups (Err (fault.Rule r)) = IsBroken ship bookings groups r
Settles ship bookings groups (Err (fault.TooLarge limit n)) = (limit ≡ Containers) × AreTooMany ship bookings groups n
Settles ship bookings groups (Err fault.NoMemory) = Unit {0}
