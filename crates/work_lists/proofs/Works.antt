-- The rounds of a call's moves as a work list.
use Rattle.std.proofs.Common.{◌≡◌, ℕ, suc, ◌+◌, ◌-◌, ◌<◌, ◌≤◌, List, [], ◌∷◌, Some, length, refl, sym, ap, subst, ◌∙◌, arith}
use Rattle.std.specs.Prelude.{slice_get}
use Rattle.stow_data.specs.Ship.{Ship}
use Rattle.stow_data.specs.Shipment.{Cargo}
use Rattle.stow_data.specs.Plans.{Plan}
use Rattle.voyage_meaning.specs.declared.moves.Move.{Move}
use Rattle.voyage_meaning.specs.Moves.{State, after}
use Rattle.voyage_meaning.specs.Voyage.{IsVoyage, LeadsTo, start}
use Rattle.crane_lists.specs.declared.tasks.Task.{Task}
use Rattle.crane_lists.specs.Tasks.{moves_in, tasks_of}
use Rattle.crane_lists.specs.Rounds.{IsCraneList, IsGreedy, IsOrderOf, picked}
use Rattle.crane_lists.specs.Least.{IsLeastRounds}
use Rattle.plan_lifts.specs.Least.{IsLeastClosed}
use Rattle.plan_lifts.specs.Lifted.{AreLifted, LiftEachExactly, LiftsExactly}
use Rattle.work_lists.specs.WorkLists.{AreRounds, DoesWork, IsLeast, LeadsAt, LiftsLeast, MustLift, departure_of, tasks_at}
use Rattle.work_lists.proofs.Led.{as_many, least_led, led}

-- the moves of the tasks of moves are these
their_moves : (cargo : Cargo) (call : ℕ) (s : State) (moves : List Move) → moves_in (tasks_of cargo call s moves) ≡ moves
their_moves cargo call s [] = refl
their_moves cargo call s (m ∷ ms) = ap (λ (xs : List Move). m ∷ xs) (their_moves cargo call (after cargo call s m) ms)

-- what the laws of crane lists say
abbrev KeepsLead : Type 0
KeepsLead = (ship : Ship) (cargo : Cargo) (call : ℕ) (before : Plan) (moves : List Move) (new : Plan) (cranes : ℕ) (rounds : List (List ℕ)) (order : List ℕ) → LeadsTo ship cargo call before moves new → IsCraneList ship (tasks_of cargo call (start ship cargo call before) moves) cranes rounds → IsOrderOf rounds order
    → LeadsTo ship cargo call before (moves_in (picked (tasks_of cargo call (start ship cargo call before) moves) order)) new

abbrev KeepsLifts : Type 0
KeepsLifts = (ship : Ship) (cargo : Cargo) (call : ℕ) (before : Plan) (moves : List Move) (new : Plan) (list : List ℕ) (cranes : ℕ) (rounds : List (List ℕ)) (order : List ℕ) → LeadsTo ship cargo call before moves new → LiftsExactly cargo call (start ship cargo call before) moves list
    → IsCraneList ship (tasks_of cargo call (start ship cargo call before) moves) cranes rounds → IsOrderOf rounds order → LiftsExactly cargo call (start ship cargo call before) (moves_in (picked (tasks_of cargo call (start ship cargo call before) moves) order)) list

abbrev LeastBounds : Type 0
LeastBounds = (ship : Ship) (ts : List Task) (cranes : ℕ) (rounds : List (List ℕ)) (least : ℕ) → IsLeastRounds ship (moves_in ts) cranes least → IsCraneList ship ts cranes rounds → least ≤ length rounds

module _ (ship : Ship) (cargo : Cargo) (plans : List Plan) (call cranes : ℕ) (moves : List Move) where
  abbrev before : Plan
  before = departure_of cargo plans (call - 1)

  abbrev now : Plan
  now = departure_of cargo plans call

  abbrev begins : State
  begins = start ship cargo call before

  pub are_rounds : KeepsLead → KeepsLifts → LeadsAt ship cargo plans call moves → LiftsLeast ship cargo plans call moves → (rounds : List (List ℕ)) → IsCraneList ship (tasks_at ship cargo plans call moves) cranes rounds → IsGreedy ship (tasks_at ship cargo plans call moves) cranes [] rounds
      → AreRounds ship cargo plans call cranes moves rounds
  are_rounds keeps lifts leads least rounds list greedy = record {
    is_list = list;
    greedy = greedy;
    any_order = λ order is. record {
      leads = keeps ship cargo call before moves now cranes rounds order leads list is;
      lifts = record { list = least.list; must = least.must; exact = lifts ship cargo call before moves now least.list cranes rounds order leads least.exact list is };
    };
  }

  pub is_least : LeastBounds → (least : ℕ) → IsLeastRounds ship moves cranes least → IsLeast ship cargo plans call cranes moves least
  is_least bounds least h = record {
    is_least = h;
    bounds = λ others list. bounds ship (tasks_at ship cargo plans call moves) cranes others least (subst (λ (ms : List Move). IsLeastRounds ship ms cranes least) (sym (their_moves cargo call begins moves)) h) list;
  }

-- the moves of a call of a legal voyage
pub leads_at : (ship : Ship) (cargo : Cargo) (voyage : List (List Move)) (plans : List Plan) (call : ℕ) (moves : List Move) → IsVoyage ship cargo 1 cargo.arrival voyage plans → 1 ≤ call → slice_get voyage (call - 1) ≡ Some moves → LeadsAt ship cargo plans call moves
leads_at ship cargo voyage plans call moves h from is =
    let e : suc (call - 1) ≡ call = omega (arith, from) in
    let f : 1 + (call - 1) ≡ call = omega (arith, from) in
    let at = led ship cargo 1 cargo.arrival voyage plans (call - 1) moves h is in
    subst (λ (n : ℕ). LeadsTo ship cargo call (departure_of cargo plans (call - 1)) moves (departure_of cargo plans n)) e
    (subst (λ (n : ℕ). LeadsTo ship cargo n (departure_of cargo plans (call - 1)) moves (departure_of cargo plans (suc (call - 1)))) f at)

-- they lift what must be lifted at it
pub least_at : (ship : Ship) (cargo : Cargo) (voyage : List (List Move)) (plans : List Plan) (lists : List (List ℕ)) (call : ℕ) (moves : List Move) → AreLifted ship cargo.arrival plans lists → LiftEachExactly ship cargo 1 cargo.arrival voyage plans lists → 1 ≤ call → slice_get voyage (call - 1) ≡ Some moves
    → LiftsLeast ship cargo plans call moves
least_at ship cargo voyage plans lists call moves lifted exact from is =
    let e : suc (call - 1) ≡ call = omega (arith, from) in
    let f : 1 + (call - 1) ≡ call = omega (arith, from) in
    let at = least_led ship cargo 1 cargo.arrival voyage plans lifted.sets lists (call - 1) moves lifted.least lifted.listed exact is in
    record {
      list = at.0;
      must = record {
        set = at.1;
        is_least = subst (λ (n : ℕ). IsLeastClosed ship (departure_of cargo plans (call - 1)) (departure_of cargo plans n) at.1) e at.2;
        listed = at.3;
      };
      exact = subst (λ (n : ℕ). LiftsExactly cargo n (start ship cargo n (departure_of cargo plans (call - 1))) moves at.0) f at.4;
    }

-- there are moves for each call before the last
pub within : (ship : Ship) (cargo : Cargo) (voyage : List (List Move)) (plans : List Plan) (call : ℕ) → IsVoyage ship cargo 1 cargo.arrival voyage plans → call ≤ length plans → call ≤ length voyage
within ship cargo voyage plans call h to =
    let many : length voyage ≡ length plans = as_many ship cargo 1 cargo.arrival voyage plans h in
    omega (arith, many, to)
