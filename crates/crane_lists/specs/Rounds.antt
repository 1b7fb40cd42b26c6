-- Crane lists: the tasks of a list shared out to cranes, round by round.
use Rattle.std.specs.Prelude.{◌≡◌, ◌≢◌, ◌⊎◌, ◌↔◌, ℕ, ◌+◌, ◌≤◌, ◌<◌, List, [], ◌∷◌, ◌++◌, Option, Some, None, length, map, slice_index_or}
use Rattle.stow_data.specs.Ship.{Ship}
use Rattle.voyage_meaning.specs.declared.moves.Move.{Move}
use Rattle.voyage_meaning.specs.declared.moves.Move.TheVariants.{OffCover, OnCover, Lift, Put}
use Rattle.stow_data.specs.Shipment.{Cargo}
use Rattle.voyage_meaning.specs.Moves.{State}
use Rattle.crane_lists.specs.declared.tasks.Task.{Task}
use Rattle.crane_lists.specs.Tasks.{AreIndependent, CanDoAll, state_after}
use Rattle.crane_lists.specs.Bays.{bay_of_move}

-- something holds of each item of a list
abbrev pub Every : {X : Type 0} → (X → Type 0) → List X → Type 0
Every P [] = Unit {0}
Every P (x ∷ xs) = P x × Every P xs

-- something holds of each item and each later one
abbrev pub EachPair : {X : Type 0} → (X → X → Type 0) → List X → Type 0
EachPair R [] = Unit {0}
EachPair R (x ∷ xs) = Every (R x) xs × EachPair R xs

-- an item is in a list
abbrev pub In : {X : Type 0} → X → List X → Type 0
In x [] = ⊥
In x (y ∷ ys) = (x ≡ y) ⊎ In x ys

-- all rounds, one after the other
abbrev pub joined : List (List ℕ) → List ℕ
joined [] = []
joined (r ∷ rs) = r ++ joined rs

-- what stands for a place past the end of the list
abbrev pub no_task : Task
no_task = record { step = OffCover 0; container = None }

-- the task at a place of the list
abbrev pub task_at : List Task → ℕ → Task
task_at ts i = slice_index_or ts i no_task

-- its bay
abbrev pub bay_at : Ship → List Task → ℕ → ℕ
bay_at ship ts i = bay_of_move ship (task_at ts i).step

-- a round: one task for each crane at most, and one at least, by rising bay, one whole bay between two, and none hinders another
pub record IsRound (ship : Ship) (ts : List Task) (cranes : ℕ) (round : List ℕ) : Type 0 where
  pub some : 1 ≤ length round
  pub few : length round ≤ cranes
  pub apart : EachPair (λ i j. bay_at ship ts i + 8 ≤ bay_at ship ts j) round
  pub free : EachPair (λ i j. AreIndependent ship (task_at ts i) (task_at ts j)) round

-- tasks of this round and of that one that aren't independent keep their order
abbrev pub KeepOrder : Ship → List Task → List ℕ → List ℕ → Type 0
KeepOrder ship ts round later = (i j : ℕ) → In i round → In j later → (AreIndependent ship (task_at ts i) (task_at ts j) → ⊥) → i < j

-- a crane list of the tasks for so many cranes: each task, by its place, stands in exactly one round
pub record IsCraneList (ship : Ship) (ts : List Task) (cranes : ℕ) (rounds : List (List ℕ)) : Type 0 where
  pub each : (i : ℕ) → i < length ts ↔ In i (joined rounds)
  pub once : EachPair (λ i j. i ≢ j) (joined rounds)
  pub shared : Every (IsRound ship ts cranes) rounds
  pub in_order : EachPair (KeepOrder ship ts) rounds

-- the round in any order
pub record IsReordered (round now : List ℕ) : Type 0 where
  pub once : EachPair (λ i j. i ≢ j) now
  pub same : (i : ℕ) → In i round ↔ In i now

-- an order in which all is done: round by round, and in any order within a round
abbrev pub IsOrderOf : List (List ℕ) → List ℕ → Type 0
IsOrderOf [] order = order ≡ []
IsOrderOf (r ∷ rs) order = (now later : List ℕ) × (order ≡ now ++ later) × IsReordered r now × IsOrderOf rs later

-- the tasks in an order of their places
abbrev pub picked : List Task → List ℕ → List Task
picked ts order = map (task_at ts) order

-- what a move weighs by the container that it lifts
abbrev pub lift_weight : (ℕ → ℕ) → Move → Option ℕ → ℕ
lift_weight h (Lift p) (Some c) = h c
lift_weight h (Lift p) None = 0
lift_weight h (Put c p) b = 0
lift_weight h (OffCover k) b = 0
lift_weight h (OnCover k) b = 0

-- the containers that tasks lift, as a bag: what they weigh by a weight
abbrev pub lifted_weight : (ℕ → ℕ) → List Task → ℕ
lifted_weight h [] = 0
lifted_weight h (t ∷ ts) = lift_weight h t.step t.container + lifted_weight h ts

-- done in an order, the tasks may be done, end in the same state, and lift the same bag of containers
pub record IsSameWork (ship : Ship) (cargo : Cargo) (call : ℕ) (s : State) (ts us : List Task) : Type 0 where
  pub can : CanDoAll ship cargo call s us
  pub ends : state_after cargo call s us ≡ state_after cargo call s ts
  pub lifts : (h : ℕ → ℕ) → lifted_weight h us ≡ lifted_weight h ts

-- why a task isn't in a round, where `done` are those of the rounds before: one before it in the list, on which it hangs, isn't done; the round is full; or one of the round is in a bay too near
abbrev pub HasCause : Ship → List Task → ℕ → List ℕ → List ℕ → ℕ → Type 0
HasCause ship ts cranes done round j =
    ((i : ℕ) × (i < j) × (AreIndependent ship (task_at ts i) (task_at ts j) → ⊥) × (In i done → ⊥))
    ⊎ ((length round ≡ cranes) ⊎ ((i : ℕ) × In i round × (bay_at ship ts i < bay_at ship ts j + 8) × (bay_at ship ts j < bay_at ship ts i + 8)))

-- no task of a later round than one could have been in that round
abbrev pub IsGreedy : Ship → List Task → ℕ → List ℕ → List (List ℕ) → Type 0
IsGreedy ship ts cranes done [] = Unit {0}
IsGreedy ship ts cranes done (r ∷ rs) = ((j : ℕ) → In j (joined rs) → HasCause ship ts cranes done r j) × IsGreedy ship ts cranes (done ++ r) rs
