-- Moves with the containers that they lift or put: what each touches, and when two may be done in either order.
use Rattle.std.specs.Prelude.{◌≡◌, ◌⊎◌, ℕ, List, [], ◌∷◌, Option, Some, None, slice_set}
use Rattle.stow_data.specs.Ship.{Ship, LiesUnder, StandsOn}
use Rattle.stow_data.specs.Shipment.{Cargo}
use Rattle.stow_data.specs.Plans.{Plan, place_at, held}
use Rattle.voyage_meaning.specs.declared.moves.Move.{Move}
use Rattle.voyage_meaning.specs.declared.moves.Move.TheVariants.{OffCover, OnCover, Lift, Put}
use Rattle.voyage_meaning.specs.Moves.{State, Allowed, after}
use Rattle.crane_lists.specs.declared.tasks.Task.{Task}

-- the stack of a place by number
abbrev pub stack_of : Ship → ℕ → ℕ
stack_of ship p = (place_at ship p).stack

-- the cover is over or under the stack
abbrev pub IsCoverOf : Ship → ℕ → ℕ → Type 0
IsCoverOf ship s k = LiesUnder ship s k ⊎ StandsOn ship s k

-- a lift or put touches its stack, a cover move all stacks of its cover
abbrev pub Touches : Ship → Move → ℕ → Type 0
Touches ship (Lift p) s = s ≡ stack_of ship p
Touches ship (Put c p) s = s ≡ stack_of ship p
Touches ship (OffCover k) s = IsCoverOf ship s k
Touches ship (OnCover k) s = IsCoverOf ship s k

-- the cover that a move names
abbrev pub cover_of : Move → Option ℕ
cover_of (Lift p) = None
cover_of (Put c p) = None
cover_of (OffCover k) = Some k
cover_of (OnCover k) = Some k

-- the container that a move lifts or puts where this is the plan
abbrev pub named_in : Plan → Move → Option ℕ
named_in plan (Lift p) = held plan p
named_in plan (Put c p) = Some c
named_in plan (OffCover k) = None
named_in plan (OnCover k) = None

-- the plan after a move
abbrev pub carried_out : Plan → Move → Plan
carried_out plan (Lift p) = slice_set plan p None
carried_out plan (Put c p) = slice_set plan p (Some c)
carried_out plan (OffCover k) = plan
carried_out plan (OnCover k) = plan

-- what moves lift or put, one after the other
abbrev pub named_from : Plan → List Move → List (Option ℕ)
named_from plan [] = []
named_from plan (m ∷ ms) = named_in plan m ∷ named_from (carried_out plan m) ms

-- the same in a state
abbrev pub named : State → Move → Option ℕ
named s m = named_in s.plan m

-- two tasks touch no common stack, and name no common container and no common cover
pub record AreIndependent (ship : Ship) (t u : Task) : Type 0 where
  pub no_stack : (s : ℕ) → Touches ship t.step s → Touches ship u.step s → ⊥
  pub no_container : (c : ℕ) → t.container ≡ Some c → u.container ≡ Some c → ⊥
  pub no_cover : (k : ℕ) → cover_of t.step ≡ Some k → cover_of u.step ≡ Some k → ⊥

-- the task may be done: its move is allowed, and it names the container that it lifts or puts
pub record CanDo (ship : Ship) (cargo : Cargo) (s : State) (t : Task) : Type 0 where
  pub allowed : Allowed ship cargo s t.step
  pub names : named s t.step ≡ t.container

-- each task of a list may be done where it stands
abbrev pub CanDoAll : Ship → Cargo → ℕ → State → List Task → Type 0
CanDoAll ship cargo call s [] = Unit {0}
CanDoAll ship cargo call s (t ∷ ts) = CanDo ship cargo s t × CanDoAll ship cargo call (after cargo call s t.step) ts

-- the state after all of them
abbrev pub state_after : Cargo → ℕ → State → List Task → State
state_after cargo call s [] = s
state_after cargo call s (t ∷ ts) = state_after cargo call (after cargo call s t.step) ts

-- t then u may be done, and so may u then t, with the same state at the end
pub record Commute (ship : Ship) (cargo : Cargo) (call : ℕ) (s : State) (t u : Task) : Type 0 where
  pub sooner : CanDo ship cargo s u
  pub later : CanDo ship cargo (after cargo call s u.step) t
  pub same : after cargo call (after cargo call s t.step) u.step ≡ after cargo call (after cargo call s u.step) t.step

-- the tasks of a list of moves: each with what it lifts or puts where it stands
abbrev pub tasks_of : Cargo → ℕ → State → List Move → List Task
tasks_of cargo call s [] = []
tasks_of cargo call s (m ∷ ms) = record { step = m; container = named s m } ∷ tasks_of cargo call (after cargo call s m) ms

-- moves with a list of what each lifts or puts
abbrev pub tasks_with : List Move → List (Option ℕ) → List Task
tasks_with [] cs = []
tasks_with (m ∷ ms) [] = []
tasks_with (m ∷ ms) (c ∷ cs) = record { step = m; container = c } ∷ tasks_with ms cs

-- the moves of tasks
abbrev pub moves_in : List Task → List Move
moves_in [] = []
moves_in (t ∷ ts) = t.step ∷ moves_in ts
