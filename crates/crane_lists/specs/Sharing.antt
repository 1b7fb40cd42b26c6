-- How rounds are made, one after the other, and what is kept between them.
use Rattle.std.specs.Prelude.{◌≡◌, ◌≢◌, ◌⊎◌, ◌↔◌, ℕ, suc, ◌+◌, ◌≤◌, ◌<◌, Bool, true, false, cond, nat_lt, List, [], ◌∷◌, ◌++◌, All, length, slice_get, slice_index_or, Some}
use Rattle.stow_data.specs.Ship.{Ship}
use Rattle.crane_lists.specs.declared.tasks.Task.{Task}
use Rattle.crane_lists.specs.declared.rounds.Board.{Board}
use Rattle.crane_lists.specs.Tasks.{AreIndependent}
use Rattle.crane_lists.specs.Rounds.{Every, EachPair, In, joined, task_at, bay_at, HasCause, IsRound, KeepOrder}

-- whether a flag is set; that of a number past the end isn't
abbrev pub is_set : List Bool → ℕ → Bool
is_set flags n = slice_index_or flags n false

-- task i doesn't hold task j up: they are independent, or i stands in a round
abbrev pub IsSettled : Ship → List Task → List Bool → ℕ → ℕ → Type 0
IsSettled ship ts done i j = AreIndependent ship (task_at ts i) (task_at ts j) ⊎ (is_set done i ≡ true)

-- task i holds task j up
pub record Holds (ship : Ship) (ts : List Task) (done : List Bool) (i j : ℕ) : Type 0 where
  pub hangs : AreIndependent ship (task_at ts i) (task_at ts j) → ⊥
  pub waits : is_set done i ≡ false

-- of a task before j, that it holds j up
pub record HoldsFrom (ship : Ship) (ts : List Task) (done : List Bool) (j i : ℕ) : Type 0 where
  pub before : i < j
  pub holds : Holds ship ts done i j

-- the lists have an entry for each task, and none of the first tasks, as many as a number says, holds its task up
pub record IsBoard (ship : Ship) (ts : List Task) (done : List Bool) (clear_to : List ℕ) : Type 0 where
  pub each_flag : length done ≡ length ts
  pub each_number : length clear_to ≡ length ts
  pub inside : (j n : ℕ) → slice_get clear_to j ≡ Some n → n ≤ j
  pub settled : (j n i : ℕ) → slice_get clear_to j ≡ Some n → i < n → IsSettled ship ts done i j

-- the task may go: it stands in no round, and none before it holds it up
pub record MayGo (ship : Ship) (ts : List Task) (done : List Bool) (j : ℕ) : Type 0 where
  pub inside : j < length ts
  pub waits : is_set done j ≡ false
  pub settled : (i : ℕ) → i < j → IsSettled ship ts done i j

-- it may not: it stands in a round, or one before it holds it up
abbrev pub MayNotGo : Ship → List Task → List Bool → ℕ → Type 0
MayNotGo ship ts done j = (is_set done j ≡ true) ⊎ ((i : ℕ) × HoldsFrom ship ts done j i)

-- their bays differ by at least 8, or by less
abbrev pub IsFar : Ship → List Task → ℕ → ℕ → Type 0
IsFar ship ts j i = (bay_at ship ts i + 8 ≤ bay_at ship ts j) ⊎ (bay_at ship ts j + 8 ≤ bay_at ship ts i)

pub record IsNear (ship : Ship) (ts : List Task) (j i : ℕ) : Type 0 where
  pub below : bay_at ship ts i < bay_at ship ts j + 8
  pub above : bay_at ship ts j < bay_at ship ts i + 8

-- at how many tasks of a round a task enters it, by rising bay
abbrev pub place_for : Ship → List Task → ℕ → List ℕ → ℕ
place_for ship ts j [] = 0
place_for ship ts j (i ∷ is) = cond (nat_lt (bay_at ship ts i) (bay_at ship ts j)) (suc (place_for ship ts j is)) 0

-- the round with the task
abbrev pub entered : Ship → List Task → ℕ → List ℕ → List ℕ
entered ship ts j [] = j ∷ []
entered ship ts j (i ∷ is) = cond (nat_lt (bay_at ship ts i) (bay_at ship ts j)) (i ∷ entered ship ts j is) (j ∷ (i ∷ is))

-- a task was tried: it may not go, it is in the round, or the round is full or has one too near
abbrev pub WasTried : Ship → List Task → ℕ → List Bool → List ℕ → ℕ → Type 0
WasTried ship ts cranes done round j = MayNotGo ship ts done j ⊎ (In j round ⊎ ((cranes ≤ length round) ⊎ ((i : ℕ) × In i round × IsNear ship ts j i)))

-- a round in the making, when some tasks were tried
pub record IsMaking (ship : Ship) (ts : List Task) (cranes : ℕ) (done : List Bool) (tried round : List ℕ) : Type 0 where
  pub few : length round ≤ cranes
  pub apart : EachPair (λ i j. bay_at ship ts i + 8 ≤ bay_at ship ts j) round
  pub may : Every (MayGo ship ts done) round
  pub each : Every (WasTried ship ts cranes done round) tried

-- each task is among these places, and these are places of tasks
pub record HasAll (count : ℕ) (order : List ℕ) : Type 0 where
  pub each : (j : ℕ) → j < count → In j order
  pub inside : All (λ j. j < count) order

-- how many flags aren't set
abbrev pub left : List Bool → ℕ
left [] = 0
left (b ∷ bs) = cond b (left bs) (suc (left bs))

-- each task that is in no round so far and not in this one has a cause for that, round by round
abbrev pub LeftOut : Ship → List Task → ℕ → List ℕ → List (List ℕ) → Type 0
LeftOut ship ts cranes done [] = Unit {0}
LeftOut ship ts cranes done (r ∷ rs) = ((j : ℕ) → j < length ts → (In j done → ⊥) → (In j r → ⊥) → HasCause ship ts cranes done r j) × LeftOut ship ts cranes (done ++ r) rs

-- the rounds so far
pub record IsShared (ship : Ship) (ts : List Task) (cranes : ℕ) (b : Board) : Type 0 where
  pub board : IsBoard ship ts b.done b.clear_to
  pub each : (i : ℕ) → (is_set b.done i ≡ true) ↔ In i (joined b.rounds)
  pub once : EachPair (λ i j. i ≢ j) (joined b.rounds)
  pub shared : Every (IsRound ship ts cranes) b.rounds
  pub in_order : EachPair (KeepOrder ship ts) b.rounds
  pub closed : (i j : ℕ) → is_set b.done j ≡ true → i < j → IsSettled ship ts b.done i j
  pub left_out : LeftOut ship ts cranes [] b.rounds

-- a round more: the rounds so far, and fewer tasks are left
pub record IsFurther (ship : Ship) (ts : List Task) (cranes : ℕ) (old new : Board) : Type 0 where
  pub is_shared : IsShared ship ts cranes new
  pub fewer : left new.done < left old.done
