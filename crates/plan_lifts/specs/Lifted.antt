-- What is lifted over a voyage, and the first departure that breaks a rule.
use Rattle.std.specs.Prelude.{◌≡◌, ◌↔◌, ◌⊎◌, ℕ, ◌+◌, ◌*◌, ◌<◌, ◌≤◌, ◌++◌, length, suc, Bool, true, List, [], ◌∷◌, Option, Some, None, AllPairs, Contains}
use Rattle.stow_data.specs.Ship.{Ship}
use Rattle.stow_data.specs.Shipment.{Cargo}
use Rattle.stow_data.specs.Plans.{Plan, held}
use Rattle.stowage_rules.specs.declared.faults.RuleBroken.{RuleBroken}
use Rattle.stowage_rules.specs.Plan.{Holds, IsWellFormed}
use Rattle.stowage_rules.specs.Departure.{HoldsAboard, AreDepartures}
use Rattle.stowage_rules.specs.Faults.{MeetsRules, IsFirstFault}
use Rattle.voyage_meaning.specs.declared.moves.Move.{Move}
use Rattle.voyage_meaning.specs.declared.moves.Move.TheVariants.{OffCover, OnCover, Lift, Put}
use Rattle.voyage_meaning.specs.Moves.{State, after}
use Rattle.voyage_meaning.specs.Voyage.{start, IsVoyage, cost}
use Rattle.plan_lifts.specs.Least.{AreClosed, AreLeast, cost_of_lifts}
use Rattle.plan_lifts.specs.declared.lifting.LiftsFault.{LiftsFault}
use Rattle.plan_lifts.specs.declared.lifting.LiftsFault.TheVariants.{Illegal, NoMemory}

-- plans of the calls from one on: each well formed, of exactly the containers that are aboard after its call
abbrev pub ArePlans : Ship → Cargo → ℕ → List Plan → Type 0
ArePlans ship cargo call [] = Unit {0}
ArePlans ship cargo call (plan ∷ plans) = IsWellFormed ship cargo plan × HoldsAboard cargo call plan × ArePlans ship cargo (suc call) plans

-- container c stands at place p of the set; at some place of it
pub record StandsInAt (plan : Plan) (set : ℕ → Bool) (p c : ℕ) : Type 0 where
  pub holds : Holds plan p c
  pub in_set : set p ≡ true

abbrev pub StandsIn : Plan → (ℕ → Bool) → ℕ → Type 0
StandsIn plan set c = (p : ℕ) × StandsInAt plan set p c

-- the containers at the places of a set, by rising number
pub record IsListed (plan : Plan) (set : ℕ → Bool) (list : List ℕ) : Type 0 where
  pub rising : AllPairs (λ a b. a < b) list
  pub stands : (c : ℕ) → Contains list c ↔ StandsIn plan set c

-- the same for each call
abbrev pub AreListed : Plan → List Plan → List (ℕ → Bool) → List (List ℕ) → Type 0
AreListed before [] [] [] = Unit {0}
AreListed before (after ∷ plans) (set ∷ sets) (list ∷ lists) = IsListed before set list × AreListed after plans sets lists
AreListed before [] [] (list ∷ lists) = ⊥
AreListed before [] (set ∷ sets) lists = ⊥
AreListed before (after ∷ plans) [] lists = ⊥
AreListed before (after ∷ plans) (set ∷ sets) [] = ⊥

-- lists of the containers of the least closed sets, one for each of the plans
pub record AreLifted (ship : Ship) (before : Plan) (plans : List Plan) (lists : List (List ℕ)) : Type 0 where
  pub sets : List (ℕ → Bool)
  pub least : AreLeast ship before plans sets
  pub listed : AreListed before plans sets lists

-- the departures are legal, and the lists are theirs
pub record IsLifted (ship : Ship) (cargo : Cargo) (plans : List Plan) (lists : List (List ℕ)) : Type 0 where
  pub legal : AreDepartures ship cargo 1 plans
  pub lifted : AreLifted ship cargo.arrival plans lists

-- some move of the list lifts the container
abbrev pub Lifts : Cargo → ℕ → State → List Move → ℕ → Type 0
Lifts cargo call s [] c = ⊥
Lifts cargo call s (m ∷ ms) c = ((p : ℕ) × (m ≡ Lift p) × Holds s.plan p c) ⊎ Lifts cargo call (after cargo call s m) ms c

-- at each call the moves lift at least the containers of its list
abbrev pub LiftAll : Ship → Cargo → ℕ → Plan → List (List Move) → List Plan → List (List ℕ) → Type 0
LiftAll ship cargo call before (moves ∷ voyage) (after ∷ plans) (list ∷ lists) = ((c : ℕ) → Contains list c → Lifts cargo call (start ship cargo call before) moves c) × LiftAll ship cargo (suc call) after voyage plans lists
LiftAll ship cargo call before [] [] [] = Unit {0}
LiftAll ship cargo call before [] [] (list ∷ lists) = ⊥
LiftAll ship cargo call before [] (after ∷ plans) lists = ⊥
LiftAll ship cargo call before (moves ∷ voyage) [] lists = ⊥
LiftAll ship cargo call before (moves ∷ voyage) (after ∷ plans) [] = ⊥

-- what a move weighs by the container that it lifts
abbrev pub lift_weight : (Option ℕ → ℕ) → State → Move → ℕ
lift_weight w s (Lift p) = w (held s.plan p)
lift_weight w s (Put c p) = 0
lift_weight w s (OffCover k) = 0
lift_weight w s (OnCover k) = 0

-- what moves weigh by the containers that they lift
abbrev pub lifts_weight : (Option ℕ → ℕ) → Cargo → ℕ → State → List Move → ℕ
lifts_weight w cargo call s [] = 0
lifts_weight w cargo call s (m ∷ ms) = lift_weight w s m + lifts_weight w cargo call (after cargo call s m) ms

-- a weight of containers, 0 for none
abbrev pub or_none : (ℕ → ℕ) → Option ℕ → ℕ
or_none h None = 0
or_none h (Some c) = h c

-- what the containers of a list weigh
abbrev pub list_weight : (ℕ → ℕ) → List ℕ → ℕ
list_weight h [] = 0
list_weight h (c ∷ cs) = h c + list_weight h cs

-- moves lift exactly the containers of a list, each once, and no other: by each weight they weigh what the list does
abbrev pub LiftsExactly : Cargo → ℕ → State → List Move → List ℕ → Type 0
LiftsExactly cargo call s moves list = (h : ℕ → ℕ) → lifts_weight (or_none h) cargo call s moves ≡ list_weight h list

-- the same at each call
abbrev pub LiftEachExactly : Ship → Cargo → ℕ → Plan → List (List Move) → List Plan → List (List ℕ) → Type 0
LiftEachExactly ship cargo call before (moves ∷ voyage) (after ∷ plans) (list ∷ lists) = LiftsExactly cargo call (start ship cargo call before) moves list × LiftEachExactly ship cargo (suc call) after voyage plans lists
LiftEachExactly ship cargo call before [] [] [] = Unit {0}
LiftEachExactly ship cargo call before [] [] (list ∷ lists) = ⊥
LiftEachExactly ship cargo call before [] (after ∷ plans) lists = ⊥
LiftEachExactly ship cargo call before (moves ∷ voyage) [] lists = ⊥
LiftEachExactly ship cargo call before (moves ∷ voyage) (after ∷ plans) [] = ⊥

-- of the plans of the calls from one on, that of call `at` is the first that breaks a rule, and this is its first fault
abbrev pub IsFirstIllegal : Ship → Cargo → ℕ → List Plan → ℕ → RuleBroken → Type 0
IsFirstIllegal ship cargo call [] at rule = ⊥
IsFirstIllegal ship cargo call (plan ∷ plans) at rule = ((at ≡ call) × IsFirstFault ship cargo plan rule) ⊎ (MeetsRules ship cargo plan × IsFirstIllegal ship cargo (suc call) plans at rule)

-- why there are no lists
abbrev pub IsLiftsFault : Ship → Cargo → List Plan → ℕ → LiftsFault → Type 0
IsLiftsFault ship cargo plans call (Illegal at rule) = IsFirstIllegal ship cargo call plans at rule
IsLiftsFault ship cargo plans call NoMemory = Unit {0}

-- what is lifted from a call on: lists that are appended, and what it costs
pub record LiftsFrom (ship : Ship) (cargo : Cargo) (call : ℕ) (before : Plan) (plans : List Plan) (old new : List (List ℕ)) (number : ℕ) : Type 0 where
  pub legal : AreDepartures ship cargo call plans
  pub sets : List (ℕ → Bool)
  pub closed : AreClosed ship before plans sets
  pub least : AreLeast ship before plans sets
  pub lists : List (List ℕ)
  pub appended : new ≡ old ++ lists
  pub listed : AreListed before plans sets lists
  pub costs : number ≡ cost_of_lifts cargo call before plans sets
  pub small : number ≤ 3000000 * length plans

-- moves for each call from one on are appended: a legal voyage with these departures, and none costs less
pub record SailsLeast (ship : Ship) (cargo : Cargo) (call : ℕ) (before : Plan) (plans : List Plan) (old new : List (List Move)) : Type 0 where
  pub voyage : List (List Move)
  pub appended : new ≡ old ++ voyage
  pub legal : IsVoyage ship cargo call before voyage plans
  pub least : (other : List (List Move)) → IsVoyage ship cargo call before other plans → cost ship cargo call before voyage plans ≤ cost ship cargo call before other plans

-- moves for each call from one on are appended, which lift exactly what the lists have
pub record LiftsAppended (ship : Ship) (cargo : Cargo) (call : ℕ) (before : Plan) (plans : List Plan) (lists : List (List ℕ)) (old new : List (List Move)) : Type 0 where
  pub voyage : List (List Move)
  pub appended : new ≡ old ++ voyage
  pub exact : LiftEachExactly ship cargo call before voyage plans lists
