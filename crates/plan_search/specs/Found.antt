-- What a search leaves, on the way to a certificate. No public clause cites this module.
use Rattle.std.specs.Prelude.{◌≡◌, ◌≢◌, ◌⊎◌, ℕ, ◌+◌, ◌<◌, ◌≤◌, ◌^◌, ◌==◌, Bool, true, false, List, [], ◌∷◌, length, Option, Some, None, pos, ◌≤ℤ◌}
use Rattle.stow_data.specs.Plans.{Plan}
use Rattle.stow_data.specs.Shipment.{most_cost}
use Rattle.proof_trees.specs.Program.{cost_of}
use Rattle.proof_trees.specs.Boxes.{Box}
use Rattle.zero_one_rows.specs.Variables.{Voyage}
use Rattle.zero_one_rows.specs.Rows.{base}
use Rattle.certificate.specs.declared.tree.End.TheVariants.{Leaf}
use Rattle.certificate.specs.declared.tree.Head.{Head}
use Rattle.certificate.specs.declared.tree.Outcome.{Outcome}
use Rattle.certificate.specs.declared.tree.Outcome.TheVariants.{Optimal, Gap, NoPlan, Undecided}
use Rattle.bound_checker.specs.Entries.{ProvesBound}
use Rattle.model_bridge.specs.Pairs.{ones}
use Rattle.model_bridge.specs.Sailed.{IsFull, BreaksNone}
use Rattle.plan_search.specs.declared.run.Searched.{Searched}
use Rattle.plan_search.specs.declared.loaded.PricedPlans.{PricedPlans}
use Rattle.plan_search.specs.Loaded.{AreLoaded, IsCostOf, ArePlans}
use Rattle.plan_search.specs.Trees.{IsSettled, IsLean, IsEarnest, LeavesEmpty, handled}

-- plans, or none
abbrev pub ArePlansOrNone : Voyage → Option (List Plan) → Type 0
ArePlansOrNone m None = Unit {0}
ArePlansOrNone m (Some plans) = ArePlans m plans

-- legal departures with their cost, or none with one above all
pub record IsPriced (m : Voyage) (c : PricedPlans) : Type 0 where
  pub plans : ArePlansOrNone m c.plans
  pub cost : IsCostOf m c.plans c.cost

-- the same, and there are some
pub record IsPlanned (m : Voyage) (c : PricedPlans) : Type 0 where
  pub planned : c.plans ≢ None
  pub priced : IsPriced m c

-- the same of the loader's plans
pub record IsLoaded (m : Voyage) (c : PricedPlans) : Type 0 where
  pub loads : AreLoaded m c.plans
  pub priced : IsPriced m c
  pub low : c.cost ≤ most_cost m.cargo + 1

-- plans that cost at most as much as the first ones, and are none only where these are none
pub record IsImproved (m : Voyage) (first c : PricedPlans) : Type 0 where
  pub priced : IsPriced m c
  pub no_worse : c.cost ≤ first.cost
  pub unplanned : c.plans ≡ None → first.plans ≡ None

-- the box is full, breaks no base row, and costs this
pub record IsFullAt (m : Voyage) (best : ℕ) (b : Box) : Type 0 where
  pub full : IsFull m b
  pub rows : BreaksNone m b
  pub costs : cost_of (base m) (ones b) ≡ pos best

-- the full box with the best cost, or none where no box was better than the start
abbrev pub IsBest : Voyage → ℕ → ℕ → Option Box → Type 0
IsBest m start best None = best ≡ start
IsBest m start best (Some b) = IsFullAt m best b × (best < start)

-- the tree of a search
pub record IsSearched (m : Voyage) (budget start : ℕ) (s : Searched) : Type 0 where
  pub nodes : s.nodes ≡ handled s.tree
  pub within : s.nodes ≤ budget
  pub few : length s.tree < 2 ^ 32
  pub lean : IsLean m s.tree
  pub earnest : IsEarnest m start s.tree
  pub settled : IsSettled m s.tree s.best
  pub empty : LeavesEmpty s.tree
  pub proves_none : ProvesBound m s.tree 0
  pub ended : (s.nodes ≡ budget) ⊎ ProvesBound m s.tree s.best
  pub best : IsBest m start s.best s.full

-- one box, in which no variable is fixed and no row has a multiplier
abbrev pub one_leaf : Searched
one_leaf = record { tree = record { from_zero = false; steps = []; raises = []; end = Leaf } ∷ []; nodes = 1; best = 0; full = None }

-- ## From the tree to the head

-- a box that is full and breaks no base row, if there is one
abbrev pub IsFullOrNone : Voyage → Option Box → Type 0
IsFullOrNone m None = Unit {0}
IsFullOrNone m (Some b) = IsFull m b × BreaksNone m b

-- plans that cost at most what the box costs
pub record IsSailed (m : Voyage) (b : Box) (c : PricedPlans) : Type 0 where
  pub planned : c.plans ≢ None
  pub priced : IsPriced m c
  pub cheap : pos c.cost ≤ℤ cost_of (base m) (ones b)

-- the plans of the full box, or the first ones where there is none
abbrev pub AreChosen : Voyage → PricedPlans → Option Box → PricedPlans → Type 0
AreChosen m first None c = c ≡ first
AreChosen m first (Some b) c = IsSailed m b c

abbrev pub outcome_of : Option (List Plan) → Bool → Outcome
outcome_of (Some plans) true = Optimal
outcome_of (Some plans) false = Gap
outcome_of None true = NoPlan
outcome_of None false = Undecided

abbrev pub cost_of_plans : Option (List Plan) → ℕ → Option ℕ
cost_of_plans (Some plans) n = Some n
cost_of_plans None n = None

abbrev pub head_of : PricedPlans → ℕ → ℕ → Head
head_of c bound nodes = record { outcome = outcome_of c.plans (bound == c.cost); rehandles = cost_of_plans c.plans c.cost; bound = bound; nodes = nodes }
