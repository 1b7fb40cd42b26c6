-- What a plan's certificate says of its voyage: the bound, the cost, the nodes, and the outcome.
use Rattle.std.specs.Prelude.{◌≡◌, ℕ, ◌+◌, ◌<◌, ◌≤◌, List, length, Option, Some, None, IfSome}
use Rattle.stow_data.specs.Plans.{Plan}
use Rattle.stow_data.specs.Shipment.{most_cost}
use Rattle.voyage_meaning.specs.Voyage.{HasCost}
use Rattle.zero_one_rows.specs.Variables.{Voyage}
use Rattle.certificate.specs.declared.tree.Head.{Head}
use Rattle.certificate.specs.declared.tree.Outcome.{Outcome}
use Rattle.certificate.specs.declared.tree.Outcome.TheVariants.{Optimal, Gap, NoPlan, Undecided}
use Rattle.certificate.specs.declared.tree.Record.{Record}
use Rattle.certificate.specs.Text.{cert_text}
use Rattle.bound_checker.specs.Entries.{ProvesBound}
use Rattle.model_bridge.specs.Laws.{IsVoyageBound, HasNoVoyage}
use Rattle.plan_search.specs.Loaded.{AreLoaded, IsCostOf, ArePlans}
use Rattle.plan_search.specs.Trees.{IsSettled, IsLean, IsEarnest, LeavesEmpty, handled, most_bytes}

-- ## Outcomes

-- the budget is spent, and the plan costs more than the bound, but at most as much as the loader's
pub record IsGap (budget start cost bound nodes : ℕ) : Type 0 where
  pub spent : nodes ≡ budget
  pub above : bound < cost
  pub no_worse : cost ≤ start

-- the bound is above the most that a voyage needs to cost, and there is no legal voyage
pub record IsNoPlan (m : Voyage) (bound : ℕ) : Type 0 where
  pub above_all : bound ≡ most_cost m.cargo + 1
  pub none : HasNoVoyage m

-- the budget is spent, the loader's rule finds no plans, and the bound leaves room for some
pub record IsUndecided (m : Voyage) (budget : ℕ) (loaded : Option (List Plan)) (bound nodes : ℕ) : Type 0 where
  pub spent : nodes ≡ budget
  pub unloaded : loaded ≡ None
  pub room : bound ≤ most_cost m.cargo

-- what each outcome says, where the loader finds these plans, and the start is their cost
abbrev pub OutcomeHolds : Voyage → ℕ → Option (List Plan) → ℕ → Outcome → Option ℕ → ℕ → ℕ → Type 0
OutcomeHolds m budget loaded start Optimal (Some cost) bound nodes = bound ≡ cost
OutcomeHolds m budget loaded start Gap (Some cost) bound nodes = IsGap budget start cost bound nodes
OutcomeHolds m budget loaded start NoPlan None bound nodes = IsNoPlan m bound
OutcomeHolds m budget loaded start Undecided None bound nodes = IsUndecided m budget loaded bound nodes
OutcomeHolds m budget loaded start Optimal None bound nodes = ⊥
OutcomeHolds m budget loaded start Gap None bound nodes = ⊥
OutcomeHolds m budget loaded start NoPlan (Some cost) bound nodes = ⊥
OutcomeHolds m budget loaded start Undecided (Some cost) bound nodes = ⊥

-- ## Certificates

-- the cost of the plan; where there is none, one above the most that a voyage needs to cost
abbrev pub ceiling : Voyage → Option ℕ → ℕ
ceiling m None = most_cost m.cargo + 1
ceiling m (Some cost) = cost

-- there are departures of a legal voyage whose cost this is
abbrev pub CostsVoyage : Voyage → ℕ → Type 0
CostsVoyage m cost = (departures : List Plan) × HasCost m.ship m.cargo departures cost

-- the plans are legal departures of this cost; or there are none
abbrev pub HasPlans : Voyage → Option ℕ → Option (List Plan) → Type 0
HasPlans m None None = Unit {0}
HasPlans m (Some cost) (Some plans) = ArePlans m plans × HasCost m.ship m.cargo plans cost
HasPlans m None (Some plans) = ⊥
HasPlans m (Some cost) None = ⊥

-- A certificate of a head and a tree, for a budget of nodes.
pub record Certifies (m : Voyage) (budget : ℕ) (head : Head) (tree : List Record) : Type 0 where
  -- what the loader's rule finds, and what that costs; where it finds nothing, one above the most that a voyage needs to cost
  pub loaded : Option (List Plan)
  pub loads : AreLoaded m loaded
  pub start : ℕ
  pub starts : IsCostOf m loaded start
  -- the tree proves the bound, and none greater up to the cost
  pub proves : ProvesBound m tree head.bound
  pub low : head.bound ≤ ceiling m head.rehandles
  pub greatest : (bound : ℕ) → bound ≤ ceiling m head.rehandles → ProvesBound m tree bound → bound ≤ head.bound
  -- no legal voyage costs less than the bound
  pub bounds : IsVoyageBound m head.bound
  -- the nodes are the records that aren't left open, at most as many as the budget has
  pub nodes : head.nodes ≡ handled tree
  pub within : head.nodes ≤ budget
  -- no record does more than it needs; none divides its box before it must; and only one left open can hold the bound below the cost
  pub lean : IsLean m tree
  pub earnest : IsEarnest m start tree
  pub settled : IsSettled m tree (ceiling m head.rehandles)
  -- a record that is left open is empty; so the text of the certificate can't be long
  pub empty : LeavesEmpty tree
  pub short : length (cert_text head tree) ≤ most_bytes m budget
  -- the cost is that of a legal voyage
  pub voyage : IfSome head.rehandles (CostsVoyage m)
  pub outcome : OutcomeHolds m budget loaded start head.outcome head.rehandles head.bound head.nodes
