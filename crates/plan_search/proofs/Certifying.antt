-- From the tree of a search to a certificate.
use Rattle.std.proofs.Common.{◌≡◌, ◌≢◌, ℕ, suc, ◌+◌, ◌-◌, ◌^◌, ◌<◌, ◌≤◌, Bool, true, false, List, [], ◌∷◌, length, map, Option, Some, None, refl, sym, ap, subst, ◌∙◌, arith, inl, inr}
use Rattle.std.specs.Prelude.{◌⊎◌, ◌==◌, IfSome}
use Rattle.std.proofs.lemmas.Bool.{eq-eqb, eqb-true, both_ways}
use Rattle.std.proofs.lemmas.Bool.Decides.{nat_tests}
use borrow.Author.Differences.{ints}
use Rattle.stow_data.specs.Ship.{Ship}
use Rattle.stow_data.specs.Shipment.{Cargo, most_cost}
use Rattle.stow_data.specs.Plans.{Plan}
use Rattle.stowage_rules.specs.Departure.{AreDepartures, IsDeparture}
use Rattle.stowage_rules.specs.declared.faults.RuleBroken.{RuleBroken}
use Rattle.stowage_rules.specs.Faults.{MeetsRules}
use Rattle.stowage_rules.proofs.InRank.{breaks}
use Rattle.voyage_meaning.specs.declared.moves.Move.{Move}
use Rattle.voyage_meaning.specs.Voyage.{IsVoyage, HasCost}
use Rattle.plan_lifts.specs.Lifted as lifts
use Rattle.greedy_loader.specs.Calls.{DepartFrom}
use Rattle.zero_one_rows.specs.declared.program.Row.{Row}
use Rattle.zero_one_rows.specs.Variables.{Voyage}
use Rattle.zero_one_rows.specs.Rows.{whole, CrossingRowsHold}
use Rattle.zero_one_rows.proofs.Sizes.{most_cost_low}
use Rattle.proof_trees.specs.Boxes.{Box}
use Rattle.proof_trees.specs.Trees.{Entry, Pending, root}
use Rattle.proof_trees.proofs.Lesser.{proves_lesser}
use Rattle.certificate.specs.declared.tree.Record.{Record}
use Rattle.certificate.specs.Entries.{same_row, entry_of}
use Rattle.certificate.specs.Text.{cert_text}
use Rattle.bound_checker.specs.Entries.{ProvesBound, IsBestBound}
use Rattle.search_core.specs.Journals.{branches}
use Rattle.search_core.proofs.Along.{hold_more}
use Rattle.node_solver.specs.Work as node
use Rattle.model_bridge.specs.Sailed.{AreSailed}
use Rattle.model_bridge.specs.Laws.{IsProblem, IsCostBound, IsVoyageBound, HasNoVoyage}
use Rattle.plan_search.specs.declared.loaded.PricedPlans.{PricedPlans}
use Rattle.plan_search.specs.declared.run.Searched.{Searched}
use Rattle.plan_search.specs.Loaded.{IsCostOf, ArePlans}
use Rattle.plan_search.specs.Trees.{IsSettled, IsEarnest, most_bytes}
use Rattle.plan_search.specs.Certified.{OutcomeHolds, ceiling, CostsVoyage, HasPlans, Certifies}
use Rattle.plan_search.specs.Found.{ArePlansOrNone, IsPriced, IsPlanned, IsLoaded, IsImproved, IsBest, IsSearched, IsSailed, AreChosen, outcome_of, cost_of_plans, head_of}
use Rattle.plan_search.proofs.AtZero.{settled_lesser}
use Rattle.plan_search.proofs.Few.{cost_few}
use Rattle.plan_search.proofs.TextLengths.{IsLow, text_short}

-- ## Legal departures

-- legal departures are well-formed plans of what is aboard
pub departures_formed : (ship : Ship) (cargo : Cargo) (call : ℕ) (plans : List Plan) → AreDepartures ship cargo call plans → lifts.ArePlans ship cargo call plans
departures_formed ship cargo call [] h = tt
departures_formed ship cargo call (plan ∷ plans) h = (h.0.stowed.well_formed, h.0.stowed.aboard, departures_formed ship cargo (suc call) plans h.1)

meets_rules : (ship : Ship) (cargo : Cargo) (call : ℕ) (plan : Plan) → IsDeparture ship cargo call plan → MeetsRules ship cargo plan
meets_rules ship cargo call plan h = record { supported = h.stowed.supported; twenty = h.stowed.twenty; plugged = h.stowed.plugged; within = h.within; separated = h.separated }

-- none of them breaks a rule
pub never_illegal : (ship : Ship) (cargo : Cargo) (call : ℕ) (plans : List Plan) (at : ℕ) (rule : RuleBroken) → AreDepartures ship cargo call plans → lifts.IsFirstIllegal ship cargo call plans at rule → ⊥
never_illegal ship cargo call [] at rule h k = k
never_illegal ship cargo call (plan ∷ plans) at rule h (inl k) = breaks ship cargo plan rule k.1.is_fault (meets_rules ship cargo call plan h.0)
never_illegal ship cargo call (plan ∷ plans) at rule h (inr k) = never_illegal ship cargo (suc call) plans at rule h.1 k.1

-- of the ship and the cargo of a voyage
pub legal_at : (m : Voyage) (ship : Ship) (cargo : Cargo) (plans : List Plan) → m.ship ≡ ship → m.cargo ≡ cargo → ArePlans m plans → AreDepartures ship cargo 1 plans
legal_at m ship cargo plans e f made = subst (λ (s : Ship). AreDepartures s cargo 1 plans) e (subst (λ (k : Cargo). AreDepartures m.ship k 1 plans) f made.legal)

-- what the loader's rule finds, with its cost
pub loaded_some : (m : Voyage) (ship : Ship) (cargo : Cargo) (o : Option (List Plan)) (plans : List Plan) (cost : ℕ) → m.ship ≡ ship → m.cargo ≡ cargo → IsProblem m → o ≡ Some plans
    → DepartFrom ship cargo 1 cargo.arrival (length cargo.rotation - 1) o → IfSome o (AreDepartures ship cargo 1) → IfSome o (λ ps. length ps + 1 ≡ length cargo.rotation)
    → HasCost m.ship m.cargo plans cost → IsLoaded m (record { plans = Some plans; cost = cost })
loaded_some m ship cargo o plans cost e f rules is rule legal each counts =
    let here : DepartFrom ship cargo 1 cargo.arrival (length cargo.rotation - 1) (Some plans) = subst (DepartFrom ship cargo 1 cargo.arrival (length cargo.rotation - 1)) is rule in
    let from : AreDepartures ship cargo 1 plans = subst (λ (x : Option (List Plan)). IfSome x (AreDepartures ship cargo 1)) is legal in
    let long : length plans + 1 ≡ length cargo.rotation = subst (λ (x : Option (List Plan)). IfSome x (λ ps. length ps + 1 ≡ length cargo.rotation)) is each in
    let made : ArePlans m plans = record {
      each_call = subst (λ (k : Cargo). length plans + 1 ≡ length k.rotation) (sym f) long;
      legal = subst (λ (s : Ship). AreDepartures s m.cargo 1 plans) (sym e) (subst (λ (k : Cargo). AreDepartures ship k 1 plans) (sym f) from);
    } in
    let few = cost_few m plans cost rules made counts in
    record {
      loads = subst (λ (s : Ship). DepartFrom s m.cargo 1 m.cargo.arrival (length m.cargo.rotation - 1) (Some plans)) (sym e) (subst (λ (k : Cargo). DepartFrom ship k 1 k.arrival (length k.rotation - 1) (Some plans)) (sym f) here);
      priced = record { plans = made; cost = counts };
      low = omega (arith, few);
    }

-- the departures of a legal voyage
voyage_departs : (ship : Ship) (cargo : Cargo) (call : ℕ) (before : Plan) (moves : List (List Move)) (plans : List Plan) → IsVoyage ship cargo call before moves plans → AreDepartures ship cargo call plans
voyage_departs ship cargo call before [] [] h = tt
voyage_departs ship cargo call before [] (after ∷ plans) h = absurd h
voyage_departs ship cargo call before (ms ∷ moves) [] h = absurd h
voyage_departs ship cargo call before (ms ∷ moves) (after ∷ plans) h = (h.0.departure, voyage_departs ship cargo (suc call) after moves plans h.1)

-- the plans of a full box are legal departures
pub sailed_plans : (m : Voyage) (b : Box) (plans : List Plan) → AreSailed m b plans → ArePlans m plans
sailed_plans m b plans s = record { each_call = s.legal.each_call; legal = voyage_departs m.ship m.cargo 1 m.cargo.arrival s.moves plans s.legal.voyage }

some_not_none : {A : Type 0} (x : A) → Some x ≢ None
some_not_none x e = cc

pub sailed_priced : (m : Voyage) (b : Box) (plans : List Plan) (cost : ℕ) → AreSailed m b plans → HasCost m.ship m.cargo plans cost → IsSailed m b (record { plans = Some plans; cost = cost })
sailed_priced m b plans cost s counts = record {
  planned = some_not_none plans;
  priced = record { plans = sailed_plans m b plans s; cost = counts };
  cheap = let least = counts.least s.moves s.legal in let cheap = s.cheap in omega (arith, ints);
}

-- better plans than the first ones
pub improved_by : (m : Voyage) (first c : PricedPlans) → IsPlanned m c → c.cost < first.cost → IsImproved m first c
improved_by m first c h less = record { priced = h.priced; no_worse = omega (arith, less); unplanned = λ none. absurd (h.planned none) }

-- the plans of a full box
pub sailed_planned : (m : Voyage) (b : Box) (c : PricedPlans) → IsSailed m b c → IsPlanned m c
sailed_planned m b c h = record { planned = h.planned; priced = h.priced }

-- ## The certificate

ceiling_is : (m : Voyage) (o : Option (List Plan)) (n : ℕ) → IsCostOf m o n → ceiling m (cost_of_plans o n) ≡ n
ceiling_is m None n h = sym h
ceiling_is m (Some plans) n h = refl

voyage_is : (m : Voyage) (o : Option (List Plan)) (n : ℕ) → IsCostOf m o n → IfSome (cost_of_plans o n) (CostsVoyage m)
voyage_is m None n h = tt
voyage_is m (Some plans) n h = (plans, h)

pub has_plans : (m : Voyage) (o : Option (List Plan)) (n : ℕ) → ArePlansOrNone m o → IsCostOf m o n → HasPlans m (cost_of_plans o n) o
has_plans m None n h k = tt
has_plans m (Some plans) n h k = (h, k)

-- the plans are no worse than the best, and the best no worse than the start
pub chosen_low : (m : Voyage) (start best : ℕ) (first c : PricedPlans) (o : Option Box) → first.cost ≡ start → IsBest m start best o → AreChosen m first o c → c.cost ≤ best
chosen_low m start best first c None from b h = let same = ap (λ (x : PricedPlans). x.cost) h in omega (arith, same, from, b)
chosen_low m start best first c (Some x) from b h = let cheap = h.cheap in let costs = b.0.costs in omega (arith, ints, cheap, costs)

best_low : (m : Voyage) (start best : ℕ) (o : Option Box) → IsBest m start best o → best ≤ start
best_low m start best None b = omega (arith, b)
best_low m start best (Some x) b = omega (arith, b.1)

chosen_priced : (m : Voyage) (first c : PricedPlans) (o : Option Box) → IsPriced m first → AreChosen m first o c → IsPriced m c
chosen_priced m first c None f h = subst (IsPriced m) (sym h) f
chosen_priced m first c (Some x) f h = h.priced

-- without plans the loader found none
unplanned : (m : Voyage) (first c : PricedPlans) (o : Option Box) → AreChosen m first o c → c.plans ≡ None → first.plans ≡ None
unplanned m first c None h none = sym (ap (λ (x : PricedPlans). x.plans) h) ∙ none
unplanned m first c (Some x) h none = absurd (h.planned none)

-- a tree that proves the best proves the plans' number
reached : (m : Voyage) (tree : List Record) (best cost bound : ℕ) → cost ≤ best → ProvesBound m tree best → IsBestBound m tree cost bound → bound ≡ cost
reached m tree best cost bound le proves b =
    let up = b.greatest cost (omega arith) (proves_lesser same_row (whole m) best cost le (map (entry_of m) tree) proves) in
    let low = b.low in
    omega (arith, up, low)

spent : (m : Voyage) (tree : List Record) (nodes budget best cost bound : ℕ) → cost ≤ best → (nodes ≡ budget) ⊎ ProvesBound m tree best → IsBestBound m tree cost bound → (bound == cost) ≡ false → nodes ≡ budget
spent m tree nodes budget best cost bound le (inl e) b far = e
spent m tree nodes budget best cost bound le (inr proves) b far =
    let same = reached m tree best cost bound le proves b in
    absurd (both_ways (bound == cost) far (eq-eqb bound cost same))

below : (cost bound : ℕ) → bound ≤ cost → (bound == cost) ≡ false → bound < cost
below cost bound le far = grind (arith, nat_tests)

-- a record that is earnest against a number is earnest against each greater one
earnest_at : (m : Voyage) (less start most : ℕ) (q : Pending Row) (e : Entry Row) → less ≤ start → node.IsEarnest m q less most e → node.IsEarnest m q start most e
earnest_at m less start most q e le h = record {
  quiet = h.quiet;
  rising = h.rising;
  short = λ closes. h.short (omega (arith, ints, le, closes));
  spent = h.spent;
}

earnest_more : (m : Voyage) (less start : ℕ) (tree : List Record) → less ≤ start → IsEarnest m less tree → IsEarnest m start tree
earnest_more m less start tree le h =
    hold_more same_row (whole m) (λ top q e. branches e.end ≡ true → node.IsEarnest m q less (node.most_raises top) e) (λ top q e. branches e.end ≡ true → node.IsEarnest m q start (node.most_raises top) e)
    (λ top q e w divides. earnest_at m less start (node.most_raises top) q e le (w divides)) true (root (whole m) ∷ []) (map (entry_of m) tree) h

module _ (m : Voyage) (rules : IsProblem m) (budget : ℕ) (first begun c : PricedPlans) (s : Searched) (bound : ℕ)
    (loaded : IsLoaded m first) (better : IsImproved m first begun) (found : IsSearched m budget begun.cost s) (chosen : AreChosen m begun s.full c)
    (best : IsBestBound m s.tree c.cost bound) (costs : CrossingRowsHold m → IsCostBound m bound)
    (law : (CrossingRowsHold m → IsCostBound m bound) → IsVoyageBound m bound) (none : (CrossingRowsHold m → IsCostBound m (most_cost m.cargo + 1)) → HasNoVoyage m) where
  low : c.cost ≤ s.best
  low = chosen_low m begun.cost s.best begun c s.full refl found.best chosen

  priced : IsPriced m c
  priced = chosen_priced m begun c s.full better.priced chosen

  top : ceiling m (cost_of_plans c.plans c.cost) ≡ c.cost
  top = ceiling_is m c.plans c.cost priced.cost

  no_voyage : bound ≡ most_cost m.cargo + 1 → HasNoVoyage m
  no_voyage e = none (λ crossing. subst (IsCostBound m) e (costs crossing))

  outcome_holds : (o : Option (List Plan)) (b : Bool) → c.plans ≡ o → (bound == c.cost) ≡ b → IsCostOf m o c.cost → OutcomeHolds m budget first.plans first.cost (outcome_of o b) (cost_of_plans o c.cost) bound s.nodes
  outcome_holds (Some plans) true is e cost = eqb-true bound c.cost e
  outcome_holds (Some plans) false is e cost = record {
    spent = spent m s.tree s.nodes budget s.best c.cost bound low found.ended best e;
    above = below c.cost bound best.low e;
    no_worse = omega (arith, low, best_low m begun.cost s.best s.full found.best, better.no_worse);
  }
  outcome_holds None true is e cost = let reached : bound ≡ most_cost m.cargo + 1 = eqb-true bound c.cost e ∙ cost in record { above_all = reached; none = no_voyage reached }
  outcome_holds None false is e cost = record {
    spent = spent m s.tree s.nodes budget s.best c.cost bound low found.ended best e;
    unloaded = better.unplanned (unplanned m begun c s.full chosen is);
    room = let lt = below c.cost bound best.low e in omega (arith, lt, cost);
  }

  cost_low : c.cost < 10 ^ 12
  cost_low =
      let some = best_low m begun.cost s.best s.full found.best in
      omega (arith, low, some, better.no_worse, loaded.low, most_cost_low m.cargo rules.cargo)

  costs_low : (o : Option (List Plan)) → IsLow m rules (cost_of_plans o c.cost)
  costs_low None = tt
  costs_low (Some plans) = cost_low

  -- the certificate's text
  short : budget ≤ 100000 → length (cert_text (head_of c bound s.nodes) s.tree) ≤ most_bytes m budget
  short few = text_short m rules budget s.best (head_of c bound s.nodes) s.tree (omega (arith, found.nodes, found.within)) found.settled found.lean found.empty (costs_low c.plans) (omega (arith, best.low, cost_low)) (omega (arith, found.within, few))

  pub certifies : budget ≤ 100000 → Certifies m budget (head_of c bound s.nodes) s.tree
  certifies few = record {
    empty = found.empty;
    short = short few;
    loaded = first.plans;
    loads = loaded.loads;
    start = first.cost;
    starts = loaded.priced.cost;
    proves = best.proves;
    low = subst (λ (n : ℕ). bound ≤ n) (sym top) best.low;
    greatest = subst (λ (n : ℕ). (b : ℕ) → b ≤ n → ProvesBound m s.tree b → b ≤ bound) (sym top) best.greatest;
    bounds = law costs;
    nodes = found.nodes;
    within = found.within;
    lean = found.lean;
    earnest = earnest_more m begun.cost first.cost s.tree better.no_worse found.earnest;
    settled = subst (λ (n : ℕ). IsSettled m s.tree n) (sym top) (settled_lesser same_row (whole m) s.best c.cost low (map (entry_of m) s.tree) found.settled);
    voyage = voyage_is m c.plans c.cost priced.cost;
    outcome = outcome_holds c.plans (bound == c.cost) refl refl priced.cost;
  }

  pub planned : HasPlans m (cost_of_plans c.plans c.cost) c.plans
  planned = has_plans m c.plans c.cost priced.plans priced.cost
