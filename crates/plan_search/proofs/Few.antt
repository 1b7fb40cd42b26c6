-- The cost of departures is at most that of each container's lift at each call but the last.
use Rattle.std.specs.Prelude.{◌≡◌, ◌≢◌, ℕ, suc, ◌+◌, ◌*◌, ◌≤◌, Bool, true, false, cond, List, [], ◌∷◌, Option, Some, None, length, slice_get, slice_index_or}
use Rattle.std.specs.List.{sum, IsDistinct, AllByRecursion, list_any}
use Rattle.std.proofs.Common.{refl, sym, ◌∙◌, ap, arith, eqb, inl, inr}
use Rattle.std.proofs.Math.Nat.{mul-add, suc-mul, mul-le-mul_right}
use Rattle.std.proofs.lemmas.Bool.{both_ways, or_cases, eqb-true}
use Rattle.std.proofs.lemmas.Bool.Decides.{eqb_tells}
use Rattle.std.proofs.lemmas.Option.{slice_get_within}
use Rattle.std.proofs.lemmas.Map.Steps.{length-le_from_distinct_below}
use Rattle.stow_data.specs.Ship.{Ship}
use Rattle.stow_data.specs.Shipment.{Cargo, price, most_cost}
use Rattle.stow_data.specs.Plans.{Plan}
use Rattle.stowage_rules.specs.Plan.{Holds, IsWellFormed}
use Rattle.stowage_rules.specs.Departure.{AreDepartures}
use Rattle.voyage_meaning.specs.Moves.{leaves, lift_cost}
use Rattle.voyage_meaning.specs.Voyage.{HasCost}
use Rattle.plan_lifts.specs.Least.{IsClosed, AreClosed, counted, cost_of_lifts}
use Rattle.plan_lifts.proofs.Whole.{closed_voyage, ship_is_divided, cargo_in_order}
use Rattle.zero_one_rows.specs.Variables.{Voyage}
use Rattle.model_bridge.specs.Laws.{IsProblem}
use Rattle.model_bridge.proofs.Prices.{sum_front, price_at}
use Rattle.plan_search.specs.Loaded.{ArePlans}

-- ## The set of all filled places

abbrev filled_at : Option (Option ℕ) → Bool
filled_at None = false
filled_at (Some None) = false
filled_at (Some (Some c)) = true

abbrev filled : Plan → ℕ → Bool
filled plan p = filled_at (slice_get plan p)

held_filled : (plan : Plan) (p c : ℕ) → Holds plan p c → filled plan p ≡ true
held_filled plan p c h = ap filled_at h

filled_held : (o : Option (Option ℕ)) → filled_at o ≡ true → (c : ℕ) × (o ≡ Some (Some c))
filled_held None h = absurd (both_ways false refl h)
filled_held (Some None) h = absurd (both_ways false refl h)
filled_held (Some (Some c)) h = (c, refl)

all_closed : (ship : Ship) (before after : Plan) → IsClosed ship before after (filled before)
all_closed ship before after = record {
  changed = λ p c held gone. held_filled before p c held;
  over = λ p q c held over h. held_filled before p c held;
  on_cover = λ p q c held on h. held_filled before p c held;
  on_opened = λ p q c held on h. held_filled before p c held;
}

abbrev filled_all : Plan → List Plan → List (ℕ → Bool)
filled_all before [] = []
filled_all before (after ∷ plans) = filled before ∷ filled_all after plans

are_closed : (ship : Ship) (before : Plan) (plans : List Plan) → AreClosed ship before plans (filled_all before plans)
are_closed ship before [] = tt
are_closed ship before (after ∷ plans) = (all_closed ship before after, (λ p h. filled_held (slice_get before p) h), are_closed ship after plans)

-- ## A plan holds each container once at most

abbrev boxes : Plan → List ℕ
boxes [] = []
boxes (None ∷ os) = boxes os
boxes (Some c ∷ os) = c ∷ boxes os

box_held : (plan : Plan) (c : ℕ) → list_any (eqb c) (boxes plan) ≡ true → (p : ℕ) × Holds plan p c
box_held [] c h = absurd (both_ways false refl h)
box_held (None ∷ os) c h = let r = box_held os c h in (suc r.0, r.1)
box_held (Some d ∷ os) c h = elim (or_cases (eqb c d) (list_any (eqb c) (boxes os)) h) [
  | inl here ↦ (0, ap (λ (x : ℕ). Some (Some x)) (sym (eqb-true c d here)))
  | inr later ↦ let r = box_held os c later in (suc r.0, r.1)
]

apart : (c d : ℕ) → c ≢ d → eqb c d ≡ false
apart c d other = elim (eqb_tells c d) [ inl h ↦ absurd (other h.1) | inr h ↦ h.0 ]

absent : (c : ℕ) (os : Plan) → ((p : ℕ) → Holds os p c → ⊥) → AllByRecursion (λ y. eqb c y ≡ false) (boxes os)
absent c [] none = tt
absent c (None ∷ os) none = absent c os (λ p h. none (suc p) h)
absent c (Some d ∷ os) none = (apart c d (λ e. none 0 (ap (λ (x : ℕ). Some (Some x)) (sym e))), absent c os (λ p h. none (suc p) h))

each_once : (plan : Plan) → ((p q c : ℕ) → Holds plan p c → Holds plan q c → p ≡ q) → IsDistinct eqb (boxes plan)
unfolding IsDistinct
each_once [] once = tt
each_once (None ∷ os) once = each_once os (λ p q c h k. let e : suc p ≡ suc q = once (suc p) (suc q) c h k in omega arith)
each_once (Some d ∷ os) once = (
  absent d os (λ p h. let e : 0 ≡ suc p = once 0 (suc p) d refl h in omega arith),
  each_once os (λ p q c h k. let e : suc p ≡ suc q = once (suc p) (suc q) c h k in omega arith),
)

one_at_most : (b d : Bool) (t : ℕ) → cond b (cond d 0 t) 0 ≤ t
one_at_most true true t = omega arith
one_at_most true false t = omega arith
one_at_most false d t = omega arith

none_at : (b : Bool) → cond b 0 0 ≤ 0
none_at true = omega arith
none_at false = omega arith

counted_boxes : (cargo : Cargo) (call : ℕ) (f : ℕ → Bool) (plan : Plan) → counted (lift_cost cargo call) f plan ≤ length (boxes plan) * price cargo call
counted_boxes cargo call f [] = omega arith
counted_boxes cargo call f (None ∷ os) = omega (arith, none_at (f 0), counted_boxes cargo call (λ p. f (suc p)) os)
counted_boxes cargo call f (Some c ∷ os) = omega (arith, one_at_most (f 0) (leaves cargo call c) (price cargo call), counted_boxes cargo call (λ p. f (suc p)) os, suc-mul (length (boxes os)) (price cargo call))

counted_few : (ship : Ship) (cargo : Cargo) (call : ℕ) (f : ℕ → Bool) (plan : Plan) → IsWellFormed ship cargo plan → counted (lift_cost cargo call) f plan ≤ length cargo.containers * price cargo call
counted_few ship cargo call f plan formed =
    let few = length-le_from_distinct_below (boxes plan) (length cargo.containers) (each_once plan formed.once) (λ c h. let at = box_held plan c h in let known = formed.known at.0 c at.1 in slice_get_within cargo.containers c known.0 known.1) in
    omega (arith, counted_boxes cargo call f plan, mul-le-mul_right (price cargo call) few)

-- ## All calls

-- the prices from a call on
abbrev AreFrom : Cargo → ℕ → List ℕ → Type 0
AreFrom cargo call prices = (i : ℕ) → price cargo (call + i) ≡ slice_index_or prices i 0

first_price : (cargo : Cargo) (call : ℕ) (prices : List ℕ) → AreFrom cargo call prices → price cargo call ≡ slice_index_or prices 0 0
first_price cargo call prices h = let e : call ≡ call + 0 = omega arith in ap (price cargo) e ∙ h 0

next_price : (cargo : Cargo) (call i : ℕ) → price cargo (suc call + i) ≡ price cargo (call + suc i)
next_price cargo call i = let e : suc call + i ≡ call + suc i = omega arith in ap (price cargo) e

all_few : (ship : Ship) (cargo : Cargo) (call : ℕ) (before : Plan) (plans : List Plan) (sets : List (ℕ → Bool)) (prices : List ℕ) → AreFrom cargo call prices → IsWellFormed ship cargo before → AreDepartures ship cargo call plans
    → cost_of_lifts cargo call before plans sets ≤ length cargo.containers * sum prices
all_few ship cargo call before [] sets prices from formed legal = omega arith
all_few ship cargo call before (after ∷ plans) [] prices from formed legal = omega arith
all_few ship cargo call before (after ∷ plans) (f ∷ fs) [] from formed legal =
    let here : length cargo.containers * price cargo call ≡ length cargo.containers * 0 = ap (λ (t : ℕ). length cargo.containers * t) (first_price cargo call [] from) in
    let rest = all_few ship cargo (suc call) after plans fs [] (λ i. next_price cargo call i ∙ from (suc i)) legal.0.stowed.well_formed legal.1 in
    omega (arith, counted_few ship cargo call f before formed, here, rest)
all_few ship cargo call before (after ∷ plans) (f ∷ fs) (p ∷ ps) from formed legal =
    let here : length cargo.containers * price cargo call ≡ length cargo.containers * p = ap (λ (t : ℕ). length cargo.containers * t) (first_price cargo call (p ∷ ps) from) in
    let rest = all_few ship cargo (suc call) after plans fs ps (λ i. next_price cargo call i ∙ from (suc i)) legal.0.stowed.well_formed legal.1 in
    let both : length cargo.containers * sum (p ∷ ps) ≡ length cargo.containers * p + length cargo.containers * sum ps = ap (λ (t : ℕ). length cargo.containers * t) (sum_front p ps) ∙ mul-add (length cargo.containers) p (sum ps) in
    omega (arith, counted_few ship cargo call f before formed, here, rest, both)

-- the cost of departures is at most the most that a voyage needs to cost
pub cost_few : (m : Voyage) (plans : List Plan) (n : ℕ) → IsProblem m → ArePlans m plans → HasCost m.ship m.cargo plans n → n ≤ most_cost m.cargo
cost_few m plans n rules made cost =
    let sailed = closed_voyage m.ship m.cargo 0 m.cargo.arrival plans (filled_all m.cargo.arrival plans) (ship_is_divided m.ship rules.ship) (cargo_in_order m.cargo rules.cargo) rules.arrives made.legal (are_closed m.ship m.cargo.arrival plans) in
    let least = cost.least sailed.0 (record { each_call = made.each_call; voyage = sailed.1 }) in
    let from : AreFrom m.cargo 1 m.cargo.tariff = λ i. let e : 1 + i ≡ suc i = omega arith in ap (price m.cargo) e ∙ price_at m.cargo i in
    let few = all_few m.ship m.cargo 1 m.cargo.arrival plans (filled_all m.cargo.arrival plans) m.cargo.tariff from rules.arrives.well_formed made.legal in
    omega (arith, least, few, sailed.2)
