-- The sets that a call's moves go by, and what the moves come to.
use Rattle.std.specs.Prelude.{Result, Ok, Err, IfOk, ◌≡◌, ◌↔◌, ◌⊎◌, ℕ, ◌+◌, ◌-◌, ◌≤◌, ◌<◌, Bool, true, false, List, [], ◌∷◌, ◌++◌, Option, length, slice_get, suc, cond, Contains, ◌&&◌, if◌then◌else◌}
use Rattle.std.proofs.Common.{refl, sym, ◌∙◌, ap, arith, subst, inl, inr, ⊎_elim, append_assoc}
use mathlib.Core.Path.{fun_ext}
use Rattle.std.proofs.lemmas.Bool.{both_ways, false_from_ne_true, cases_Bool, and_from, and_parts}
use Rattle.std.proofs.lemmas.List.{append-nil}
use Rattle.std.proofs.lemmas.Option.{same_Some}
use Rattle.stow_data.specs.declared.geometry.Place.{Place}
use Rattle.stow_data.specs.Ship.{Ship, StandsOn}
use Rattle.stow_data.specs.Shipment.{Cargo, IsCargo}
use Rattle.stow_data.specs.Profile.{IsShip}
use Rattle.stow_data.specs.Plans.{Plan, IsKnown}
use Rattle.stowage_rules.specs.Plan.{IsWellFormed}
use Rattle.stowage_rules.specs.Departure.{AreDepartures, IsStowed, IsDeparture}
use Rattle.voyage_meaning.specs.declared.moves.Move.{Move}
use Rattle.voyage_meaning.specs.Moves.{lift_cost, cost_of_moves}
use Rattle.voyage_meaning.specs.Voyage.{start, LeadsTo, IsVoyage, IsLegalVoyage, HasCost, cost, voyage_cost}
use Rattle.plan_lifts.specs.Least.{IsClosed, IsLeastClosed, IsFilled, IsDivided, AreLeast, counted}
use Rattle.plan_lifts.specs.Spread.{IsHeldIn, IsOpened}
use Rattle.plan_lifts.specs.Lifted.{AreLifted, AreListed, IsListed, SailsLeast, lifts_weight}
use Rattle.plan_lifts.specs.Passes.{IsCallMoves, IsOnCover, Sets, IsListedAt, put_of, puts_from}
use Rattle.plan_lifts.proofs.Order.{over_is_later}
use Rattle.plan_lifts.proofs.Closed.{same_cell, same_cell_true, same_cell_itself, is_held, held_by}
use Rattle.plan_lifts.proofs.Upper.{Facts, moves, moves_reach}
use Rattle.plan_lifts.proofs.Exact.{moves_cost, moves_weigh}
use Rattle.plan_lifts.proofs.Voyages.{call_costs}
use Rattle.plan_lifts.proofs.Whole.{InOrder, ship_is_divided, cargo_in_order}

-- cells that don't differ are the same
same_or : (a b : Option (Option ℕ)) → ((a ≡ b → ⊥) → ⊥) → a ≡ b
same_or a b h = ⊎_elim
    (λ (t : same_cell a b ≡ true). same_cell_true a b t)
    (λ (f : same_cell a b ≡ false). absurd (h (λ e. both_ways (same_cell a b) f (ap (same_cell a) (sym e) ∙ same_cell_itself a))))
    (cases_Bool (same_cell a b))

same_truth : (a b : Bool) → (a ≡ true → b ≡ true) → (b ≡ true → a ≡ true) → a ≡ b
same_truth true b to from = sym (to refl)
same_truth false true to from = from refl
same_truth false false to from = refl

pub facts_of : (ship : Ship) (cargo : Cargo) (earlier : ℕ) (old new : Plan) (lifted moved deck opened due : ℕ → Bool)
    → IsDivided ship → InOrder cargo → IsStowed ship cargo earlier old → IsDeparture ship cargo (suc earlier) new
    → IsClosed ship old new lifted → IsFilled old lifted → Sets ship old new lifted moved deck opened due
    → Facts ship cargo (suc earlier) old new lifted moved deck opened due
facts_of ship cargo earlier old new lifted moved deck opened due divided in_order before departs closed filled sets = record {
  old_formed = before.well_formed;
  old_aboard = λ c container known. let iff = before.aboard c container known in
      ((λ x. let r = iff.0 x in (omega (arith, r.loaded), omega (arith, r.stays))), (λ r. iff.1 (record { loaded = omega (arith, r.0); stays = omega (arith, r.1) })));
  new_stowed = departs.stowed;
  in_order = in_order;
  closed = closed;
  only = filled;
  moved_true = λ p m. (sets.moves p).0 m;
  moved_false = λ p m. (
    false_from_ne_true (lifted p) (λ h. both_ways (moved p) m ((sets.moves p).1 (inl h))),
    same_or (slice_get old p) (slice_get new p) (λ differs. both_ways (moved p) m ((sets.moves p).1 (inr differs))),
  );
  due_true = λ p d. let w = (sets.dues p).0 d in (w.in_set, (w.container, w.holds));
  due_false = λ p d. ⊎_elim
      (λ (t : moved p ≡ true). inr (λ c held. both_ways (due p) d ((sets.dues p).1 (record { container = c; holds = held; in_set = t }))))
      (λ (f : moved p ≡ false). inl f)
      (cases_Bool (moved p));
  later = over_is_later ship;
  deck_same = λ p q over. same_truth (deck p) (deck q)
      (λ h.
      let w = (sets.decks p).0 h in
      let one : w.place ≡ over.upper = same_Some w.place over.upper (sym w.is_place ∙ over.is_upper) in
      (sets.decks q).1 (record { place = over.lower; is_place = over.is_lower; cover = w.cover; on = subst (λ (s : ℕ). StandsOn ship s w.cover) (ap (λ (z : Place). z.stack) one ∙ over.same_stack) w.on }))
      (λ h.
      let w = (sets.decks q).0 h in
      let one : w.place ≡ over.lower = same_Some w.place over.lower (sym w.is_place ∙ over.is_lower) in
      (sets.decks p).1 (record { place = over.upper; is_place = over.is_upper; cover = w.cover; on = subst (λ (s : ℕ). StandsOn ship s w.cover) (ap (λ (z : Place). z.stack) one ∙ sym over.same_stack) w.on }));
  deck_stands = λ p k place is on. (sets.decks p).1 (record { place = place; is_place = is; cover = k; on = on });
  deck_not_under = λ p k place is under. false_from_ne_true (deck p) (λ h.
      let w = (sets.decks p).0 h in
      let one : w.place ≡ place = same_Some w.place place (sym w.is_place ∙ is) in
      divided place.stack k w.cover under (subst (λ (s : ℕ). StandsOn ship s w.cover) (ap (λ (z : Place). z.stack) one) w.on));
  opened_by = λ k q place is under m. (sets.opens k).1 (q, record { place = place; is_place = is; under = under; in_set = m });
  opened_for = λ k o. let w = (sets.opens k).0 o in (w.0, (w.1.place, w.1.is_place, w.1.under), w.1.in_set);
}

-- the passes of the sets lead from the old plan to the new one, and cost what the set does
pub passes_lead : (ship : Ship) (cargo : Cargo) (earlier : ℕ) (old new : Plan) (lifted moved deck opened due : ℕ → Bool) (ms : List Move)
    → IsDivided ship → InOrder cargo → IsStowed ship cargo earlier old → IsDeparture ship cargo (suc earlier) new
    → IsClosed ship old new lifted → IsFilled old lifted → Sets ship old new lifted moved deck opened due
    → ((facts : Facts ship cargo (suc earlier) old new lifted moved deck opened due) → ms ≡ moves ship cargo (suc earlier) old new lifted moved deck opened due facts)
    → LeadsTo ship cargo (suc earlier) old ms new × (cost_of_moves cargo (suc earlier) (start ship cargo (suc earlier) old) ms ≡ counted (lift_cost cargo (suc earlier)) lifted old)
passes_lead ship cargo earlier old new lifted moved deck opened due ms divided in_order before departs closed filled sets made =
    let facts = facts_of ship cargo earlier old new lifted moved deck opened due divided in_order before departs closed filled sets in
    let reach = moves_reach ship cargo (suc earlier) old new lifted moved deck opened due facts in
    subst (λ (x : List Move). LeadsTo ship cargo (suc earlier) old x new × (cost_of_moves cargo (suc earlier) (start ship cargo (suc earlier) old) x ≡ counted (lift_cost cargo (suc earlier)) lifted old)) (sym (made facts)) (
      record { allowed = reach.0; plan = reach.1.plan; quay_empty = reach.1.quay_empty; covers_on = reach.1.covers_on; departure = departs },
      moves_cost ship cargo (suc earlier) old new lifted moved deck opened due facts,
    )

-- and weigh the set, by any weight
pub passes_weigh : (w : Option ℕ → ℕ) (ship : Ship) (cargo : Cargo) (earlier : ℕ) (old new : Plan) (lifted moved deck opened due : ℕ → Bool) (ms : List Move)
    → IsDivided ship → InOrder cargo → IsStowed ship cargo earlier old → IsDeparture ship cargo (suc earlier) new
    → IsClosed ship old new lifted → IsFilled old lifted → Sets ship old new lifted moved deck opened due
    → ((facts : Facts ship cargo (suc earlier) old new lifted moved deck opened due) → ms ≡ moves ship cargo (suc earlier) old new lifted moved deck opened due facts)
    → lifts_weight w cargo (suc earlier) (start ship cargo (suc earlier) old) ms ≡ counted w lifted old
passes_weigh w ship cargo earlier old new lifted moved deck opened due ms divided in_order before departs closed filled sets made =
    let facts = facts_of ship cargo earlier old new lifted moved deck opened due divided in_order before departs closed filled sets in
    ap (λ (x : List Move). lifts_weight w cargo (suc earlier) (start ship cargo (suc earlier) old) x) (made facts) ∙ moves_weigh w ship cargo (suc earlier) old new lifted moved deck opened due facts

-- a least closed set is filled
pub least_filled : (ship : Ship) (before after : Plan) (set : ℕ → Bool) → IsLeastClosed ship before after set → IsFilled before set
least_filled ship before after set least p h = held_by (slice_get before p) (and_parts (set p) (is_held (slice_get before p)) (least.least (λ q. set q && is_held (slice_get before q)) (record {
  changed = λ q c held gone. and_from (set q) (is_held (slice_get before q)) (least.closed.changed q c held gone) (ap is_held held);
  over = λ q r c held over x. and_from (set q) (is_held (slice_get before q)) (least.closed.over q r c held over (and_parts (set r) (is_held (slice_get before r)) x).0) (ap is_held held);
  on_cover = λ q r c held on x. and_from (set q) (is_held (slice_get before q)) (least.closed.on_cover q r c held on (and_parts (set r) (is_held (slice_get before r)) x).0) (ap is_held held);
  on_opened = λ q r c held on differs. and_from (set q) (is_held (slice_get before q)) (least.closed.on_opened q r c held on differs) (ap is_held held);
}) p h)).1

-- the places of the listed containers are the set
pub listed_places : (ship : Ship) (cargo : Cargo) (before : Plan) (set lifted : ℕ → Bool) (list : List ℕ) → IsWellFormed ship cargo before → IsFilled before set → IsListed before set list
    → ((p : ℕ) → (lifted p ≡ true) ↔ IsListedAt before list p) → lifted ≡ set
listed_places ship cargo before set lifted list formed filled listed at = fun_ext (λ p. same_truth (lifted p) (set p)
    (λ h. let w = (at p).0 h in let s = (listed.stands w.container).0 w.named in ap set (formed.once p s.0 w.container w.holds s.1.holds) ∙ s.1.in_set)
    (λ h. let w = filled p h in (at p).1 (record { container = w.0; holds = w.1; named = (listed.stands w.0).1 (p, record { holds = w.1; in_set = h }) })))

-- a list that is made step by step from the greatest number down, whole when it began
push_down : (b : Bool) (m : Move) (list new rest whole : List Move) → list ++ cond b (m ∷ rest) rest ≡ whole → new ≡ (if b then list ++ m ∷ [] else list) → new ++ rest ≡ whole
push_down true m list new rest whole before made = ap (λ (x : List Move). x ++ rest) made ∙ (append_assoc list (m ∷ []) rest ∙ before)
push_down false m list new rest whole before made = ap (λ (x : List Move). x ++ rest) made ∙ before

pub down_more : (make : ℕ → Move) (f : ℕ → Bool) (rest : ℕ → List Move) → ((k : ℕ) → rest (suc k) ≡ cond (f k) (make k ∷ rest k) (rest k))
    → (n done : ℕ) (b : Bool) (list new whole : List Move) → done < n → list ++ rest (n - done) ≡ whole → b ≡ f (n - done - 1)
    → new ≡ (if b then list ++ make (n - done - 1) ∷ [] else list) → new ++ rest (n - (done + 1)) ≡ whole
down_more make f rest step n done b list new whole low before is made =
    let k : ℕ = n - done - 1 in
    let top : n - done ≡ suc k = omega arith in
    let next : n - (done + 1) ≡ k = omega arith in
    let here : list ++ cond b (make k ∷ rest k) (rest k) ≡ whole = ap (λ (x : Bool). list ++ cond x (make k ∷ rest k) (rest k)) is ∙ (ap (λ (x : List Move). list ++ x) (sym (step k)) ∙ (ap (λ (x : ℕ). list ++ rest x) (sym top) ∙ before)) in
    ap (λ (x : ℕ). new ++ rest x) next ∙ push_down b (make k) list new (rest k) whole here made

pub down_end : (rest : ℕ → List Move) → rest 0 ≡ [] → (n done : ℕ) (list whole : List Move) → n ≤ done → list ++ rest (n - done) ≡ whole → list ≡ whole
down_end rest none n done list whole all made =
    let end : n - done ≡ 0 = omega arith in
    sym (append-nil list) ∙ (ap (λ (x : List Move). list ++ x) (sym none) ∙ (ap (λ (x : ℕ). list ++ rest x) (sym end) ∙ made))

-- the same from the least number up
pub up_more : (f : ℕ → Bool) (plan : Plan) (n p : ℕ) (b : Bool) (list new whole : List Move) → p < n → list ++ puts_from f plan p (n - p) ≡ whole → b ≡ f p
    → new ≡ list ++ cond b (put_of p (slice_get plan p)) [] → new ++ puts_from f plan (p + 1) (n - (p + 1)) ≡ whole
up_more f plan n p b list new whole low before is made =
    let k : ℕ = n - p - 1 in
    let top : n - p ≡ suc k = omega arith in
    let next : n - (p + 1) ≡ k = omega arith in
    let up : p + 1 ≡ suc p = omega arith in
    let here : list ++ (cond (f p) (put_of p (slice_get plan p)) [] ++ puts_from f plan (suc p) k) ≡ whole = ap (λ (x : ℕ). list ++ puts_from f plan p x) (sym top) ∙ before in
    ap (λ (x : ℕ). new ++ puts_from f plan (p + 1) x) next
    ∙ (ap (λ (x : ℕ). new ++ puts_from f plan x k) up
    ∙ (ap (λ (x : List Move). x ++ puts_from f plan (suc p) k) (made ∙ ap (λ (x : Bool). list ++ cond x (put_of p (slice_get plan p)) []) is)
    ∙ (append_assoc list (cond (f p) (put_of p (slice_get plan p)) []) (puts_from f plan (suc p) k) ∙ here)))

pub up_end : (f : ℕ → Bool) (plan : Plan) (n p : ℕ) (list whole : List Move) → n ≤ p → list ++ puts_from f plan p (n - p) ≡ whole → list ≡ whole
up_end f plan n p list whole all made =
    let end : n - p ≡ 0 = omega arith in
    sym (append-nil list) ∙ (ap (λ (x : ℕ). list ++ puts_from f plan p x) (sym end) ∙ made)

-- of lists of lifts: what the first names is known, and those after it
first_named : (cargo : Cargo) (before : Plan) (plans : List Plan) (plan : Plan) (sets : List (ℕ → Bool)) (list : List ℕ) (lists : List (List ℕ)) → IsKnown cargo before → AreListed before (plan ∷ plans) sets (list ∷ lists) → (c : ℕ) → Contains list c → c < length cargo.containers
first_named cargo before plans plan [] list lists known listed c x = absurd listed
first_named cargo before plans plan (set ∷ sets) list lists known listed c x = let at = (listed.0.stands c).0 x in known at.0 c at.1.holds

pub named_known : (ship : Ship) (cargo : Cargo) (before plan : Plan) (plans : List Plan) (list : List ℕ) (lists : List (List ℕ)) → IsKnown cargo before → AreLifted ship before (plan ∷ plans) (list ∷ lists) → (c : ℕ) → Contains list c → c < length cargo.containers
named_known ship cargo before plan plans list lists known lifted = first_named cargo before plans plan lifted.sets list lists known lifted.listed

rest_of : (ship : Ship) (before plan : Plan) (plans : List Plan) (sets : List (ℕ → Bool)) (list : List ℕ) (lists : List (List ℕ)) → AreLeast ship before (plan ∷ plans) sets → AreListed before (plan ∷ plans) sets (list ∷ lists) → AreLifted ship plan plans lists
rest_of ship before plan plans [] list lists least listed = absurd least
rest_of ship before plan plans (set ∷ sets) list lists least listed = record { sets = sets; least = least.1; listed = listed.1 }

pub lifted_rest : (ship : Ship) (before plan : Plan) (plans : List Plan) (list : List ℕ) (lists : List (List ℕ)) → AreLifted ship before (plan ∷ plans) (list ∷ lists) → AreLifted ship plan plans lists
lifted_rest ship before plan plans list lists lifted = rest_of ship before plan plans lifted.sets list lists lifted.least lifted.listed

-- without lists there are no plans
pub lifted_none : (ship : Ship) (before : Plan) (plans : List Plan) → AreLifted ship before plans [] → plans ≡ []
lifted_none ship before [] lifted = refl
lifted_none ship before (plan ∷ plans) lifted = none lifted.sets lifted.least lifted.listed
  where
    none : (sets : List (ℕ → Bool)) → AreLeast ship before (plan ∷ plans) sets → AreListed before (plan ∷ plans) sets [] → (plan ∷ plans) ≡ []
    none [] least listed = absurd least
    none (set ∷ sets) least listed = absurd listed

pub sail_none : (ship : Ship) (cargo : Cargo) (call : ℕ) (before : Plan) (old : List (List Move)) → SailsLeast ship cargo call before [] old old
sail_none ship cargo call before old = record { voyage = []; appended = sym (append-nil old); legal = tt; least = λ other legal. omega arith }

sail_made : (ship : Ship) (cargo : Cargo) (earlier : ℕ) (before plan : Plan) (plans : List Plan) (sets : List (ℕ → Bool)) (list : List ℕ) (lists : List (List ℕ)) (ms : List Move) (old mid new : List (List Move))
    → IsDivided ship → InOrder cargo → IsStowed ship cargo earlier before → IsDeparture ship cargo (suc earlier) plan
    → AreLeast ship before (plan ∷ plans) sets → AreListed before (plan ∷ plans) sets (list ∷ lists)
    → IsCallMoves ship before plan list ms → mid ≡ old ++ ms ∷ []
    → SailsLeast ship cargo (suc (suc earlier)) plan plans mid new
    → SailsLeast ship cargo (suc earlier) before (plan ∷ plans) old new
sail_made ship cargo earlier before plan plans [] list lists ms old mid new divided in_order stowed departs least listed made pushed rest = absurd least
sail_made ship cargo earlier before plan plans (set ∷ sets) list lists ms old mid new divided in_order stowed departs least listed made pushed rest =
    record {
      voyage = ms ∷ rest.voyage;
      appended = rest.appended ∙ (ap (λ (x : List (List Move)). x ++ rest.voyage) pushed ∙ append_assoc old (ms ∷ []) rest.voyage);
      legal = (lead.0, rest.legal);
      least = fewest;
    }
  where
    filled : IsFilled before set
    filled = least_filled ship before plan set least.0

    same : made.lifted ≡ set
    same = listed_places ship cargo before set made.lifted list stowed.well_formed filled listed.0 made.listed

    lead : LeadsTo ship cargo (suc earlier) before ms plan × (cost_of_moves cargo (suc earlier) (start ship cargo (suc earlier) before) ms ≡ counted (lift_cost cargo (suc earlier)) made.lifted before)
    lead = passes_lead ship cargo earlier before plan made.lifted made.moved made.deck made.opened made.due ms divided in_order stowed departs
        (subst (λ (f : ℕ → Bool). IsClosed ship before plan f) (sym same) least.0.closed)
        (subst (λ (f : ℕ → Bool). IsFilled before f) (sym same) filled)
        made.sets (λ facts. made.made)

    fewest : (other : List (List Move)) → IsVoyage ship cargo (suc earlier) before other (plan ∷ plans) → cost ship cargo (suc earlier) before (ms ∷ rest.voyage) (plan ∷ plans) ≤ cost ship cargo (suc earlier) before other (plan ∷ plans)
    fewest [] legal = absurd legal
    fewest (xs ∷ other) legal =
        let costs = ap (λ (f : ℕ → Bool). counted (lift_cost cargo (suc earlier)) f before) same in
        omega (arith, lead.1, costs, call_costs ship cargo (suc earlier) before plan xs set least.0 legal.0, rest.least other legal.1)

pub sail_more : (ship : Ship) (cargo : Cargo) (earlier : ℕ) (before plan : Plan) (plans : List Plan) (list : List ℕ) (lists : List (List ℕ)) (ms : List Move) (old mid new : List (List Move))
    → IsShip ship → IsCargo cargo → IsStowed ship cargo earlier before → IsDeparture ship cargo (suc earlier) plan
    → AreLifted ship before (plan ∷ plans) (list ∷ lists)
    → IsCallMoves ship before plan list ms → mid ≡ old ++ ms ∷ []
    → SailsLeast ship cargo (suc (suc earlier)) plan plans mid new
    → SailsLeast ship cargo (suc earlier) before (plan ∷ plans) old new
sail_more ship cargo earlier before plan plans list lists ms old mid new ship_rules cargo_rules stowed departs lifted made pushed rest =
    sail_made ship cargo earlier before plan plans lifted.sets list lists ms old mid new (ship_is_divided ship ship_rules) (cargo_in_order cargo cargo_rules) stowed departs lifted.least lifted.listed made pushed rest

pub sets_made : (ship : Ship) (old new : Plan) (lifted changed moved deck opened due : ℕ → Bool)
    → ((p : ℕ) → (changed p ≡ true) ↔ (slice_get old p ≡ slice_get new p → ⊥))
    → ((p : ℕ) → (moved p ≡ true) ↔ ((changed p ≡ true) ⊎ (lifted p ≡ true)))
    → ((p : ℕ) → (deck p ≡ true) ↔ IsOnCover ship p)
    → ((k : ℕ) → (opened k ≡ true) ↔ IsOpened ship moved k)
    → ((p : ℕ) → (due p ≡ true) ↔ IsHeldIn new moved p)
    → Sets ship old new lifted moved deck opened due
sets_made ship old new lifted changed moved deck opened due changes adds decks opens dues = record {
  moves = λ p. (
    λ h. ⊎_elim (λ (x : changed p ≡ true). inr ((changes p).0 x)) (λ (x : lifted p ≡ true). inl x) ((adds p).0 h),
    λ x. (adds p).1 (⊎_elim (λ (h : lifted p ≡ true). inr h) (λ (d : slice_get old p ≡ slice_get new p → ⊥). inl ((changes p).1 d)) x),
  );
  decks = decks;
  opens = opens;
  dues = dues;
}

no_plans : (plans : List Plan) → length plans ≡ 0 → plans ≡ []
no_plans [] h = refl
no_plans (plan ∷ plans) h = absurd (omega arith)

no_lists : (lists : List (List ℕ)) → length lists ≡ 0 → lists ≡ []
no_lists [] h = refl
no_lists (list ∷ lists) h = absurd (omega arith)

-- where there are no plans, or no lists, nothing is appended
pub sail_end : (ship : Ship) (cargo : Cargo) (call : ℕ) (before : Plan) (plans : List Plan) (old : List (List Move)) → length plans ≡ 0 → SailsLeast ship cargo call before plans old old
sail_end ship cargo call before plans old none = subst (λ (ps : List Plan). SailsLeast ship cargo call before ps old old) (sym (no_plans plans none)) (sail_none ship cargo call before old)

pub sail_unlisted : (ship : Ship) (cargo : Cargo) (call : ℕ) (before : Plan) (plans : List Plan) (lists : List (List ℕ)) (old : List (List Move)) → AreLifted ship before plans lists → length lists ≡ 0 → SailsLeast ship cargo call before plans old old
sail_unlisted ship cargo call before plans lists old lifted none =
    let empty : plans ≡ [] = lifted_none ship before plans (subst (λ (ls : List (List ℕ)). AreLifted ship before plans ls) (no_lists lists none) lifted) in
    subst (λ (ps : List Plan). SailsLeast ship cargo call before ps old old) (sym empty) (sail_none ship cargo call before old)

-- what is known of the first plan and the first list, and of those after them
pub legal_parts : (ship : Ship) (cargo : Cargo) (call : ℕ) (plan : Plan) (plans others : List Plan) → plans ≡ plan ∷ others → AreDepartures ship cargo call plans → IsDeparture ship cargo call plan × AreDepartures ship cargo (suc call) others
legal_parts ship cargo call plan plans others parts legal = subst (λ (ps : List Plan). AreDepartures ship cargo call ps) parts legal

pub lifted_parts : (ship : Ship) (before plan : Plan) (plans others : List Plan) (list : List ℕ) (lists rest : List (List ℕ)) → plans ≡ plan ∷ others → lists ≡ list ∷ rest → AreLifted ship before plans lists → AreLifted ship before (plan ∷ others) (list ∷ rest)
lifted_parts ship before plan plans others list lists rest parts items lifted = subst (λ (ps : List Plan). AreLifted ship before ps (list ∷ rest)) parts (subst (λ (ls : List (List ℕ)). AreLifted ship before plans ls) items lifted)

pub sail_step : (ship : Ship) (cargo : Cargo) (earlier next : ℕ) (before plan : Plan) (plans others : List Plan) (list : List ℕ) (lists rest : List (List ℕ)) (ms : List Move) (old mid new : List (List Move))
    → plans ≡ plan ∷ others → lists ≡ list ∷ rest → next ≡ suc earlier
    → IsShip ship → IsCargo cargo → IsStowed ship cargo earlier before → AreDepartures ship cargo (suc earlier) plans → AreLifted ship before plans lists
    → IsCallMoves ship before plan list ms → mid ≡ old ++ ms ∷ []
    → SailsLeast ship cargo (suc next) plan others mid new
    → SailsLeast ship cargo (suc earlier) before plans old new
sail_step ship cargo earlier next before plan plans others list lists rest ms old mid new parts items is ship_rules cargo_rules stowed legal lifted made pushed later =
    subst (λ (ps : List Plan). SailsLeast ship cargo (suc earlier) before ps old new) (sym parts)
    (sail_more ship cargo earlier before plan others list rest ms old mid new ship_rules cargo_rules stowed
    (legal_parts ship cargo (suc earlier) plan plans others parts legal).0
    (lifted_parts ship before plan plans others list lists rest parts items lifted)
    made pushed (subst (λ (n : ℕ). SailsLeast ship cargo (suc n) plan others mid new) is later))

-- from the arrival on: a legal voyage of the cost
pub sails_legal : (ship : Ship) (cargo : Cargo) (before : Plan) (plans : List Plan) (old new : List (List Move)) → old ≡ [] → before ≡ cargo.arrival → length plans + 1 ≡ length cargo.rotation → SailsLeast ship cargo 1 before plans old new → IsLegalVoyage ship cargo new plans
sails_legal ship cargo before plans old new none arrived each sails = record {
  each_call = each;
  voyage = subst (λ (x : Plan). IsVoyage ship cargo 1 x new plans) arrived (subst (λ (x : List (List Move)). IsVoyage ship cargo 1 before x plans) (sym (sails.appended ∙ ap (λ (x : List (List Move)). x ++ sails.voyage) none)) sails.legal);
}

pub sails_cost : (ship : Ship) (cargo : Cargo) (before : Plan) (plans : List Plan) (old new : List (List Move)) (n : ℕ) → old ≡ [] → before ≡ cargo.arrival → length plans + 1 ≡ length cargo.rotation → SailsLeast ship cargo 1 before plans old new → HasCost ship cargo plans n → voyage_cost ship cargo new plans ≡ n
sails_cost ship cargo before plans old new n none arrived each sails counted =
    let made : new ≡ sails.voyage = sails.appended ∙ ap (λ (x : List (List Move)). x ++ sails.voyage) none in
    let same : cost ship cargo 1 cargo.arrival new plans ≡ cost ship cargo 1 before sails.voyage plans = ap (λ (x : List (List Move)). cost ship cargo 1 cargo.arrival x plans) made ∙ ap (λ (x : Plan). cost ship cargo 1 x sails.voyage plans) (sym arrived) in
    let other : IsVoyage ship cargo 1 before counted.moves plans = subst (λ (x : Plan). IsVoyage ship cargo 1 x counted.moves plans) (sym arrived) counted.is_legal.voyage in
    let arrives : cost ship cargo 1 before counted.moves plans ≡ cost ship cargo 1 cargo.arrival counted.moves plans = ap (λ (x : Plan). cost ship cargo 1 x counted.moves plans) arrived in
    let up = counted.least new (sails_legal ship cargo before plans old new none arrived each sails) in
    let down = sails.least counted.moves other in
    omega (arith, same, arrives, up, down, counted.is_number)

-- what follows of an answer that is Ok, whatever its value
pub after_ok : {T E : Type 0} (P Q : Type 0) (r : Result T E) → (P → Q) → IfOk r (λ x. P) → IfOk r (λ x. Q)
after_ok P Q (Ok x) f p = f p
after_ok P Q (Err e) f p = tt
