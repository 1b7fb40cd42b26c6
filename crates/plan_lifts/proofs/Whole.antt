-- Voyages from plans: the cost of given departures, and the departures that rehandle nothing.
use Rattle.std.specs.Prelude.{◌≡◌, ℕ, Bool, true, false, List, [], ◌∷◌, Option, Some, None, slice_get, length, ◌<◌, ◌≤◌, suc, ◌+◌, cond, All}
use Rattle.std.proofs.Common.{refl, sym, ◌∙◌, ap, arith, subst, ⊎_elim}
use Rattle.std.proofs.lemmas.Bool.{both_ways, cases_Bool, eqb-true}
use Rattle.std.proofs.lemmas.Option.{none-some, same_Some, get_or_from_slice_get, slice_get_within}
use Rattle.std.proofs.lemmas.List.Elements.{All-get_or}
use Rattle.stow_data.specs.declared.cargoes.Container.{Container}
use Rattle.stow_data.specs.Ship.{Ship}
use Rattle.stow_data.specs.Shipment.{Cargo, IsCargo, IsShipped, price}
use Rattle.stow_data.specs.Profile.{IsShip, IsCover, highest}
use Rattle.stow_data.specs.declared.geometry.Stack.{Stack}
use Rattle.voyage_meaning.specs.declared.moves.Move.{Move}
use Rattle.stow_data.specs.Plans.{Plan}
use Rattle.stowage_rules.specs.Plan.{Holds}
use Rattle.stowage_rules.specs.Departure.{IsStowed, IsDeparture, AreDepartures, HasArrival}
use Rattle.voyage_meaning.specs.Moves.{leaves, lift_cost, cost_of_moves}
use Rattle.voyage_meaning.specs.Voyage.{start, LeadsTo, IsVoyage, cost, HasCost}
use Rattle.plan_lifts.specs.Least.{IsClosed, IsFilled, AreClosed, AreLeast, IsDivided, RehandlesNone, RehandleNone, counted, cost_of_lifts}
use Rattle.plan_lifts.proofs.Upper.{leaves_is}
use Rattle.plan_lifts.proofs.Closed.{closed_leads}
use Rattle.plan_lifts.proofs.Voyages.{voyage_costs}

-- each container is bound for a later call than it loads at
abbrev pub InOrder : Cargo → Type 0
InOrder cargo = (c : ℕ) (container : Container) → slice_get cargo.containers c ≡ Some container → container.load < container.dest

-- any closed sets of filled places give a voyage that costs exactly what they do
pub closed_voyage : (ship : Ship) (cargo : Cargo) (earlier : ℕ) (old : Plan) (plans : List Plan) (sets : List (ℕ → Bool))
    → IsDivided ship → InOrder cargo
    → IsStowed ship cargo earlier old → AreDepartures ship cargo (suc earlier) plans → AreClosed ship old plans sets
    → (voyage : List (List Move)) × IsVoyage ship cargo (suc earlier) old voyage plans × (cost ship cargo (suc earlier) old voyage plans ≡ cost_of_lifts cargo (suc earlier) old plans sets)
closed_voyage ship cargo earlier old [] [] divided order stowed departs closed = ([], tt, refl)
closed_voyage ship cargo earlier old [] (f ∷ fs) divided order stowed departs closed = absurd closed
closed_voyage ship cargo earlier old (new ∷ plans) [] divided order stowed departs closed = absurd closed
closed_voyage ship cargo earlier old (new ∷ plans) (f ∷ fs) divided order stowed departs closed =
    let first = closed_leads ship cargo earlier old new f divided order stowed departs.0 closed.0 closed.1 in
    let rest = closed_voyage ship cargo (suc earlier) new plans fs divided order departs.0.stowed departs.1 closed.2 in
    (first.0 ∷ rest.0, (first.1, rest.1), omega (arith, first.2, rest.2))

-- the set of the places whose containers are bound for the call
abbrev pub bound_at : Cargo → ℕ → Option (Option ℕ) → Bool
bound_at cargo call None = false
bound_at cargo call (Some None) = false
bound_at cargo call (Some (Some c)) = leaves cargo call c

abbrev pub bound_for : Cargo → ℕ → Plan → ℕ → Bool
bound_for cargo call plan p = bound_at cargo call (slice_get plan p)

bound_from : (cargo : Cargo) (call : ℕ) (o : Option (Option ℕ)) → bound_at cargo call o ≡ true → (c : ℕ) × (o ≡ Some (Some c)) × (leaves cargo call c ≡ true)
bound_from cargo call None h = absurd (both_ways false refl h)
bound_from cargo call (Some None) h = absurd (both_ways false refl h)
bound_from cargo call (Some (Some c)) h = (c, refl, h)

bound_held : (cargo : Cargo) (call : ℕ) (plan : Plan) (p c : ℕ) → Holds plan p c → bound_for cargo call plan p ≡ leaves cargo call c
bound_held cargo call plan p c held = ap (bound_at cargo call) held

-- what is bound for the call isn't aboard after it
bound_is_gone : (ship : Ship) (cargo : Cargo) (call : ℕ) (new : Plan) (p c : ℕ) → IsDeparture ship cargo call new → leaves cargo call c ≡ true → Holds new p c → ⊥
bound_is_gone ship cargo call new p c departs bound held =
    let box = departs.stowed.well_formed.known p c held in
    let aboard = (departs.stowed.aboard c box.0 box.1).0 (p, held) in
    let at : box.0.dest ≡ call = eqb-true box.0.dest call (sym (leaves_is cargo call c box.0 box.1) ∙ bound) in
    let stays : call < box.0.dest = aboard.stays in
    omega arith

-- a call that rehandles nothing lifts a closed set: what is bound for it
pub none_closed : (ship : Ship) (cargo : Cargo) (call : ℕ) (old new : Plan) → IsDeparture ship cargo call new → RehandlesNone ship cargo call old new → IsClosed ship old new (bound_for cargo call old)
none_closed ship cargo call old new departs none = record {
  changed = λ p c held gone. bound_held cargo call old p c held ∙ ⊎_elim (λ (t : leaves cargo call c ≡ true). t) (λ (f : leaves cargo call c ≡ false). absurd (gone (none.stays p c held f))) (cases_Bool (leaves cargo call c));
  over = λ p q c held over h. let d = bound_from cargo call (slice_get old q) h in bound_held cargo call old p c held ∙ none.below p q c d.0 held d.1 over d.2;
  on_cover = λ p q c held on h. let d = bound_from cargo call (slice_get old q) h in bound_held cargo call old p c held ∙ none.under_cover p q c held on (λ same. bound_is_gone ship cargo call new q d.0 departs d.2 (sym same ∙ d.1));
  on_opened = λ p q c held on differs. bound_held cargo call old p c held ∙ none.under_cover p q c held on differs;
}

bound_filled : (cargo : Cargo) (call : ℕ) (plan : Plan) → IsFilled plan (bound_for cargo call plan)
bound_filled cargo call plan p h = let d = bound_from cargo call (slice_get plan p) h in (d.0, d.1)

free_place : (cargo : Cargo) (call : ℕ) (b : Bool) (o : Option ℕ) → ((c : ℕ) → o ≡ Some c → b ≡ true → leaves cargo call c ≡ true) → cond b (lift_cost cargo call o) 0 ≡ 0
free_place cargo call false o h = refl
free_place cargo call true None h = refl
free_place cargo call true (Some c) h = ap (λ (x : Bool). cond x 0 (price cargo call)) (h c refl refl)

-- a set of which each container is bound for the call costs nothing
free_set : (cargo : Cargo) (call : ℕ) (f : ℕ → Bool) (plan : Plan) → ((p c : ℕ) → Holds plan p c → f p ≡ true → leaves cargo call c ≡ true) → counted (lift_cost cargo call) f plan ≡ 0
free_set cargo call f [] h = refl
free_set cargo call f (None ∷ plan) h = omega (arith, free_place cargo call (f 0) None (λ c e b. absurd (none-some c e)), free_set cargo call (λ p. f (suc p)) plan (λ p c held on. h (suc p) c held on))
free_set cargo call f (Some d ∷ plan) h = omega (arith, free_place cargo call (f 0) (Some d) (λ c e b. h 0 c (ap Some e) b), free_set cargo call (λ p. f (suc p)) plan (λ p c held on. h (suc p) c held on))

-- the moves of a call that rehandles nothing
pub none_leads : (ship : Ship) (cargo : Cargo) (earlier : ℕ) (old new : Plan)
    → IsDivided ship → InOrder cargo
    → IsStowed ship cargo earlier old → IsDeparture ship cargo (suc earlier) new → RehandlesNone ship cargo (suc earlier) old new
    → (moves : List Move) × LeadsTo ship cargo (suc earlier) old moves new × (cost_of_moves cargo (suc earlier) (start ship cargo (suc earlier) old) moves ≡ 0)
none_leads ship cargo earlier old new divided order stowed departs none =
    let r = closed_leads ship cargo earlier old new (bound_for cargo (suc earlier) old) divided order stowed departs (none_closed ship cargo (suc earlier) old new departs none) (bound_filled cargo (suc earlier) old) in
    (r.0, r.1, r.2 ∙ free_set cargo (suc earlier) (bound_for cargo (suc earlier) old) old (λ p c held on. sym (bound_held cargo (suc earlier) old p c held) ∙ on))

-- and of a voyage of such calls
pub none_voyage : (ship : Ship) (cargo : Cargo) (earlier : ℕ) (old : Plan) (plans : List Plan)
    → IsDivided ship → InOrder cargo
    → IsStowed ship cargo earlier old → AreDepartures ship cargo (suc earlier) plans → RehandleNone ship cargo (suc earlier) old plans
    → (voyage : List (List Move)) × IsVoyage ship cargo (suc earlier) old voyage plans × (cost ship cargo (suc earlier) old voyage plans ≡ 0)
none_voyage ship cargo earlier old [] divided order stowed departs none = ([], tt, refl)
none_voyage ship cargo earlier old (new ∷ plans) divided order stowed departs none =
    let first = none_leads ship cargo earlier old new divided order stowed departs.0 none.0 in
    let rest = none_voyage ship cargo (suc earlier) new plans divided order departs.0.stowed departs.1 none.1 in
    (first.0 ∷ rest.0, (first.1, rest.1), omega (arith, first.2, rest.2))

-- what holds of all items holds of each
all_at : {X : Type 0} (P : X → Type 0) (xs : List X) (k : ℕ) (x : X) → All P xs → slice_get xs k ≡ Some x → P x
all_at P xs k x all h = subst P (get_or_from_slice_get xs k x x h) (All-get_or P xs k x (slice_get_within xs k x h) all)

-- stacks under a cover are in the hold, stacks on one are on deck
pub ship_is_divided : (ship : Ship) → IsShip ship → IsDivided ship
ship_is_divided ship rules s j k under on =
    let low = (all_at (IsCover ship) ship.covers j under.cover rules.each_cover under.is_cover).under s under.named in
    let high = (all_at (IsCover ship) ship.covers k on.cover rules.each_cover on.is_cover).on s on.named in
    let same : low.0 ≡ high.0 = same_Some low.0 high.0 (sym low.1 ∙ high.1) in
    let from : 80 ≤ low.0.lowest = subst (λ (x : Stack). 80 ≤ x.lowest) (sym same) high.2.0 in
    let to : highest low.0 ≤ 78 = low.2.1 in
    omega arith

pub cargo_in_order : (cargo : Cargo) → IsCargo cargo → InOrder cargo
cargo_in_order cargo rules c container known = (all_at (IsShipped (length cargo.rotation)) cargo.containers c container rules.each_shipped known).later

-- the cost of departures whose calls rehandle nothing is 0
pub none_cost : (ship : Ship) (cargo : Cargo) (plans : List Plan)
    → IsShip ship → IsCargo cargo → length plans + 1 ≡ length cargo.rotation
    → HasArrival ship cargo → AreDepartures ship cargo 1 plans → RehandleNone ship cargo 1 cargo.arrival plans
    → HasCost ship cargo plans 0
none_cost ship cargo plans ship_rules cargo_rules each arrival departs none =
    let r = none_voyage ship cargo 0 cargo.arrival plans (ship_is_divided ship ship_rules) (cargo_in_order cargo cargo_rules) arrival departs none in
    record { moves = r.0; is_legal = record { each_call = each; voyage = r.1 }; is_number = r.2; least = λ other legal. omega arith }

-- the cost of any departures is that of the least closed sets
pub least_cost : (ship : Ship) (cargo : Cargo) (plans : List Plan) (sets : List (ℕ → Bool))
    → IsShip ship → IsCargo cargo → length plans + 1 ≡ length cargo.rotation
    → HasArrival ship cargo → AreDepartures ship cargo 1 plans → AreClosed ship cargo.arrival plans sets → AreLeast ship cargo.arrival plans sets
    → HasCost ship cargo plans (cost_of_lifts cargo 1 cargo.arrival plans sets)
least_cost ship cargo plans sets ship_rules cargo_rules each arrival departs closed least =
    let r = closed_voyage ship cargo 0 cargo.arrival plans sets (ship_is_divided ship ship_rules) (cargo_in_order cargo cargo_rules) arrival departs closed in
    record { moves = r.0; is_legal = record { each_call = each; voyage = r.1 }; is_number = r.2; least = λ other legal. voyage_costs ship cargo 1 cargo.arrival other plans sets least legal.voyage }
