-- A run of moves, one move longer.
use Rattle.std.specs.Prelude.{◌≡◌, ℕ, ◌<◌, ◌≤◌, ◌+◌, ◌*◌, suc, zero, Bool, true, false, List, [], ◌∷◌, length, take, Option, Some, MatchOption, slice_get}
use Rattle.std.proofs.Common.{refl, sym, ◌∙◌, ap, subst, arith, ⊎_elim}
use Rattle.std.proofs.lemmas.Bool.{both_ways, cases_lt, false_from_ne_true}
use Rattle.std.proofs.lemmas.Option.{slice_get_within, slice_get_past, same_Some, none-some}
use Rattle.stow_data.specs.Ship.{Ship}
use Rattle.stow_data.specs.Shipment.{Cargo}
use Rattle.voyage_meaning.specs.declared.moves.Move.{Move}
use Rattle.stow_data.specs.Plans.{Plan}
use Rattle.voyage_meaning.specs.Moves.{State, Allowed, AllAllowed, after, end_of, cost_of_moves, cost_of_move}
use Rattle.voyage_meaning.specs.declared.berth.Unfinished.{Unfinished}
use Rattle.voyage_meaning.specs.declared.berth.Unfinished.TheVariants.{Quay, Off}
use Rattle.voyage_meaning.specs.Berths.{Berth, BelongsTo, IsFirstUnfinished, NoneSet}
use Rattle.voyage_meaning.specs.Runs.{EndsAt, LeadsBy, Runs, StopsAt}
use Rattle.voyage_meaning.proofs.Loading.{berth_of}
use Rattle.voyage_meaning.proofs.Stepping.{belongs_after}
use Rattle.voyage_meaning.specs.Voyage.{AllOn, start, LeadsTo}
use Rattle.stowage_rules.specs.Plan.{IsWellFormed}
use Rattle.stowage_rules.specs.Departure.{IsDeparture}
use Rattle.stowage_rules.proofs.Items.{same_reads, slice_get_in}

next : {X : Type 0} (f : List Move → X) (moves : List Move) (i : ℕ) → f (take (i + 1) moves) ≡ f (take (suc i) moves)
next f moves i = let e : i + 1 ≡ suc i = omega arith in ap (λ (n : ℕ). f (take n moves)) e

all_more : (ship : Ship) (cargo : Cargo) (call : ℕ) (moves : List Move) (s : State) (i : ℕ) (m : Move) → slice_get moves i ≡ Some m → AllAllowed ship cargo call s (take i moves) → Allowed ship cargo (end_of cargo call s (take i moves)) m → AllAllowed ship cargo call s (take (suc i) moves)
all_more ship cargo call [] s i m is all can = absurd (none-some m is)
all_more ship cargo call (x ∷ xs) s zero m is all can = (subst (λ (y : Move). Allowed ship cargo s y) (sym (same_Some x m is)) can, tt)
all_more ship cargo call (x ∷ xs) s (suc i) m is all can = (all.0, all_more ship cargo call xs (after cargo call s x) i m is all.1 can)

end_more : (cargo : Cargo) (call : ℕ) (moves : List Move) (s : State) (i : ℕ) (m : Move) → slice_get moves i ≡ Some m → end_of cargo call s (take (suc i) moves) ≡ after cargo call (end_of cargo call s (take i moves)) m
end_more cargo call [] s i m is = absurd (none-some m is)
end_more cargo call (x ∷ xs) s zero m is = ap (after cargo call s) (same_Some x m is)
end_more cargo call (x ∷ xs) s (suc i) m is = end_more cargo call xs (after cargo call s x) i m is

sum_more : (cargo : Cargo) (call : ℕ) (moves : List Move) (s : State) (i : ℕ) (m : Move) → slice_get moves i ≡ Some m → cost_of_moves cargo call s (take (suc i) moves) ≡ cost_of_moves cargo call s (take i moves) + cost_of_move cargo call (end_of cargo call s (take i moves)) m
sum_more cargo call [] s i m is = absurd (none-some m is)
sum_more cargo call (x ∷ xs) s zero m is = let e = ap (cost_of_move cargo call s) (same_Some x m is) in omega (arith, e)
sum_more cargo call (x ∷ xs) s (suc i) m is = omega (arith, sum_more cargo call xs (after cargo call s x) i m is)

-- the run so far
pub record RunsTo (ship : Ship) (cargo : Cargo) (call : ℕ) (s : State) (moves : List Move) (i : ℕ) (t : State) (cost : ℕ) : Type 0 where
  pub allowed : AllAllowed ship cargo call s (take i moves)
  pub leads : t ≡ end_of cargo call s (take i moves)
  pub costs : cost ≡ cost_of_moves cargo call s (take i moves)
  pub small : cost ≤ 1000 * i
  pub belongs : BelongsTo ship cargo t

pub run_more : (ship : Ship) (cargo : Cargo) (call : ℕ) (s : State) (moves : List Move) (i : ℕ) (t u : State) (cost more : ℕ) (m : Move) → RunsTo ship cargo call s moves i t cost → slice_get moves i ≡ Some m → Allowed ship cargo t m → u ≡ after cargo call t m → more ≡ cost_of_move cargo call t m → more ≤ 1000 → RunsTo ship cargo call s moves (i + 1) u (cost + more)
run_more ship cargo call s moves i t u cost more m r is can done priced low =
    let e : i + 1 ≡ suc i = omega arith in
    let here : more ≡ cost_of_move cargo call (end_of cargo call s (take i moves)) m = priced ∙ ap (λ (x : State). cost_of_move cargo call x m) r.leads in
    record {
      allowed = subst (λ (n : ℕ). AllAllowed ship cargo call s (take n moves)) (sym e) (all_more ship cargo call moves s i m is r.allowed (subst (λ (x : State). Allowed ship cargo x m) r.leads can));
      leads = done ∙ (ap (λ (x : State). after cargo call x m) r.leads ∙ (sym (end_more cargo call moves s i m is) ∙ ap (λ (n : ℕ). end_of cargo call s (take n moves)) (sym e)));
      costs = (let a = sum_more cargo call moves s i m is in let b = r.costs in let d : cost + more ≡ cost_of_moves cargo call s (take (suc i) moves) = omega (arith, a, b, here) in d) ∙ ap (λ (n : ℕ). cost_of_moves cargo call s (take n moves)) (sym e);
      small = omega (arith, r.small, low);
      belongs = subst (λ (x : State). BelongsTo ship cargo x) (sym done) (belongs_after ship cargo call t m r.belongs can);
    }

-- the end of a run
pub same_plans : (a b : Plan) (n : ℕ) → length a ≡ length b → length a ≤ n → ((p : ℕ) → p < n → slice_get a p ≡ slice_get b p) → a ≡ b
same_plans a b n e l same = same_reads a b (λ p. ⊎_elim
    (λ (i : p < length a). same p (omega arith))
    (λ (o : length a ≤ p). slice_get_past a p o ∙ sym (slice_get_past b p (omega arith)))
    (cases_lt p (length a)))

pub shut_all : (ship : Ship) (off : List Bool) → length off ≡ length ship.covers → NoneSet off → AllOn ship off
shut_all ship off e none k cover is =
    let i : k < length ship.covers = slice_get_within ship.covers k cover is in
    let b = slice_get_in off k (omega arith) in
    b.1 ∙ ap Some (false_from_ne_true b.0 (λ t. none k (b.1 ∙ ap Some t)))

pub none_off : (ship : Ship) (off : List Bool) → length off ≡ length ship.covers → AllOn ship off → NoneSet off
none_off ship off e all c h =
    let i : c < length off = slice_get_within off c true h in
    let cover = slice_get_in ship.covers c (omega arith) in
    both_ways true (same_Some true false (sym h ∙ all c cover.0 cover.1)) refl

-- a run that stops isn't allowed whole
stuck : (ship : Ship) (cargo : Cargo) (call : ℕ) (moves : List Move) (s : State) (i : ℕ) (m : Move) → slice_get moves i ≡ Some m → AllAllowed ship cargo call s moves → Allowed ship cargo (end_of cargo call s (take i moves)) m
stuck ship cargo call [] s i m is all = absurd (none-some m is)
stuck ship cargo call (x ∷ xs) s zero m is all = subst (λ (y : Move). Allowed ship cargo s y) (same_Some x m is) all.0
stuck ship cargo call (x ∷ xs) s (suc i) m is all = stuck ship cargo call xs (after cargo call s x) i m is all.1

pub stops_not : (ship : Ship) (cargo : Cargo) (call : ℕ) (moves : List Move) (s t : State) (n : ℕ) → StopsAt ship cargo call s moves t n → AllAllowed ship cargo call s moves → ⊥
stops_not ship cargo call moves s t n stops all = stops.refused (subst (λ (x : State). Allowed ship cargo x stops.move) (sym stops.leads) (stuck ship cargo call moves s n stops.move stops.is_move all))

pub leads_from : (ship : Ship) (cargo : Cargo) (call : ℕ) (before : Plan) (moves : List Move) (new : Plan) (s t : State) (n : ℕ) → s ≡ start ship cargo call before → Runs ship cargo call s moves t n → EndsAt ship t new → IsDeparture ship cargo call new → LeadsTo ship cargo call before moves new × (n ≡ cost_of_moves cargo call (start ship cargo call before) moves)
leads_from ship cargo call before moves new s t n is runs ends departs =
    let at : t ≡ end_of cargo call (start ship cargo call before) moves = runs.leads ∙ ap (λ (x : State). end_of cargo call x moves) is in (
      record {
        allowed = subst (λ (x : State). AllAllowed ship cargo call x moves) is runs.allowed;
        plan = sym (ap (λ (x : State). x.plan) at) ∙ ends.plan_is;
        quay_empty = λ c h. ends.quay_empty c (ap (λ (x : State). slice_get x.quay c) at ∙ h);
        covers_on = λ k cover is. sym (ap (λ (x : State). slice_get x.off k) at) ∙ ends.covers_on k cover is;
        departure = departs;
      },
      runs.costs ∙ ap (λ (x : State). cost_of_moves cargo call x moves) is,
    )

pub ends_from : (ship : Ship) (cargo : Cargo) (call : ℕ) (before : Plan) (moves : List Move) (new : Plan) (s t : State) (n : ℕ) → s ≡ start ship cargo call before → Runs ship cargo call s moves t n → LeadsTo ship cargo call before moves new → EndsAt ship t new
ends_from ship cargo call before moves new s t n is runs leads =
    let at : t ≡ end_of cargo call (start ship cargo call before) moves = runs.leads ∙ ap (λ (x : State). end_of cargo call x moves) is in
    record {
      plan_is = ap (λ (x : State). x.plan) at ∙ leads.plan;
      quay_empty = λ c h. leads.quay_empty c (sym (ap (λ (x : State). slice_get x.quay c) at) ∙ h);
      covers_on = λ k cover known. ap (λ (x : State). slice_get x.off k) at ∙ leads.covers_on k cover known;
    }

-- what is unfinished isn't finished
pub not_unfinished : (s : State) (u : Unfinished) → IsFirstUnfinished s u → NoneSet s.quay → NoneSet s.off → ⊥
not_unfinished s (Quay c) x quay off = quay c x.holds
not_unfinished s (Off k) x quay off = off k x.1.holds

-- a call's moves, begun at a berth
pub stops_at_berth : (ship : Ship) (cargo : Cargo) (call : ℕ) (before after : Plan) (moves : List Move) (b : Berth) (t : State) (n : ℕ) → b ≡ berth_of call (start ship cargo call before) → StopsAt ship cargo b.call b.state moves t n → LeadsTo ship cargo call before moves after → ⊥
stops_at_berth ship cargo call before after moves b t n is stops leads = stops_not ship cargo b.call moves b.state t n stops (subst (λ (x : Berth). AllAllowed ship cargo x.call x.state moves) (sym is) leads.allowed)

runs_at_berth : (ship : Ship) (cargo : Cargo) (call : ℕ) (before : Plan) (moves : List Move) (b : Berth) (t : State) (n : ℕ) → b ≡ berth_of call (start ship cargo call before) → Runs ship cargo b.call b.state moves t n → Runs ship cargo call (start ship cargo call before) moves t n
runs_at_berth ship cargo call before moves b t n is runs = subst (λ (x : Berth). Runs ship cargo x.call x.state moves t n) is runs

pub leads_at_berth : (ship : Ship) (cargo : Cargo) (call : ℕ) (before new : Plan) (moves : List Move) (b : Berth) (t : State) (n : ℕ) → b ≡ berth_of call (start ship cargo call before) → Runs ship cargo b.call b.state moves t n → EndsAt ship t new → IsDeparture ship cargo call new → LeadsBy ship cargo call before moves new n
leads_at_berth ship cargo call before new moves b t n is runs ends departs =
    let r = leads_from ship cargo call before moves new (start ship cargo call before) t n refl (runs_at_berth ship cargo call before moves b t n is runs) ends departs in
    record { leads = r.0; costs = r.1 }

pub ends_at_berth : (ship : Ship) (cargo : Cargo) (call : ℕ) (before new : Plan) (moves : List Move) (b : Berth) (t : State) (n : ℕ) → b ≡ berth_of call (start ship cargo call before) → Runs ship cargo b.call b.state moves t n → LeadsTo ship cargo call before moves new → EndsAt ship t new
ends_at_berth ship cargo call before new moves b t n is runs leads = ends_from ship cargo call before moves new (start ship cargo call before) t n refl (runs_at_berth ship cargo call before moves b t n is runs) leads

-- the departure of a call that is priced is well formed
pub departs_well : (ship : Ship) (cargo : Cargo) (call : ℕ) (before : Plan) (moves : List Move) (new : Plan) (o : Option ℕ) (here : ℕ) → o ≡ Some here → MatchOption o (LeadsTo ship cargo call before moves new → ⊥) (λ n. LeadsBy ship cargo call before moves new n) → IsWellFormed ship cargo new
departs_well ship cargo call before moves new o here is told = (subst (λ (z : Option ℕ). MatchOption z (LeadsTo ship cargo call before moves new → ⊥) (λ n. LeadsBy ship cargo call before moves new n)) is told).leads.departure.stowed.well_formed
