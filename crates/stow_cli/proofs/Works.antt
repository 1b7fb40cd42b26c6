-- The files of a voyage, made one after the other.
use Rattle.std.proofs.Common.{◌≡◌, ℕ, zero, suc, ◌+◌, ◌<◌, ◌≤◌, List, [], ◌∷◌, ◌++◌, length, get_or, drop, refl, sym, subst, ◌∙◌, ap, arith, append_assoc, Option, Some, None}
use Rattle.std.specs.Prelude.{All, Result, Ok, Err, IfOk}
use Rattle.std.proofs.Math.Nat.{lt_of_lt_of_le}
use Rattle.std.proofs.lemmas.List.{append-nil, drop_all, drop_more}
use Rattle.stow_data.specs.Ship.{Ship}
use Rattle.stow_data.specs.Shipment.{Cargo}
use Rattle.stow_data.specs.Plans.{Plan}
use Rattle.stowage_rules.specs.Plan.{IsWellFormed}
use Rattle.stowage_rules.specs.Departure.{AreDepartures}
use Rattle.arrival_plan.specs.Settled.{groups_of}
use Rattle.plan_files.proofs.Told.{same_rotation}
use Rattle.plan_search.specs.declared.planning.Planned.{Planned}
use Rattle.plan_search.specs.Certified.{HasPlans, Certifies}
use Rattle.stow_io.specs.declared.files.NamedFile.{NamedFile}
use Rattle.voyage_files.specs.declared.answer.Answer.{Answer}
use Rattle.voyage_files.specs.declared.answer.Answer.TheVariants as answer
use Rattle.voyage_files.specs.declared.voyage.BookedVoyage.{BookedVoyage}
use Rattle.voyage_files.specs.Booked.{IsBooked}
use Rattle.model_bridge.specs.Laws.{IsProblem}
use Rattle.stow_cli.specs.Voyages.{Sail, Sails, voyage_of}
use Rattle.stow_cli.specs.Work.{ArePlans, ArePlansOrNone, file_of, files_of, departure_files, IsShort, work_of, AreTextsOf}
use Rattle.stow_cli.specs.Answers.{PlanWithin}
use Rattle.stow_cli.proofs.Messages.{messages_of, all_shown, all_read}

pub files_more : (base : List ℕ) (v : BookedVoyage) (call : ℕ) (front total : List NamedFile) (plans : List Plan) (i : ℕ) (plan : Plan) → i < length plans → plan ≡ get_or plans i plan → front ++ files_of base v call (drop i plans) ≡ total
    → (front ++ file_of base v call plan ∷ []) ++ files_of base v (call + 1) (drop (i + 1) plans) ≡ total
unfolding files_of
files_more base v call front total plans i plan l is e =
    let s : drop i plans ≡ plan ∷ drop (i + 1) plans = drop_more plans i plan l ∙ ap (λ (z : Plan). z ∷ drop (i + 1) plans) (sym is) in
    append_assoc front (file_of base v call plan ∷ []) (files_of base v (call + 1) (drop (i + 1) plans)) ∙ ap (λ (z : List Plan). front ++ files_of base v call z) (sym s) ∙ e

pub files_done : (base : List ℕ) (v : BookedVoyage) (call : ℕ) (front total : List NamedFile) (plans : List Plan) (i : ℕ) → length plans ≤ i → front ++ files_of base v call (drop i plans) ≡ total → front ≡ total
unfolding files_of
files_done base v call front total plans i l e = sym (append-nil front) ∙ ap (λ (z : List Plan). front ++ files_of base v call z) (sym (drop_all i plans l)) ∙ e

-- legal departures are well formed
pub all_formed : (ship : Ship) (cargo : Cargo) (call : ℕ) (plans : List Plan) → AreDepartures ship cargo call plans → All (IsWellFormed ship cargo) plans
all_formed ship cargo call [] h k d l = absurd (omega arith)
all_formed ship cargo call (plan ∷ plans) h zero d l = h.0.stowed.well_formed
all_formed ship cargo call (plan ∷ plans) h (suc k) d l = all_formed ship cargo (suc call) plans h.1 k d (omega arith)

-- legal departures can be written
pub are_plans : (v : BookedVoyage) (plans : List Plan) → AreDepartures v.ship v.cargo 1 plans → length plans + 1 ≡ length v.cargo.rotation → ArePlans v plans
are_plans v plans legal each =
    record { departs = omega (arith, each); formed = all_formed v.ship v.cargo 1 plans legal }

-- the question of a voyage that was read: a ship and a cargo that obey their rules, with an arrival that is stowed by them
pub problem_of : (v : BookedVoyage) → IsBooked v → IsProblem (voyage_of v)
problem_of v b = record { ship = b.ship_rules; cargo = b.cargo_rules; arrives = b.settled.1 }

-- so can plans of a certificate, or none
pub can_be_written : (v : BookedVoyage) (cost : Option ℕ) (plans : Option (List Plan)) → HasPlans (voyage_of v) cost plans → ArePlansOrNone v plans
can_be_written v None None h = tt
can_be_written v None (Some plans) h = absurd h
can_be_written v (Some n) None h = absurd h
can_be_written v (Some n) (Some plans) h = are_plans v plans h.0.legal h.0.each_call

-- the departure files show the plans
sail : (base : List ℕ) (v : BookedVoyage) (cost : Option ℕ) (plans : Option (List Plan)) → IsBooked v → HasPlans (voyage_of v) cost plans → Sail base v (departure_files base v plans) cost
sail base v None None b h = refl
sail base v None (Some plans) b h = absurd h
sail base v (Some n) None b h = absurd h
sail base v (Some n) (Some plans) b h =
    let calls = ap (λ (xs : List (List ℕ)). length xs) (same_rotation v.ship v.bookings (groups_of v.message) v.cargo b.settled.0) in
    let each = h.0.each_call in
    record {
      departures = plans;
      files_are = refl;
      messages = messages_of v 1 plans;
      read = all_read base v 1 plans b (all_formed v.ship v.cargo 1 plans h.0.legal) (omega (arith, each, calls));
      shown = record { each_call = each; shown = all_shown v 1 plans b h.0.legal; legal = h.0.legal };
      costs = h.1;
    }

-- the texts of a certificate and its plans are a plan's answer
pub sails_from : (base : List ℕ) (v : BookedVoyage) (budget : ℕ) (p : Planned) → IsBooked v → Certifies (voyage_of v) budget p.head p.tree → HasPlans (voyage_of v) p.head.rehandles p.plans → IsShort p.head p.tree → Sails base v budget (work_of base v p)
sails_from base v budget p b certified plans short = record {
  head = p.head;
  tree = p.tree;
  certified = certified;
  short = short;
  departures = departure_files base v p.plans;
  files = refl;
  sail = sail base v p.head.rehandles p.plans b plans;
  report = refl;
  finding = refl;
}

pub answers_from : (base : List ℕ) (v : BookedVoyage) (budget : ℕ) (p : Planned) (a : Answer) → IsBooked v → Certifies (voyage_of v) budget p.head p.tree → HasPlans (voyage_of v) p.head.rehandles p.plans → AreTextsOf base v p a → PlanWithin budget base v a
answers_from base v budget p (answer.Work work) b certified plans h = subst (Sails base v budget) (sym h.1) (sails_from base v budget p b certified plans h.0)
answers_from base v budget p (answer.Large line) b certified plans h = record { head = p.head; tree = p.tree; certified = certified; overlong = h; possible = lt_of_lt_of_le h.long certified.short }
answers_from base v budget p (answer.No line) b certified plans h = h
answers_from base v budget p (answer.Input line) b certified plans h = h
answers_from base v budget p answer.Call b certified plans h = h

pub ok_answers : {E : Type 0} (r : Result Answer E) (base : List ℕ) (v : BookedVoyage) (budget : ℕ) (p : Planned) → IsBooked v → Certifies (voyage_of v) budget p.head p.tree → HasPlans (voyage_of v) p.head.rehandles p.plans → IfOk r (AreTextsOf base v p) → IfOk r (PlanWithin budget base v)
ok_answers (Ok a) base v budget p b certified plans h = answers_from base v budget p a b certified plans h
ok_answers (Err e) base v budget p b certified plans h = tt
