-- What the inputs of `cranes` are answered.
use Rattle.std.proofs.Common.{◌≡◌, ℕ, ◌+◌, ◌-◌, ◌≤◌, ◌<◌, List, length, Option, Some, subst, sym, ap, inl, inr, arith}
use Rattle.std.specs.Prelude.{Result, Ok, Err, IfOk, IfErr}
use Rattle.stow_io.specs.Files.{Files}
use Rattle.stow_io.specs.Causes.{Rose}
use Rattle.arrival_plan.specs.Settled.{groups_of}
use Rattle.plan_files.proofs.Told.{same_rotation}
use Rattle.voyage_files.specs.declared.answer.Answer.{Answer}
use Rattle.voyage_files.specs.declared.voyage.BookedVoyage.{BookedVoyage}
use Rattle.voyage_files.specs.declared.reading.ReadStop.{ReadStop}
use Rattle.voyage_files.specs.declared.reading.ReadStop.TheVariants.{Failed, FailedOwn, NoMemory}
use Rattle.voyage_files.specs.declared.reading.Found.{Found}
use Rattle.voyage_files.specs.declared.reading.Found.TheVariants.{Refused, Voyage}
use Rattle.voyage_files.specs.Booked.{IsBooked}
use Rattle.voyage_files.specs.Names.{Names}
use Rattle.voyage_files.specs.Inputs.{IsPast, TurnsDownAt}
use Rattle.voyage_files.specs.Reading.{AreTakenAt, IsFoundAt}
use Rattle.voyage_files.specs.Named.{IsStop}
use Rattle.stow_cli.specs.SharedOut.{SharedAs}
use Rattle.stow_cli.specs.Checks.{AreTexts, IsFileName}
use Rattle.stow_cli.specs.Cranes.{IsCranesRead, IsCranesTo, IsShared}
use Rattle.stow_cli.proofs.Judging.{rose_before}
use Rattle.stow_cli.proofs.Works.{problem_of}

pub taken_at : (names : Names) (call : Option ℕ) (files : Option Files) (found : Found) (v : BookedVoyage) → IsFoundAt names call files found → found ≡ Voyage v → AreTakenAt names call files v
taken_at names call files found v h is = subst (IsFoundAt names call files) is h

pub refused_at : (names : Names) (call : Option ℕ) (files : Option Files) (found : Found) (a : Answer) → IsFoundAt names call files found → found ≡ Refused a → TurnsDownAt names call files a
refused_at names call files found a h is = subst (IsFoundAt names call files) is h

-- a call in time is one of the rotation
pub in_rotation : (v : BookedVoyage) (call : ℕ) → IsBooked v → (IsPast (Some call) v.bookings → ⊥) → call < length v.cargo.rotation
in_rotation v call b in_time =
    let e = ap (λ (xs : List (List ℕ)). length xs) (same_rotation v.ship v.bookings (groups_of v.message) v.cargo b.settled.0) in
    let not_past : length v.bookings.rotation ≤ call → ⊥ = in_time in
    omega (arith, e, not_past)

pub shared_from : {E : Type 0} (r : Result Answer E) (base : List ℕ) (files : Option Files) (call cranes : ℕ) (v : BookedVoyage) (texts : List (List ℕ)) → IsBooked v → length texts + 1 ≡ length v.cargo.rotation → AreTexts base files 1 texts → IfOk r (SharedAs v call cranes texts) → IfOk r (IsShared base files call cranes v)
shared_from (Ok a) base files call cranes v texts b each are h = record { problem = problem_of v b; texts = texts; all = record { each_call = each; are_texts = are }; shared = h }
shared_from (Err e) base files call cranes v texts b each are h = tt

pub shares : {E : Type 0} (r : Result Answer E) (names : Names) (files files' : Option Files) (call cranes : ℕ) (v : BookedVoyage) → AreTakenAt names (Some call) files v → files' ≡ files → IfOk r (IsShared names.base files' call cranes v) → IfOk r (IsCranesTo names call cranes files)
shares (Ok a) names files files' call cranes v t same h = inl (record {
  voyage = v;
  accepted = record { inputs_are = (t.taken).inputs_are; in_time = t.in_time };
  is_shared = subst (λ (fs : Option Files). IsShared names.base fs call cranes v a) same h;
})
shares (Err e) names files files' call cranes v t same h = tt

-- a departure file that isn't read is one that `cranes` reads
pub share_stops : (r : Result Answer ReadStop) (names : Names) (call : ℕ) (files : Option Files) (v : BookedVoyage) (old mid new : ℕ) → AreTakenAt names (Some call) files v → old ≤ mid
    → IfErr r (IsStop (Rose mid new) (IsFileName names.base (length v.cargo.rotation - 1))) → IfErr r (IsStop (Rose old new) (IsCranesRead names call files))
share_stops (Ok a) names call files v old mid new t le h = tt
share_stops (Err (Failed n)) names call files v old mid new t le h = (rose_before old mid new le h.0, inr (record { voyage = v; accepted = record { inputs_are = (t.taken).inputs_are; in_time = t.in_time }; is_name = h.1 }))
share_stops (Err (FailedOwn n)) names call files v old mid new t le h = (rose_before old mid new le h.0, inr (record { voyage = v; accepted = record { inputs_are = (t.taken).inputs_are; in_time = t.in_time }; is_name = h.1 }))
share_stops (Err NoMemory) names call files v old mid new t le h = tt
