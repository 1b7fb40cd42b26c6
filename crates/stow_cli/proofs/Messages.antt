-- The departure files read as bay plan messages, which show the plans.
use Rattle.std.proofs.Common.{◌≡◌, ℕ, zero, suc, ◌+◌, ◌≤◌, List, [], ◌∷◌, length, Option, Some, None, refl, sym, inl, inr, subst, arith}
use Rattle.std.specs.Prelude.{All, map}
use Rattle.stow_data.specs.Plans.{Plan}
use Rattle.stowage_rules.specs.Plan.{IsWellFormed}
use Rattle.stowage_rules.specs.Departure.{AreDepartures}
use Rattle.arrival_plan.specs.Settled.{groups_of}
use Rattle.plan_files.specs.DepartureFile.{AreArrived, groups, message_of}
use Rattle.plan_files.specs.Shown.{ShowAll, shown_by}
use Rattle.baplie.specs.declared.parts.Message.{Message}
use Rattle.plan_files.proofs.Departures.{reads_as}
use Rattle.plan_files.proofs.Planned.{plan_whole}
use Rattle.plan_files.proofs.ShownBy.{plan_shown}
use Rattle.voyage_files.specs.declared.voyage.BookedVoyage.{BookedVoyage}
use Rattle.voyage_files.specs.Booked.{IsBooked, WasRead}
use Rattle.stow_cli.specs.Work.{files_of}
use Rattle.stow_cli.specs.Voyages.{ReadAs}

-- the message of a plan at a call
abbrev pub message_at : BookedVoyage → ℕ → Plan → Message
message_at v call plan = message_of v.cargo v.bookings call (groups v.ship v.cargo v.bookings (groups_of v.message) plan)

-- the messages of plans, of which the first is that of this call
abbrev pub messages_of : BookedVoyage → ℕ → List Plan → List Message
messages_of v call [] = []
messages_of v call (plan ∷ plans) = message_at v call plan ∷ messages_of v (call + 1) plans

-- the groups are those of a bay plan that was read, if there is one
pub have_arrived : (message : Option Message) → WasRead message → AreArrived (groups_of message)
have_arrived None read = inl refl
have_arrived (Some message) read = inr (read.bytes, record { message = message; short = read.short; is_message = read.is_message; are_groups = refl })

pub all_read : (base : List ℕ) (v : BookedVoyage) (call : ℕ) (plans : List Plan) → IsBooked v → All (IsWellFormed v.ship v.cargo) plans → call + length plans ≤ length v.bookings.rotation → ReadAs (files_of base v call plans) (messages_of v call plans)
unfolding files_of
all_read base v call [] b formed h = tt
all_read base v call (plan ∷ plans) b formed h = (
  reads_as v.cargo v.bookings call (groups v.ship v.cargo v.bookings (groups_of v.message) plan)
      (plan_whole v.ship v.bookings (groups_of v.message) v.cargo plan b.ship_rules b.rules b.cargo_rules (have_arrived v.message b.read) b.settled.0 (formed zero plan (omega arith)) call (omega (arith, h))),
  all_read base v (call + 1) plans b (λ k d l. formed (suc k) d (omega (arith, l))) (omega (arith, h)),
)

pub all_shown : (v : BookedVoyage) (call : ℕ) (plans : List Plan) → IsBooked v → AreDepartures v.ship v.cargo call plans → ShowAll v.ship v.cargo call (map shown_by (messages_of v call plans)) plans
all_shown v call [] b legal = tt
all_shown v call (plan ∷ plans) b legal =
    let next : call + 1 ≡ suc call = omega arith in (
      plan_shown v.ship v.bookings (groups_of v.message) v.cargo b.settled.0 plan call b.ship_rules b.cargo_rules legal.0.stowed,
      subst (λ (n : ℕ). ShowAll v.ship v.cargo (suc call) (map shown_by (messages_of v n plans)) plans) (sym next) (all_shown v (suc call) plans b legal.1),
    )
