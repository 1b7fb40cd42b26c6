use Rattle.std.proofs.Common.{◌≡◌, ◌<◌, ℕ, List, length, sym, ap, subst, ◌∙◌}
use Rattle.std.specs.List.{flat_map}
use Rattle.std.proofs.lemmas.Option.{slice_get_within}
use Rattle.std.proofs.lemmas.Result.{IfOk-weaker}
use Rattle.edifact_segments.specs.Written.{written}
use Rattle.baplie.specs.declared.parts.Message.{Message}
use Rattle.baplie.specs.Messages.{IsMessageOf}
use Rattle.baplie.specs.Whole.{IsWhole, segments_of}
use Rattle.plan_files.specs.DepartureFile.{file_text, groups, message_of}
use Rattle.plan_files.proofs.Departures.{reads_as}
use Rattle.plan_files.proofs.Planned.{plan_whole}
use Rattle.plan_files.proofs.Told.{all_told, same_rotation}
use Rattle.plan_files.proofs.departure_file.departure_text.Goals as goal

pub write_baplie-requires : goal.write_baplie-requires
write_baplie-requires c =
    let W : Message → Type 0 = λ m. IsWhole m in
    subst W (sym c.in_ok-message.ensures) (plan_whole c.args.ship.now c.args.bookings.now c.args.arrived.now c.args.cargo.now c.args.plan.now c.obeys_rules.ensures c.requires.rules c.obeys_rules-2.ensures c.requires.arrived c.requires.cargo c.requires.formed c.args.call c.requires.departs)

pub message_of-requires-clause-told : goal.message_of-requires-clause-told
message_of-requires-clause-told c = all_told c.args.ship.now c.args.bookings.now c.args.arrived.now c.args.cargo.now c.requires.cargo

pub message_of-requires-clause-departs : goal.message_of-requires-clause-departs
message_of-requires-clause-departs c = subst (λ (ports : List (List ℕ)). c.args.call < length ports) (sym (same_rotation c.args.ship.now c.args.bookings.now c.args.arrived.now c.args.cargo.now c.requires.cargo)) c.requires.departs

pub message_of-requires-clause-known : goal.message_of-requires-clause-known
message_of-requires-clause-known c = λ p k holds. let x = c.requires.formed.known p k holds in slice_get_within c.args.cargo.now.containers k x.0 x.1

pub returns-clause-text : goal.returns-clause-text
unfolding file_text
returns-clause-text c =
    let gs = groups c.args.ship.now c.args.cargo.now c.args.bookings.now c.args.arrived.now c.args.plan.now in
    IfOk-weaker c.write_baplie.result (λ text. text ≡ flat_map written (segments_of c.in_ok-message.message)) (λ text. text ≡ flat_map written (segments_of (message_of c.args.cargo.now c.args.bookings.now c.args.call gs)))
    (λ text e. e ∙ ap (λ m. flat_map written (segments_of m)) c.in_ok-message.ensures) c.write_baplie.ensures.text

pub returns-clause-reads : goal.returns-clause-reads
returns-clause-reads c =
    let cargo = c.args.cargo.now in
    let gs = groups c.args.ship.now cargo c.args.bookings.now c.args.arrived.now c.args.plan.now in
    let P : List ℕ → Type 0 = λ t. IsMessageOf t (message_of cargo c.args.bookings.now c.args.call gs) in
    let whole = plan_whole c.args.ship.now c.args.bookings.now c.args.arrived.now cargo c.args.plan.now c.obeys_rules.ensures c.requires.rules c.obeys_rules-2.ensures c.requires.arrived c.requires.cargo c.requires.formed c.args.call c.requires.departs in
    IfOk-weaker c.write_baplie.result (λ text. text ≡ file_text cargo c.args.bookings.now c.args.call gs) P (λ text e. subst P (sym e) (reads_as cargo c.args.bookings.now c.args.call gs whole)) (returns-clause-text c)
