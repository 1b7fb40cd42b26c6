use Rattle.std.proofs.Common.{inr}
use Rattle.stow_cli.proofs.SharedOut.{in_rotation, refused_at, share_stops, shares, taken_at}
use Rattle.stow_cli.proofs.cranes.cranes.Goals as goal

pub share_voyage-answer-requires-clause-to : goal.share_voyage-answer-requires-clause-to
share_voyage-answer-requires-clause-to g c =
    let t = taken_at _ _ _ _ c.in-Voyage.voyage c.in_ok-voyage.ensures.gives c.in-Voyage.is in
    in_rotation c.in-Voyage.voyage c.args.call (t.taken).booked t.in_time

pub returns-clause-gives : goal.returns-clause-gives
returns-clause-gives g c = shares c.share_voyage-answer.result _ _ _ c.args.call c.args.count c.in-Voyage.voyage (taken_at _ _ _ _ c.in-Voyage.voyage c.in_ok-voyage.ensures.gives c.in-Voyage.is) c.read_inputs_at.ensures.stays c.share_voyage-answer.ensures.gives

pub returns-clause-failed : goal.returns-clause-failed
returns-clause-failed g c = share_stops c.share_voyage-answer.result _ c.args.call _ c.in-Voyage.voyage _ _ _ (taken_at _ _ _ _ c.in-Voyage.voyage c.in_ok-voyage.ensures.gives c.in-Voyage.is) c.read_inputs_at.ensures.later c.share_voyage-answer.ensures.failed

pub returns-in-Refused-clause-gives : goal.returns-in-Refused-clause-gives
returns-in-Refused-clause-gives g c = inr (refused_at _ _ _ _ c.in-Refused.answer c.in_ok-voyage.ensures.gives c.in-Refused.is)
