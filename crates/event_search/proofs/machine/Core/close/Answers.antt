use Rattle.std.proofs.Common.{Ok, Err, refl}
use Rattle.certificate.specs.Entries.{entry_of}
use Rattle.search_core.specs.Machine.{Close}
use Rattle.event_search.proofs.Answering
use Rattle.event_search.proofs.machine.Core.close.Goals as goal

pub returns-in-Ok : goal.returns-in-Ok
returns-in-Ok g c =
    Answering.as_seen (Answering.course_of (g.J.Judge.voyage c.self.inside.judge) c.self.inside.seats) c.args.self.now (λ m. Close c.args.worker (entry_of m c.args.entry)) (Answering.course_of (g.J.Judge.voyage c.judge_close.new.judge) c.end_hand.new.self) (Ok tt) c.self.view_is
    (Answering.closed (g.J.Judge.voyage c.self.inside.judge) (g.J.Judge.voyage c.judge_close.new.judge) c.judge_close.ensures.voyage c.self.inside.seats c.end_hand.new.self (g.J.Judge.room c.self.inside.judge) c.self.inside.seats.spare c.args.worker (record { node = c.in-Ok.node; entry = c.args.entry }) c.self.invariant c.end_hand.ensures.spare c.in-Ok.ensures.closes c.end_hand.ensures.done)

pub returns-in-Err : goal.returns-in-Err
returns-in-Err g c = (
  Answering.as_seen (Answering.course_of (g.J.Judge.voyage c.self.inside.judge) c.self.inside.seats) c.args.self.now (λ m. Close c.args.worker (entry_of m c.args.entry)) (Answering.course_of (g.J.Judge.voyage c.judge_close.new.judge) c.self.inside.seats) (Err c.in-Err.cause) c.self.view_is
      (Answering.refused (g.J.Judge.voyage c.self.inside.judge) (g.J.Judge.voyage c.judge_close.new.judge) c.judge_close.ensures.voyage c.self.inside.seats (Close c.args.worker (entry_of (g.J.Judge.voyage c.self.inside.judge) c.args.entry)) c.in-Err.cause c.in-Err.ensures.refused),
  refl,
)

pub invariant_of-self : goal.invariant_of-self
invariant_of-self g c =
    Answering.after_close (g.J.Judge.voyage c.self.inside.judge) (g.J.Judge.voyage c.judge_close.new.judge) c.judge_close.ensures.voyage (g.J.Judge.room c.self.inside.judge) (g.J.Judge.room c.judge_close.new.judge) c.judge_close.ensures.room c.self.inside.seats c.end_hand.new.self c.self.invariant
    c.args.worker (record { node = c.in-Ok.node; entry = c.args.entry }) c.end_hand.ensures.spare c.in-Ok.ensures.closes c.end_hand.ensures.done
