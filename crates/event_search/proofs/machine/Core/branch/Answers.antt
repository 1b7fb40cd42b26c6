use Rattle.std.proofs.Common.{Ok, Err, refl}
use Rattle.certificate.specs.Entries.{entry_of}
use Rattle.search_core.specs.Machine.{Divide}
use Rattle.event_search.proofs.Answering
use Rattle.event_search.proofs.machine.Core.branch.Goals as goal

pub returns-in-Ok : goal.returns-in-Ok
returns-in-Ok g c =
    Answering.as_seen (Answering.course_of (g.J.Judge.voyage c.self.inside.judge) c.self.inside.seats) c.args.self.now (λ m. Divide c.args.worker (entry_of m c.args.entry)) (Answering.course_of (g.J.Judge.voyage c.judge_branch.new.judge) c.divide_hand.new.self) (Ok tt) c.self.view_is
    (Answering.branched (g.J.Judge.voyage c.self.inside.judge) (g.J.Judge.voyage c.judge_branch.new.judge) c.judge_branch.ensures.voyage c.self.inside.seats c.divide_hand.new.self (g.J.Judge.room c.self.inside.judge) c.self.inside.seats.spare c.args.worker (record { node = c.in-Ok.node; entry = c.args.entry }) c.self.invariant c.divide_hand.ensures.spare c.in-Ok.ensures.branches c.divide_hand.ensures.done)

pub returns-in-Err : goal.returns-in-Err
returns-in-Err g c = (
  Answering.as_seen (Answering.course_of (g.J.Judge.voyage c.self.inside.judge) c.self.inside.seats) c.args.self.now (λ m. Divide c.args.worker (entry_of m c.args.entry)) (Answering.course_of (g.J.Judge.voyage c.judge_branch.new.judge) c.self.inside.seats) (Err c.in-Err.cause) c.self.view_is
      (Answering.refused (g.J.Judge.voyage c.self.inside.judge) (g.J.Judge.voyage c.judge_branch.new.judge) c.judge_branch.ensures.voyage c.self.inside.seats (Divide c.args.worker (entry_of (g.J.Judge.voyage c.self.inside.judge) c.args.entry)) c.in-Err.cause c.in-Err.ensures.refused),
  refl,
)

pub invariant_of-self : goal.invariant_of-self
invariant_of-self g c =
    Answering.after_branch (g.J.Judge.voyage c.self.inside.judge) (g.J.Judge.voyage c.judge_branch.new.judge) c.judge_branch.ensures.voyage (g.J.Judge.room c.self.inside.judge) (g.J.Judge.room c.judge_branch.new.judge) c.judge_branch.ensures.room c.self.inside.seats c.divide_hand.new.self c.self.invariant
    c.args.worker (record { node = c.in-Ok.node; entry = c.args.entry }) c.divide_hand.ensures.spare c.in-Ok.ensures.branches c.divide_hand.ensures.done
