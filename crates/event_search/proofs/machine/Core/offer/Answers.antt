use Rattle.std.proofs.Common.{Ok, Err}
use Rattle.certificate.specs.Entries.{entry_of}
use Rattle.search_core.specs.Machine.{Offer}
use Rattle.event_search.proofs.Answering
use Rattle.event_search.proofs.machine.Core.offer.Goals as goal

pub returns-in-Ok : goal.returns-in-Ok
returns-in-Ok g c =
    Answering.as_seen (Answering.course_of (g.J.Judge.voyage c.self.inside.judge) c.self.inside.seats) c.args.self.now (λ m. Offer c.args.worker (entry_of m c.args.entry.now)) (Answering.course_of (g.J.Judge.voyage c.judge_offer.new.judge) c.offer.new.self) (Ok tt) c.self.view_is
    (Answering.offered (g.J.Judge.voyage c.self.inside.judge) (g.J.Judge.voyage c.judge_offer.new.judge) c.judge_offer.ensures.voyage c.self.inside.seats c.offer.new.self c.args.worker c.args.entry.now c.in-Ok.price c.in-Ok.ensures.price c.offer.ensures.state c.offer.ensures.spare)

pub returns-in-Err : goal.returns-in-Err
returns-in-Err g c =
    Answering.as_seen (Answering.course_of (g.J.Judge.voyage c.self.inside.judge) c.self.inside.seats) c.args.self.now (λ m. Offer c.args.worker (entry_of m c.args.entry.now)) (Answering.course_of (g.J.Judge.voyage c.judge_offer.new.judge) c.self.inside.seats) (Err c.in-Err.cause) c.self.view_is
    (Answering.refused (g.J.Judge.voyage c.self.inside.judge) (g.J.Judge.voyage c.judge_offer.new.judge) c.judge_offer.ensures.voyage c.self.inside.seats (Offer c.args.worker (entry_of (g.J.Judge.voyage c.self.inside.judge) c.args.entry.now)) c.in-Err.cause c.in-Err.ensures.refused)

pub invariant_of-self : goal.invariant_of-self
invariant_of-self g c =
    Answering.after_offer (g.J.Judge.voyage c.self.inside.judge) (g.J.Judge.voyage c.judge_offer.new.judge) c.judge_offer.ensures.voyage (g.J.Judge.room c.self.inside.judge) (g.J.Judge.room c.judge_offer.new.judge) c.judge_offer.ensures.room c.self.inside.seats c.offer.new.self c.self.invariant
    c.args.worker c.args.entry.now c.in-Ok.price c.in-Ok.ensures.price c.offer.ensures.state c.offer.ensures.spare
