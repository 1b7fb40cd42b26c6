use Rattle.std.proofs.Common.{List, Err, sym, subst}
use Rattle.certificate.specs.declared.tree.Record.{Record}
use Rattle.certificate.specs.Entries.{entry_of}
use Rattle.search_core.specs.declared.records.Done.{Done}
use Rattle.event_search.specs.JudgingEvents.{HasTrail, JudgesOffer}
use Rattle.event_search.specs.Cores.{node_at}
use Rattle.event_search.proofs.JudgedKeys as Judged
use Rattle.event_search.proofs.judged.judge_offer.Goals as goal

pub returns-in-Err-clause-refused : goal.returns-in-Err-clause-refused
returns-in-Err-clause-refused g c = Judged.lacks_offer (g.J.Judge.voyage c.args.judge.now) c.args.seats.now.state c.args.worker (entry_of (g.J.Judge.voyage c.args.judge.now) c.args.entry.now) c.in-Err.cause c.in-Err.ensures.refused

pub offer-requires-clause-trail : goal.offer-requires-clause-trail
offer-requires-clause-trail g c = subst (λ (ds : List (Done Record)). HasTrail (g.J.Judge.voyage c.args.judge.now) (node_at (g.J.Judge.voyage c.args.judge.now) ds c.in-Ok.node)) (sym c.ended.ensures)
    (Judged.trail (g.J.Judge.voyage c.args.judge.now) c.args.seats.now.state c.args.worker (g.J.Judge.room c.args.judge.now) c.args.seats.now.spare c.in-Ok.node c.requires c.in-Ok.ensures.held)

pub returns-in-Err-offer-clause-refused : goal.returns-in-Err-offer-clause-refused
returns-in-Err-offer-clause-refused g c =
    Judged.not_full (g.J.Judge.voyage c.args.judge.now) c.args.seats.now.state c.args.worker (entry_of (g.J.Judge.voyage c.args.judge.now) c.args.entry.now) c.in-Ok.node c.in-Ok.ensures.held c.in-Err-offer.cause
    (subst (λ (ds : List (Done Record)). JudgesOffer (g.J.Judge.voyage c.args.judge.now) (node_at (g.J.Judge.voyage c.args.judge.now) ds c.in-Ok.node) (entry_of (g.J.Judge.voyage c.args.judge.now) c.args.entry.now) (Err c.in-Err-offer.cause)) c.ended.ensures c.in-Err-offer.ensures.judged)
