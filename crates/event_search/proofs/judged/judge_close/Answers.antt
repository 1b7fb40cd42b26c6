use Rattle.std.proofs.Common.{rules, ◌≡◌, List, None, Some, Ok, Err, sym, subst}
use Rattle.certificate.specs.declared.tree.Record.{Record}
use Rattle.certificate.specs.Entries.{entry_of}
use Rattle.search_core.specs.Machine.{worker}
use Rattle.search_core.specs.declared.records.Done.{Done}
use Rattle.event_search.specs.JudgingEvents.{HasTrail, JudgesClose}
use Rattle.event_search.specs.Cores.{node_at}
use Rattle.event_search.proofs.JudgedKeys as Judged
use Rattle.event_search.proofs.judged.judge_close.Goals as goal

pub returns-in-Err-clause-refused : goal.returns-in-Err-clause-refused
returns-in-Err-clause-refused g c = Judged.lacks_close (g.J.Judge.voyage c.args.judge.now) c.args.seats.now.state c.args.worker (entry_of (g.J.Judge.voyage c.args.judge.now) c.args.entry.now) c.in-Err.cause c.in-Err.ensures.refused

pub returns-in_default-clause-refused : goal.returns-in_default-clause-refused
returns-in_default-clause-refused g c =
    let saw : (worker c.args.seats.now.state c.args.worker).seen ≡ None = search rules in
    Judged.not_seen (g.J.Judge.voyage c.args.judge.now) c.args.seats.now.state c.args.worker (entry_of (g.J.Judge.voyage c.args.judge.now) c.args.entry.now) c.in-Ok.node c.in-Ok.ensures.held saw

pub close-requires-clause-trail : goal.close-requires-clause-trail
close-requires-clause-trail g c = subst (λ (ds : List (Done Record)). HasTrail (g.J.Judge.voyage c.args.judge.now) (node_at (g.J.Judge.voyage c.args.judge.now) ds c.in-Ok.node)) (sym c.ended.ensures)
    (Judged.trail (g.J.Judge.voyage c.args.judge.now) c.args.seats.now.state c.args.worker (g.J.Judge.room c.args.judge.now) c.args.seats.now.spare c.in-Ok.node c.requires c.in-Ok.ensures.held)

pub returns-in-Ok-close-clause-closes : goal.returns-in-Ok-close-clause-closes
returns-in-Ok-close-clause-closes g c =
    let saw : (worker c.args.seats.now.state c.args.worker).seen ≡ Some c.in-Some.seen = search rules in (
      record { holding = c.in-Ok.ensures.held; pushed = c.in-Ok.ensures.pushed },
      (c.in-Some.seen, saw, (subst (λ (ds : List (Done Record)). JudgesClose (g.J.Judge.voyage c.args.judge.now) (node_at (g.J.Judge.voyage c.args.judge.now) ds c.in-Ok.node) (entry_of (g.J.Judge.voyage c.args.judge.now) c.args.entry.now) c.in-Some.seen (Ok tt)) c.ended.ensures c.in-Ok-close.ensures.judged)),
    )

pub returns-in-Err-close-clause-refused : goal.returns-in-Err-close-clause-refused
returns-in-Err-close-clause-refused g c =
    let saw : (worker c.args.seats.now.state c.args.worker).seen ≡ Some c.in-Some.seen = search rules in
    Judged.falls_short (g.J.Judge.voyage c.args.judge.now) c.args.seats.now.state c.args.worker (entry_of (g.J.Judge.voyage c.args.judge.now) c.args.entry.now) c.in-Ok.node c.in-Ok.ensures.held c.in-Some.seen saw c.in-Err-close.cause
    (subst (λ (ds : List (Done Record)). JudgesClose (g.J.Judge.voyage c.args.judge.now) (node_at (g.J.Judge.voyage c.args.judge.now) ds c.in-Ok.node) (entry_of (g.J.Judge.voyage c.args.judge.now) c.args.entry.now) c.in-Some.seen (Err c.in-Err-close.cause)) c.ended.ensures c.in-Err-close.ensures.judged)
