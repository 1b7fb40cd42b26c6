use Rattle.std.proofs.Common.{List, Err, sym, subst}
use Rattle.certificate.specs.declared.tree.Record.{Record}
use Rattle.certificate.specs.Entries.{entry_of}
use Rattle.search_core.specs.declared.records.Done.{Done}
use Rattle.event_search.specs.JudgingEvents.{HasTrail, JudgesBranch}
use Rattle.event_search.specs.Cores.{node_at}
use Rattle.event_search.proofs.JudgedKeys as Judged
use Rattle.event_search.proofs.judged.judge_branch.Goals as goal

pub returns-in-Err-clause-refused : goal.returns-in-Err-clause-refused
returns-in-Err-clause-refused g c = Judged.lacks_branch (g.J.Judge.voyage c.args.judge.now) c.args.seats.now.state c.args.worker (entry_of (g.J.Judge.voyage c.args.judge.now) c.args.entry.now) c.in-Err.cause c.in-Err.ensures.refused

pub branch-judge-requires-clause-trail : goal.branch-judge-requires-clause-trail
branch-judge-requires-clause-trail g c = subst (λ (ds : List (Done Record)). HasTrail (g.J.Judge.voyage c.args.judge.now) (node_at (g.J.Judge.voyage c.args.judge.now) ds c.in-Ok.node)) (sym c.ended.ensures)
    (Judged.trail (g.J.Judge.voyage c.args.judge.now) c.args.seats.now.state c.args.worker (g.J.Judge.room c.args.judge.now) c.args.seats.now.spare c.in-Ok.node c.requires c.in-Ok.ensures.held)

pub returns-in_Err-judge-clause-refused : goal.returns-in_Err-judge-clause-refused
returns-in_Err-judge-clause-refused g c =
    Judged.not_free (g.J.Judge.voyage c.args.judge.now) c.args.seats.now.state c.args.worker (entry_of (g.J.Judge.voyage c.args.judge.now) c.args.entry.now) c.in-Ok.node c.in-Ok.ensures.held c.in_Err-judge.cause
    (subst (λ (ds : List (Done Record)). JudgesBranch (g.J.Judge.voyage c.args.judge.now) (node_at (g.J.Judge.voyage c.args.judge.now) ds c.in-Ok.node) (entry_of (g.J.Judge.voyage c.args.judge.now) c.args.entry.now) (Err c.in_Err-judge.cause)) c.ended.ensures c.in_Err-judge.ensures.judged)
