use Rattle.std.proofs.Common.{◌≤◌, length, subst, sym, ap}
use Rattle.zero_one_rows.specs.Variables.{Voyage}
use Rattle.certificate.specs.Entries.{entry_of}
use Rattle.event_search.specs.Cores.{node_at}
use Rattle.event_search.specs.JudgingEvents.{HasTrail, JudgesClose}
use Rattle.event_search.specs.Judging.{Judging}
use Rattle.event_search.proofs.judge.RecordJudgeJudge.close.Goals as goal

pub close_at-requires : goal.close_at-requires
close_at-requires c = record {
  ready = c.self.invariant;
  enough = subst (λ (j : Judging). length c.args.ended.now ≤ j.room) (sym c.self.view_is) c.requires.room;
  earlier = c.requires.earlier;
  named = c.requires.named;
  trail = subst (λ (v : Voyage). HasTrail v (node_at v c.args.ended.now c.args.node)) (sym (ap (λ (j : Judging). j.voyage) c.self.view_is)) c.requires.trail;
}

pub returns-clause-judged : goal.returns-clause-judged
returns-clause-judged c = subst (λ (v : Voyage). JudgesClose v (node_at v c.args.ended.now c.args.node) (entry_of v c.args.entry.now) c.args.seen c.close_at.result) (ap (λ (j : Judging). j.voyage) c.self.view_is) c.close_at.ensures.judged
