use Rattle.std.proofs.Common.{◌≤◌, length, subst, sym, ap}
use Rattle.zero_one_rows.specs.Variables.{Voyage}
use Rattle.event_search.specs.Cores.{node_at}
use Rattle.event_search.specs.JudgingEvents.{HasTrail}
use Rattle.event_search.specs.Judging.{Judging}
use Rattle.event_search.proofs.judge.RecordJudgeJudge.offer.Goals as goal

pub offer_at-requires : goal.offer_at-requires
offer_at-requires c = record {
  ready = c.self.invariant;
  enough = subst (λ (j : Judging). length c.args.ended.now ≤ j.room) (sym c.self.view_is) c.requires.room;
  earlier = c.requires.earlier;
  named = c.requires.named;
  trail = subst (λ (v : Voyage). HasTrail v (node_at v c.args.ended.now c.args.node)) (sym (ap (λ (j : Judging). j.voyage) c.self.view_is)) c.requires.trail;
}
