use Rattle.std.proofs.Common.{sym, ◌∙◌, refl, false}
use Rattle.std.proofs.lemmas.Bool.{both_ways}
use Rattle.voyage_meaning.proofs.RunsHold.{shut_all, none_off, not_unfinished}
use Rattle.voyage_meaning.proofs.crane.ends_at.Goals as goal

pub returns-then-not-is_same : goal.returns-then-not-is_same
returns-then-not-is_same c = (λ h. absurd (both_ways false refl h), λ x. absurd (both_ways c.is_same.result c.if-not-is_same.true (c.is_same.ensures.1 (c.plan.ensures ∙ x.plan_is))))

pub returns-in-None : goal.returns-in-None
returns-in-None c = (
  λ h. record {
    plan_is = sym c.plan.ensures ∙ c.is_same.ensures.0 c.if-not-is_same.false;
    quay_empty = c.in-None.ensures.0;
    covers_on = shut_all c.args.ship.now c.args.berth.now.state.off c.requires.belongs.each_cover c.in-None.ensures.1;
  },
  λ x. refl,
)

pub returns-in-Some : goal.returns-in-Some
returns-in-Some c = (λ h. absurd (both_ways false refl h), λ x. absurd (not_unfinished c.args.berth.now.state c.in-Some.field-0 c.in-Some.ensures x.quay_empty (none_off c.args.ship.now c.args.berth.now.state.off c.requires.belongs.each_cover x.covers_on)))
