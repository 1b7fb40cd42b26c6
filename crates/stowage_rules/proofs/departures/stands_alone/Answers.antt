use Rattle.std.proofs.Common.{sym, ◌∙◌, ◌==◌}
use Rattle.std.proofs.lemmas.Bool.{eqb-false, not-true, not_from_false}
use Rattle.stowage_rules.proofs.PlansHold.{alone_pair, far_from}
use Rattle.stowage_rules.proofs.departures.stands_alone.Goals as goal

pub returns-then-ne : goal.returns-then-ne
returns-then-ne c = (
  λ h. alone_pair c.args.ship.now c.args.plan.now c.args.p c.args.q c.in-Some-Some.c c.in-Some-Some.d c.place.result c.place-then-ne.result c.place.ensures c.place-then-ne.ensures c.in-Some-Some.ensures c.in-Some-Some.ensures' (eqb-false c.in-Some-Some.c c.in-Some-Some.d (not-true (c.in-Some-Some.c == c.in-Some-Some.d) (sym c.ne.ensures ∙ c.if-ne.true))) (sym c.shares_half.ensures ∙ not-true c.shares_half.result h),
  λ x. not_from_false c.shares_half.result (c.shares_half.ensures ∙ far_from c.args.ship.now c.args.plan.now c.args.p c.args.q c.in-Some-Some.c c.in-Some-Some.d c.place.result c.place-then-ne.result c.place.ensures c.place-then-ne.ensures c.in-Some-Some.ensures c.in-Some-Some.ensures' (eqb-false c.args.p c.args.q (sym c.eq.ensures ∙ c.if-eq.false)) x),
)
