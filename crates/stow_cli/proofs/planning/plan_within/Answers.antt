use Rattle.std.proofs.Common.{sym, ap, subst}
use Rattle.model_bridge.specs.Laws.{IsProblem}
use Rattle.zero_one_rows.specs.Variables.{Voyage}
use Rattle.plan_search.specs.Certified.{Certifies, HasPlans}
use Rattle.stow_cli.proofs.Works.{problem_of, can_be_written, ok_answers}
use Rattle.stow_cli.proofs.planning.plan_within.Goals as goal

pub plan_voyage-requires-clause-problem : goal.plan_voyage-requires-clause-problem
plan_voyage-requires-clause-problem g c kinds lives = subst IsProblem (sym c.requires.model) (problem_of c.args.v.now c.requires.booked)

pub plan_voyage-requires-clause-ship : goal.plan_voyage-requires-clause-ship
plan_voyage-requires-clause-ship g c kinds lives = ap (λ (m : Voyage). m.ship) c.requires.model

pub plan_voyage-requires-clause-cargo : goal.plan_voyage-requires-clause-cargo
plan_voyage-requires-clause-cargo g c kinds lives = ap (λ (m : Voyage). m.cargo) c.requires.model

pub texts_of-texts-requires-clause-plans : goal.texts_of-texts-requires-clause-plans
texts_of-texts-requires-clause-plans g c = can_be_written c.args.v.now _ _ (subst (λ (m : Voyage). HasPlans m c.in_ok-planned.planned.head.rehandles c.in_ok-planned.planned.plans) c.requires.model c.in_ok-planned.ensures.plans)

pub returns : goal.returns
returns g c =
    ok_answers c.texts_of-texts.result c.args.base.now c.args.v.now c.args.budget c.in_ok-planned.planned c.requires.booked
    (subst (λ (m : Voyage). Certifies m c.args.budget c.in_ok-planned.planned.head c.in_ok-planned.planned.tree) c.requires.model c.in_ok-planned.ensures.certified)
    (subst (λ (m : Voyage). HasPlans m c.in_ok-planned.planned.head.rehandles c.in_ok-planned.planned.plans) c.requires.model c.in_ok-planned.ensures.plans)
    c.texts_of-texts.ensures
