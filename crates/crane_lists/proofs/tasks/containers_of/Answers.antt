use Rattle.std.proofs.Common.{◌∙◌, ap, ◌≤◌, subst, length, List}
use Rattle.voyage_meaning.specs.declared.moves.Move.{Move}
use Rattle.crane_lists.specs.Tasks.{tasks_with}
use Rattle.crane_lists.proofs.Naming.{named_all, named_each, tasks_named}
use Rattle.crane_lists.proofs.tasks.containers_of.Goals as goal

pub returns-clause-one_length : goal.returns-clause-one_length
returns-clause-one_length c = ap length (named_all c.args.before.now c.loop-m.plan c.args.moves.now c.loop-m.lifted c.loop-m.m-index c.loop-m.invariant (subst (λ (ms : List Move). length ms ≤ c.loop-m.m-index) c.as_slice-steps.ensures c.loop-m-test.false)) ∙ named_each c.args.before.now c.args.moves.now

pub returns-clause-named : goal.returns-clause-named
returns-clause-named c = λ cargo call s e. ap (tasks_with c.args.moves.now) (named_all c.args.before.now c.loop-m.plan c.args.moves.now c.loop-m.lifted c.loop-m.m-index c.loop-m.invariant (subst (λ (ms : List Move). length ms ≤ c.loop-m.m-index) c.as_slice-steps.ensures c.loop-m-test.false)) ∙ tasks_named cargo call c.args.moves.now s c.args.before.now e
