use Rattle.std.proofs.Common.{List, ◌++◌, ◌∙◌, ap}
use Rattle.std.proofs.lemmas.List.{take_all}
use Rattle.zero_one_rows.specs.declared.program.Raise.{Raise}
use Rattle.node_work.proofs.Leading.{pushed_one}
use Rattle.node_work.proofs.stages.push_all.Goals as goal

pub loop-raise-preserved : goal.loop-raise-preserved
loop-raise-preserved c =
    pushed_one c.args.made.now c.loop-raise.made c.push.new.self c.args.more.now c.loop-raise.raise-index c.raise-item.result c.in_ok-copy_raise.field-0
    c.loop-raise.invariant c.loop-raise-test.true c.raise-item.is c.in_ok-copy_raise.ensures c.in_ok-push.ensures

pub returns : goal.returns
returns c = c.loop-raise.invariant ∙ ap (λ (rs : List Raise). c.args.made.now ++ rs) (take_all c.loop-raise.raise-index c.args.more.now c.loop-raise-test.false)
