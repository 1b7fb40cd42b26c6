use Rattle.std.proofs.Common.{◌≡◌, ◌+◌, ap, ◌∙◌, arith}
use Rattle.stow_data.specs.Ship.{stack_places}
use Rattle.stow_data.proofs.Made.{stack_more}
use Rattle.stow_data.proofs.tables.place_table.Goals as goal

pub loop-stack-preserved : goal.loop-stack-preserved
loop-stack-preserved c =
    let counted : c.in_ok-number.number ≡ c.loop-stack.number + 1 = grind (arith, c.in_ok-number.ensures) in
    record {
      made = stack_more stack_places c.args.stacks.now c.loop-stack.table _ c.loop-stack.stack-index c.loop-stack.number c.stack-item.result c.loop-stack-test.true c.stack-item.is c.loop-stack.invariant.counted c.loop-stack.invariant.made c.in_ok-push_stack_places.ensures;
      counted = counted ∙ ap (λ n. n + 1) c.loop-stack.invariant.counted;
    }
