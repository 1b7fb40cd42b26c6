use Rattle.plan_files.proofs.Composing.{compose_more}
use Rattle.plan_files.proofs.departure_segments.compose.Goals as goal

pub loop-component-preserved : goal.loop-component-preserved
loop-component-preserved c = compose_more (λ x. x.now) c.args.components.now c.loop-component.component-index _ c.args.elements.now c.loop-component.elements _ c.loop-component-test.true c.loop-component.invariant c.in_ok-add_component.ensures
