use Rattle.std.proofs.Common.{◌<◌, length, refl, arith}
use Rattle.plan_files.proofs.Copying.{element_more}
use Rattle.plan_files.proofs.moved_groups.push_elements.Goals as goal

pub loop-element-preserved : goal.loop-element-preserved
loop-element-preserved c =
    let low : c.loop-element.element < length c.args.list.now = omega (arith, c.len-element-end.ensures, c.loop-element-test.true) in
    record {
      made = element_more c.args.elements.now c.loop-element.elements _ c.args.list.now c.args.from c.loop-element.element _ c.loop-element.invariant.above low c.loop-element.invariant.made refl c.in_ok-push_element.ensures;
      above = omega (arith, c.loop-element.invariant.above);
    }
