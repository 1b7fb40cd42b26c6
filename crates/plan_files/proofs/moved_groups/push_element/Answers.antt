use Rattle.std.proofs.Common.{◌<◌, [], map, length, arith}
use Rattle.std.specs.Prelude.{slice_index_or}
use Rattle.plan_files.proofs.Copying.{component_more}
use Rattle.plan_files.proofs.moved_groups.push_element.Goals as goal

pub loop-component-preserved : goal.loop-component-preserved
loop-component-preserved c =
    let e = slice_index_or c.args.list.now c.args.element [] in
    let low : c.loop-component.component < length e = omega (arith, c.components-component-end.ensures, c.loop-component-test.true) in
    record {
      made = component_more c.args.elements.now c.loop-component.elements _ (map (λ x. x.now) c.args.first.now) e c.args.from c.loop-component.component c.component.result.now c.loop-component.invariant.above low c.loop-component.invariant.made c.component.ensures c.in_ok-add_component.ensures;
      above = omega (arith, c.loop-component.invariant.above);
    }
