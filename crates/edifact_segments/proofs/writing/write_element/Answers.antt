use Rattle.std.proofs.Common.{◌<◌, [], ◌++◌, length, get_or, ap, ◌∙◌, arith, inl, inr}
use Rattle.edifact_segments.specs.Canonical.{trimmed}
use Rattle.edifact_segments.specs.Written.{released}
use Rattle.edifact_segments.proofs.WrittenLemmas.{component_more}
use Rattle.edifact_segments.proofs.writing.write_element.Goals as goal
use Rattle.edifact_segments.proofs.writing.write_element.Goals.{then-component-gt0+in_ok-push, else-component-gt0}

pub loop-component-preserved : goal.loop-component-preserved
loop-component-preserved c =
    let e = get_or c.args.elements.now c.args.element [] in
    let i = c.loop-component.component in
    let lt : i < length (trimmed e) = omega (arith, c.kept_components-component-end.ensures) in
    c.in_ok-write_component.ensures ∙ ap (λ t. c.if-component-gt0.out ++ released t) c.component.ensures ∙ component_more c.args.out.now c.loop-component.out c.if-component-gt0.out e i lt c.loop-component.invariant (elim c.if-component-gt0.branch [ then-component-gt0+in_ok-push w ↦ inr (omega (arith, w.if-component-gt0.true), w.out-is ∙ w.in_ok-push.ensures) | else-component-gt0 w ↦ inl (omega (arith, w.if-component-gt0.false), w.out-is) ])
