use Rattle.std.proofs.Common.{◌<◌, length, sym, ◌∙◌, arith}
use Rattle.edifact_segments.proofs.CanonicalLemmas.{canonical-empty, canonical-full}
use Rattle.edifact_segments.proofs.writing.kept_elements.Goals as goal
use Rattle.edifact_segments.proofs.writing.kept_elements.Goals.{then-kept_components-gt0, else-kept_components-gt0}

pub loop-element-preserved : goal.loop-element-preserved
loop-element-preserved c =
    let es = c.args.elements.now in
    let i = c.loop-element.element in
    let lt : i < length es = omega (arith, c.len-element-end.ensures) in
    elim c.if-kept_components-gt0.branch [ then-kept_components-gt0 w ↦ w.kept-is ∙ sym (canonical-full es i lt (omega (arith, c.kept_components.ensures, w.if-kept_components-gt0.true))) | else-kept_components-gt0 w ↦ w.kept-is ∙ c.loop-element.invariant ∙ sym (canonical-empty es i lt (omega (arith, c.kept_components.ensures, w.if-kept_components-gt0.false))) ]
