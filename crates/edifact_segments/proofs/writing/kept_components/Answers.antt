use Rattle.std.proofs.Common.{◌<◌, [], length, get_or, sym, ap, ◌∙◌, arith}
use Rattle.edifact_segments.proofs.CanonicalLemmas.{kept-empty, kept-full, nonempty_by, empty_by}
use Rattle.edifact_segments.proofs.writing.kept_components.Goals as goal
use Rattle.edifact_segments.proofs.writing.kept_components.Goals.{then-not-is_empty, else-not-is_empty}

pub loop-component-preserved : goal.loop-component-preserved
loop-component-preserved c =
    let e = get_or c.args.elements.now c.args.element [] in
    let lt : c.loop-component.component < length e = omega (arith, c.components-component-end.ensures) in
    elim c.if-not-is_empty.branch [ then-not-is_empty w ↦ w.kept-is ∙ sym (kept-full e c.loop-component.component lt (nonempty_by c.component.result.now (get_or e c.loop-component.component []) w.if-not-is_empty.ensures c.component.ensures)) | else-not-is_empty w ↦ w.kept-is ∙ c.loop-component.invariant ∙ ap length (sym (kept-empty e c.loop-component.component lt (empty_by c.component.result.now (get_or e c.loop-component.component []) w.if-not-is_empty.ensures c.component.ensures))) ]
