use Rattle.std.proofs.Common.{◌<◌, [], ◌++◌, length, get_or, ap, ◌∙◌, arith}
use Rattle.edifact_segments.specs.Canonical.{trimmed, canonical}
use Rattle.edifact_segments.specs.Written.{written_element}
use Rattle.edifact_segments.proofs.WrittenLemmas.{element_more}
use Rattle.edifact_segments.proofs.writing.segment_text.Goals as goal

pub loop-element-preserved : goal.loop-element-preserved
loop-element-preserved c =
    let es = c.args.segment.now.elements in
    let i = c.loop-element.element in
    let lt : i < length (canonical es) = omega (arith, c.kept_elements-element-end.ensures) in
    c.in_ok-write_element.ensures ∙ ap (λ t. t ++ written_element (trimmed (get_or es i []))) c.in_ok-push.ensures ∙ element_more c.args.segment.now.tag c.loop-element.text es i lt c.loop-element.invariant
