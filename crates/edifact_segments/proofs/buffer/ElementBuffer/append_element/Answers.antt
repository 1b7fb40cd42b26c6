use Rattle.std.proofs.Common.{◌∷◌, ◌++◌, ◌<◌, [], take, length, get_or, sym, ap, ◌∙◌, arith}
use Rattle.std.proofs.lemmas.List.{take_more}
use Rattle.edifact_segments.specs.Pieces.{on_last}
use Rattle.edifact_segments.proofs.PieceLemmas.{on_last-push}
use Rattle.edifact_segments.proofs.buffer.ElementBuffer.append_element.Goals as goal

pub loop-k-preserved : goal.loop-k-preserved
loop-k-preserved c =
    let k = c.loop-k.k in
    let es = get_or c.args.other.now c.args.i [] in
    let text = get_or es k [] in
    let within : k < length es = omega (arith, c.loop-k-test.true) in
    c.in_ok-add_component.ensures ∙ ap (on_last (λ e. e ++ c.component.result.now ∷ [])) c.loop-k.invariant ∙ on_last-push (λ e. e ++ c.component.result.now ∷ []) c.args.self.now (take k es) ∙ ap (λ x. c.args.self.now ++ (take k es ++ x ∷ []) ∷ []) c.component.ensures ∙ ap (λ x. c.args.self.now ++ x ∷ []) (sym (take_more es k [] within))
