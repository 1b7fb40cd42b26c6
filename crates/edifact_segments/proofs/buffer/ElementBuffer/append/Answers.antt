use Rattle.std.proofs.Common.{◌∷◌, ◌++◌, ◌<◌, [], take, length, get_or, sym, ap, ◌∙◌, append_assoc, arith}
use Rattle.std.proofs.lemmas.List.{take_more}
use Rattle.edifact_segments.proofs.buffer.ElementBuffer.append.Goals as goal

pub loop-i-preserved : goal.loop-i-preserved
loop-i-preserved c =
    let i = c.loop-i.i in
    let item = get_or c.args.other.now i [] in
    let within : i < length c.args.other.now = omega (arith, c.loop-i-test.true, c.len-i-end.ensures) in
    (c.in_ok-append_element.ensures.appended ∙ ap (λ x. x ++ item ∷ []) c.loop-i.invariant.0 ∙ append_assoc c.args.self.now (take i c.args.other.now) (item ∷ []) ∙ ap (λ x. c.args.self.now ++ x) (sym (take_more c.args.other.now i [] within)), omega (arith, c.loop-i.invariant.1, c.append_element.ensures.grows))
