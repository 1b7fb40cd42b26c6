use Rattle.std.proofs.Common.{◌≡◌, ◌-◌, ◌++◌, [], length, replicate, ap, ◌∙◌, arith}
use Rattle.edifact_segments.proofs.draft.pad_elements.Goals as goal

pub returns : goal.returns
returns c =
    let n = length c.args.elements.now in
    let e : c.loop-index._index - n ≡ c.args.count - n = omega (arith, c.len-index.ensures) in
    c.loop-index.invariant.0 ∙ ap (λ k. c.args.elements.now ++ replicate k []) e
