use Rattle.std.proofs.Common.{◌≡◌, ◌+◌, ◌<◌, ◌≤◌, length, sym, ap, ◌∙◌, arith, get_or}
use Rattle.edifact_segments.proofs.PieceLemmas.{shown-length, shown-past}
use Rattle.edifact_segments.proofs.buffer.ElementBuffer.components.Goals as goal

pub returns-then-element-len : goal.returns-then-element-len
returns-then-element-len c =
    let e = c.self.inside.elements.items in
    let n = length c.self.inside.components.items in
    let lt : c.args.element < length e = omega (arith, c.len.ensures, c.self.inside.elements.ok.0) in
    let from : c.piece-from.result.0 ≡ get_or e c.args.element 0 = c.piece-from.ensures.from ∙ ap (λ s. get_or s c.args.element 0) c.as_slice.ensures.value in
    let to : c.piece-from.result.1 ≡ get_or e (c.args.element + 1) n = c.piece-from.ensures.to ∙ ap (λ s. get_or s (c.args.element + 1) c.len-then-element-len.result) c.as_slice.ensures.value ∙ ap (λ m. get_or e (c.args.element + 1) m) (c.len-then-element-len.ensures ∙ c.self.inside.components.ok.0) in
    let le : c.piece-from.result.1 ≤ n = omega (arith, c.piece-from.ensures.bounded, c.len-then-element-len.ensures, c.self.inside.components.ok.0) in
    shown-length e c.self.inside.components.items c.self.inside.bytes.items c.args.self.now c.self.view_is c.self.invariant.0 c.self.invariant.1 c.args.element c.piece-from.result.0 c.piece-from.result.1 lt from to le

pub returns-else-element-len : goal.returns-else-element-len
returns-else-element-len c =
    let e = c.self.inside.elements.items in
    let le : length e ≤ c.args.element = omega (arith, c.len.ensures, c.self.inside.elements.ok.0) in
    ap length (sym (shown-past e c.self.inside.components.items c.self.inside.bytes.items c.args.self.now c.self.view_is c.self.invariant.0 c.self.invariant.1 c.args.element le))
