use Rattle.std.proofs.Common.{◌≡◌, ◌+◌, ◌-◌, ◌<◌, ◌≤◌, length, sym, ap, ◌∙◌, arith, [], get_or}
use Rattle.std.proofs.lemmas.List.{get_or_past}
use Rattle.edifact_segments.proofs.PieceLemmas.{shown-length, shown-past, shown-component}
use Rattle.edifact_segments.proofs.buffer.ElementBuffer.component.Goals as goal

pub returns-then-element-len : goal.returns-then-element-len
returns-then-element-len c =
    let e = c.self.inside.elements.items in
    let le : length e ≤ c.args.element = omega (arith, c.len.ensures, c.self.inside.elements.ok.0) in
    ap (λ e. get_or e c.args.component []) (sym (shown-past e c.self.inside.components.items c.self.inside.bytes.items c.args.self.now c.self.view_is c.self.invariant.0 c.self.invariant.1 c.args.element le))

pub returns-then-component-to : goal.returns-then-component-to
returns-then-component-to c =
    let e = c.self.inside.elements.items in
    let n = length c.self.inside.components.items in
    let lt : c.args.element < length e = omega (arith, c.len.ensures, c.self.inside.elements.ok.0) in
    let from : c.piece-from.result.0 ≡ get_or e c.args.element 0 = c.piece-from.ensures.from ∙ ap (λ s. get_or s c.args.element 0) c.as_slice.ensures.value in
    let to : c.piece-from.result.1 ≡ get_or e (c.args.element + 1) n = c.piece-from.ensures.to ∙ ap (λ s. get_or s (c.args.element + 1) c.len-2.result) c.as_slice.ensures.value ∙ ap (λ m. get_or e (c.args.element + 1) m) (c.len-2.ensures ∙ c.self.inside.components.ok.0) in
    let le : c.piece-from.result.1 ≤ n = omega (arith, c.piece-from.ensures.bounded, c.len-2.ensures, c.self.inside.components.ok.0) in
    let len = shown-length e c.self.inside.components.items c.self.inside.bytes.items c.args.self.now c.self.view_is c.self.invariant.0 c.self.invariant.1 c.args.element c.piece-from.result.0 c.piece-from.result.1 lt from to le in
    let past : length (get_or c.args.self.now c.args.element []) ≤ c.args.component = rw (← len) c.if-component-to.true in
    sym (get_or_past (get_or c.args.self.now c.args.element []) c.args.component [] past)

pub returns : goal.returns
returns c =
    let e = c.self.inside.elements.items in
    let cs = c.self.inside.components.items in
    let bs = c.self.inside.bytes.items in
    let k = c.piece-from.result.0 + c.args.component in
    let lt : c.args.element < length e = omega (arith, c.len.ensures, c.self.inside.elements.ok.0) in
    let from : c.piece-from.result.0 ≡ get_or e c.args.element 0 = c.piece-from.ensures.from ∙ ap (λ s. get_or s c.args.element 0) c.as_slice.ensures.value in
    let to : c.piece-from.result.1 ≡ get_or e (c.args.element + 1) (length cs) = c.piece-from.ensures.to ∙ ap (λ s. get_or s (c.args.element + 1) c.len-2.result) c.as_slice.ensures.value ∙ ap (λ m. get_or e (c.args.element + 1) m) (c.len-2.ensures ∙ c.self.inside.components.ok.0) in
    let within : c.args.component < c.piece-from.result.1 - c.piece-from.result.0 = c.if-component-to.false in
    let place : k < length cs = omega (arith, c.piece-from.ensures.bounded, c.len-2.ensures, c.self.inside.components.ok.0, within) in
    let from' : c.piece-from-2.result.0 ≡ get_or cs k 0 = c.piece-from-2.ensures.from ∙ ap (λ s. get_or s k 0) c.as_slice-2.ensures.value in
    let to' : c.piece-from-2.result.1 ≡ get_or cs (k + 1) (length bs) = c.piece-from-2.ensures.to ∙ ap (λ s. get_or s (k + 1) c.len-3.result) c.as_slice-2.ensures.value ∙ ap (λ m. get_or cs (k + 1) m) (c.len-3.ensures ∙ c.self.inside.bytes.ok.0) in
    rw c.as_slice-3.ensures.value (shown-component e cs bs c.args.self.now c.self.view_is c.self.invariant.0 c.self.invariant.1 c.args.element c.args.component c.piece-from.result.0 c.piece-from.result.1 c.piece-from-2.result.0 c.piece-from-2.result.1 lt from to within place from' to')
