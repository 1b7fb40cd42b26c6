use Rattle.std.proofs.Common.{[], ◌∷◌, ◌++◌, ap, ◌∙◌}
use Rattle.edifact_segments.proofs.PieceLemmas.{shown-add, ascending-component}
use Rattle.edifact_segments.proofs.buffer.ElementBuffer.add_component.Goals as goal

pub invariant_of-self-2 : goal.invariant_of-self-2
invariant_of-self-2 c =
    ascending-component c.self.inside.elements.items c.self.inside.components.items c.self.inside.bytes.items c.args.self.now c.self.view_is c.self.invariant.0 c.self.invariant.1 _ _ c.args.text.now c.in_ok-from.from c.in_ok-extend_from_slice.ensures.items (c.push_reserved.ensures.items ∙ ap (λ p. p ++ c.in_ok-from.from ∷ []) c.in_ok-try_reserve.ensures.items) (c.in_ok-from.ensures ∙ c.len.ensures ∙ c.self.inside.bytes.ok.0)

pub returns : goal.returns
returns c =
    shown-add c.self.inside.elements.items c.self.inside.components.items c.self.inside.bytes.items c.args.self.now c.self.view_is c.self.invariant.0 c.self.invariant.1 _ _ c.args.text.now c.in_ok-from.from c.in_ok-extend_from_slice.ensures.items (c.push_reserved.ensures.items ∙ ap (λ p. p ++ c.in_ok-from.from ∷ []) c.in_ok-try_reserve.ensures.items) (c.in_ok-from.ensures ∙ c.len.ensures ∙ c.self.inside.bytes.ok.0)
