use Rattle.std.proofs.Common.{◌∙◌}
use Rattle.edifact_segments.proofs.PieceLemmas.{shown-push, ascending-element}
use Rattle.edifact_segments.proofs.buffer.ElementBuffer.start_element.Goals as goal

pub invariant_of-self-2 : goal.invariant_of-self-2
invariant_of-self-2 c =
    ascending-element c.self.inside.elements.items c.self.inside.components.items c.self.inside.bytes.items c.args.self.now c.self.view_is c.self.invariant.0 c.self.invariant.1 _ _ c.in_ok-push.ensures.items (c.in_ok-component.ensures ∙ c.len.ensures ∙ c.self.inside.components.ok.0)

pub returns : goal.returns
returns c =
    shown-push c.self.inside.elements.items c.self.inside.components.items c.self.inside.bytes.items c.args.self.now c.self.view_is c.self.invariant.0 c.self.invariant.1 _ _ c.in_ok-push.ensures.items (c.in_ok-component.ensures ∙ c.len.ensures ∙ c.self.inside.components.ok.0)
