use Rattle.std.proofs.Common.{length, sym, ap, ◌∙◌}
use Rattle.edifact_segments.proofs.PieceLemmas.{length-pieces}
use Rattle.edifact_segments.specs.Pieces.{pieces}
use Rattle.edifact_segments.proofs.buffer.ElementBuffer.len.Goals as goal

pub returns : goal.returns
returns c =
    c.len.ensures ∙ c.self.inside.elements.ok.0 ∙ sym (length-pieces c.self.inside.elements.items (pieces c.self.inside.components.items c.self.inside.bytes.items)) ∙ ap length c.self.view_is
