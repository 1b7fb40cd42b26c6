use Rattle.std.proofs.Common.{sym, ◌∙◌, ap, length}
use Rattle.proof_trees.specs.Boxes.{Box}
use Rattle.partial_plan.proofs.Freeing.{freed_length}
use Rattle.box_parts.proofs.boxes.take_step.Goals as goal

pub returns : goal.returns
returns c =
    let n = c.tighten_by.ensures.noted in
    sym (freed_length c.tighten_by.new.b n.0) ∙ ap (λ (b : Box). length b) n.2.back
