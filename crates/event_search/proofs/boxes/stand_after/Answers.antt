use Rattle.std.proofs.Common.{List, length, ◌∙◌, ap}
use Rattle.zero_one_rows.specs.declared.program.Row.{Row}
use Rattle.zero_one_rows.specs.Rows.{whole}
use Rattle.proof_trees.specs.Boxes.{Box, tightened}
use Rattle.proof_trees.proofs.Duality.{length_tightened}
use Rattle.event_search.proofs.Standing as proofs
use Rattle.event_search.proofs.boxes.stand_after.Goals as goal

pub tighten_all-requires-clause-whole : goal.tighten_all-requires-clause-whole
tighten_all-requires-clause-whole c = ap (λ (b : Box). length b) c.stand_at.ensures ∙ proofs.length_there c.args.model.now c.args.ended.now c.args.way.now c.requires.way

pub returns-clause-whole : goal.returns-clause-whole
returns-clause-whole c =
    ap (λ (b : Box). length b) (c.tighten_all.ensures ∙ ap (λ (rs : List Row). tightened (whole c.args.model.now) c.stand_at.new.b rs) c.as_slice.ensures)
    ∙ length_tightened (whole c.args.model.now) c.stand_at.new.b c.args.entry.now.steps (ap (λ (b : Box). length b) c.stand_at.ensures ∙ proofs.length_there c.args.model.now c.args.ended.now c.args.way.now c.requires.way)

pub returns-clause-there : goal.returns-clause-there
returns-clause-there c = (c.tighten_all.ensures ∙ ap (λ (rs : List Row). tightened (whole c.args.model.now) c.stand_at.new.b rs) c.as_slice.ensures) ∙ ap (λ (b : Box). tightened (whole c.args.model.now) b c.args.entry.now.steps) c.stand_at.ensures
