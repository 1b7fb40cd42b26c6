use Rattle.std.proofs.Common.{List, length, sym, subst, ◌∙◌, ap}
use Rattle.zero_one_rows.specs.declared.program.Row.{Row}
use Rattle.zero_one_rows.specs.Rows.{whole}
use Rattle.proof_trees.specs.Boxes.{Box, tightened}
use Rattle.proof_trees.proofs.Duality.{length_tightened}
use Rattle.certificate.specs.Entries.{end_of, number_of}
use Rattle.search_core.specs.Journals.{divided}
use Rattle.search_core.specs.Machine.{Divides}
use Rattle.event_search.proofs.boxes.follow.Goals as goal

pub halve-requires-clause-whole : goal.halve-requires-clause-whole
halve-requires-clause-whole c = ap (λ (b : Box). length b) (c.tighten_all.ensures ∙ ap (λ (rs : List Row). tightened (whole c.args.model.now) c.args.b.now rs) c.as_slice.ensures) ∙ length_tightened (whole c.args.model.now) c.args.b.now c.args.entry.now.steps c.requires.whole

pub halve-requires-clause-divides : goal.halve-requires-clause-divides
halve-requires-clause-divides c = subst (λ (b : Box). Divides (whole c.args.model.now) b (end_of (number_of c.args.model.now) c.args.entry.now.end)) (sym (c.tighten_all.ensures ∙ ap (λ (rs : List Row). tightened (whole c.args.model.now) c.args.b.now rs) c.as_slice.ensures)) c.requires.divides

pub returns : goal.returns
returns c = c.halve.ensures ∙ ap (λ (b : Box). divided b (end_of (number_of c.args.model.now) c.args.entry.now.end) c.args.value) (c.tighten_all.ensures ∙ ap (λ (rs : List Row). tightened (whole c.args.model.now) c.args.b.now rs) c.as_slice.ensures)
