use Rattle.std.proofs.Common.{◌≡◌, ℕ, List, true, length, sym, subst, refl, ◌∙◌, ap}
use Rattle.zero_one_rows.specs.Rows.{whole}
use Rattle.proof_trees.specs.Boxes.{free_box, tightened}
use Rattle.certificate.specs.declared.tree.Record.{Record}
use Rattle.certificate.specs.Entries.{end_of, number_of}
use Rattle.search_core.specs.Machine.{Divides}
use Rattle.node_work.specs.declared.positions.Frame.{Frame}
use Rattle.node_work.specs.Positions.{box_along}
use Rattle.node_work.proofs.Positioned.{position_noted}
use Rattle.node_work.proofs.positions.TreePosition.note.Goals as goal

pub returns : goal.returns
returns c =
    let same : c.in_ok-entry.entry ≡ c.args.entry.now = c.in_ok-entry.ensures ∙ c.in_ok-copy.ensures in
    let f : Frame = record { entry = c.in_ok-entry.entry; value = true; mark = length c.fixed-mark.result.now } in
    position_noted c.args.model.now c.args.self.now _ f c.requires.position refl c.in_ok-push.ensures.items
    (c.requires.at ∙ ap (λ (r : Record). tightened (whole c.args.model.now) (box_along c.args.model.now (free_box (whole c.args.model.now)) c.args.self.now.frames.items) r.steps) (sym same))
    (sym (ap (λ (us : List ℕ). length us) c.fixed-mark.ensures))
    (subst (λ (r : Record). Divides (whole c.args.model.now) c.args.self.now.kept.known (end_of (number_of c.args.model.now) r.end)) (sym same) c.requires.divides)
