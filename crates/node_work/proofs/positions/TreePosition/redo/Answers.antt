use Rattle.std.proofs.Common.{◌≡◌, ℕ, List, length, refl, ap, sym, subst, ◌∙◌, []}
use Rattle.zero_one_rows.specs.Rows.{whole}
use Rattle.proof_trees.specs.Boxes.{Box, tightened}
use Rattle.certificate.specs.declared.tree.Record.{Record}
use Rattle.certificate.specs.Entries.{end_of, number_of}
use Rattle.search_core.specs.Journals.{divided}
use Rattle.search_core.specs.Machine.{Divides}
use Rattle.partial_plan.proofs.Freeing.{noted_more}
use Rattle.node_work.specs.declared.positions.Frame.{Frame}
use Rattle.node_work.specs.declared.positions.TreePosition.{TreePosition}
use Rattle.node_work.proofs.Positioned.{position_fixed, redone, redone_at}
use Rattle.node_work.proofs.positions.TreePosition.redo.Goals as goal

pub returns-in_err-retighten-clause-position : goal.returns-in_err-retighten-clause-position
returns-in_err-retighten-clause-position c = let n = c.in_err-retighten.ensures.noted in position_fixed c.args.model.now c.args.self.now _ c.requires.position c.in_err-retighten.ensures.same n.0 n.1 n.2 refl

pub halve-requires-clause-divides : goal.halve-requires-clause-divides
halve-requires-clause-divides c =
    let same : c.record-record.result.now ≡ c.args.entry.now = c.record-record.ensures ∙ c.in_ok-entry.ensures in
    let e : c.retighten.new.kept.known ≡ tightened (whole c.args.model.now) c.args.self.now.kept.known c.args.entry.now.steps = c.in_ok-retighten.ensures.tight ∙ ap (tightened (whole c.args.model.now) c.args.self.now.kept.known) (c.as_slice.ensures ∙ c.in_ok-steps.ensures ∙ ap (λ (r : Record). r.steps) same) in
    subst (λ (b : Box). Divides (whole c.args.model.now) b (end_of (number_of c.args.model.now) c.record-record.result.now.end)) (sym e)
    (subst (λ (r : Record). Divides (whole c.args.model.now) (tightened (whole c.args.model.now) c.args.self.now.kept.known c.args.entry.now.steps) (end_of (number_of c.args.model.now) r.end)) (sym same) c.requires.divides)

pub returns-in_err-push-clause-position : goal.returns-in_err-push-clause-position
returns-in_err-push-clause-position c =
    let n = noted_more c.args.self.now.kept.known c.retighten.new.kept.known c.halve.new.kept.known c.args.self.now.kept.undo c.retighten.new.kept.undo c.halve.new.kept.undo c.in_ok-retighten.ensures.noted c.halve.ensures.noted in
    position_fixed c.args.model.now c.args.self.now _ c.requires.position (c.halve.ensures.same ∙ c.in_ok-retighten.ensures.same) n.0 n.1 n.2 c.in_err-push.ensures.items

pub returns-clause-position : goal.returns-clause-position
returns-clause-position c =
    let n = c.in_ok-retighten.ensures.noted in
    let k = c.halve.ensures.noted in
    let u : TreePosition = record { kept = c.retighten.new.kept; frames = c.args.self.now.frames } in
    let t : TreePosition = record { kept = c.halve.new.kept; frames = c.push.new.self } in
    let f : Frame = record { entry = c.in_ok-entry.entry; value = c.args.value; mark = length c.fixed-mark.result.now } in
    let e : c.retighten.new.kept.known ≡ tightened (whole c.args.model.now) c.args.self.now.kept.known c.args.entry.now.steps = c.in_ok-retighten.ensures.tight ∙ ap (tightened (whole c.args.model.now) c.args.self.now.kept.known) (c.as_slice.ensures ∙ c.in_ok-steps.ensures ∙ ap (λ (r : Record). r.steps) (c.record-record.ensures ∙ c.in_ok-entry.ensures)) in
    let divides : Divides (whole c.args.model.now) c.retighten.new.kept.known (end_of (number_of c.args.model.now) c.in_ok-entry.entry.end) =
    subst (λ (b : Box). Divides (whole c.args.model.now) b (end_of (number_of c.args.model.now) c.in_ok-entry.entry.end)) (sym e)
    (subst (λ (r : Record). Divides (whole c.args.model.now) (tightened (whole c.args.model.now) c.args.self.now.kept.known c.args.entry.now.steps) (end_of (number_of c.args.model.now) r.end)) (sym c.in_ok-entry.ensures) c.requires.divides) in
    redone c.args.model.now c.args.self.now u t f c.requires.position n.0 k.0 c.requires.at c.in_ok-retighten.ensures.same (c.in_ok-retighten.ensures.tight ∙ ap (tightened (whole c.args.model.now) c.args.self.now.kept.known) (c.as_slice.ensures ∙ c.in_ok-steps.ensures ∙ ap (λ (r : Record). r.steps) c.record-record.ensures)) n.1 n.2 refl
    c.halve.ensures.same (sym (ap (λ (us : List ℕ). length us) c.fixed-mark.ensures)) divides k.1 k.2 c.in_ok-push.ensures.items

pub returns-clause-at_half : goal.returns-clause-at_half
returns-clause-at_half c =
    let n = c.in_ok-retighten.ensures.noted in
    let u : TreePosition = record { kept = c.retighten.new.kept; frames = c.args.self.now.frames } in
    let t : TreePosition = record { kept = c.halve.new.kept; frames = c.push.new.self } in
    let f : Frame = record { entry = c.in_ok-entry.entry; value = c.args.value; mark = length c.fixed-mark.result.now } in
    redone_at c.args.model.now c.args.self.now u t f c.requires.position n.0 [] c.requires.at c.in_ok-retighten.ensures.same (c.in_ok-retighten.ensures.tight ∙ ap (tightened (whole c.args.model.now) c.args.self.now.kept.known) (c.as_slice.ensures ∙ c.in_ok-steps.ensures ∙ ap (λ (r : Record). r.steps) c.record-record.ensures)) n.1 n.2 refl
    (c.halve.ensures.half ∙ ap (λ (r : Record). divided c.retighten.new.kept.known (end_of (number_of c.args.model.now) r.end) c.args.value) c.record-record.ensures) c.in_ok-push.ensures.items
