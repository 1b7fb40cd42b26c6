use Rattle.std.proofs.Common.{◌≡◌, refl, ap, sym, subst, ◌∙◌, List, ◌∷◌, [], ◌++◌}
use Rattle.zero_one_rows.specs.Rows.{whole}
use Rattle.certificate.specs.declared.tree.Record.{Record}
use Rattle.certificate.specs.Entries.{end_of, number_of}
use Rattle.search_core.specs.Journals.{divided}
use Rattle.search_core.specs.Machine.{Divides}
use Rattle.node_work.specs.declared.positions.Frame.{Frame}
use Rattle.node_work.specs.declared.positions.TreePosition.{TreePosition}
use Rattle.node_work.proofs.Positioned.{deepest, position_less, low_marks, may_halve, turned, turned_at, position_fixed}
use Rattle.node_work.proofs.positions.TreePosition.turn.Goals as goal

pub back_to-requires-clause-position : goal.back_to-requires-clause-position
back_to-requires-clause-position c = position_less c.args.model.now c.args.self.now c.pop.new.self.items c.in-Some.frame c.requires.position c.in-Some.ensures.items _ refl refl refl refl

pub back_to-requires-clause-to : goal.back_to-requires-clause-to
back_to-requires-clause-to c = (deepest c.args.model.now c.args.self.now c.pop.new.self.items c.in-Some.frame c.requires.position c.in-Some.ensures.items).mark

pub back_to-requires-clause-low : goal.back_to-requires-clause-low
back_to-requires-clause-low c = low_marks c.args.model.now c.args.self.now c.pop.new.self.items c.in-Some.frame c.requires.position c.in-Some.ensures.items

pub halve-requires-clause-divides : goal.halve-requires-clause-divides
halve-requires-clause-divides c =
    let same : c.in_ok-entry.entry ≡ c.in-Some.frame.entry = c.in_ok-entry.ensures ∙ sym (c.requires.same c.pop.new.self.items c.in-Some.frame c.in-Some.ensures.items) in
    subst (λ (r : Record). Divides (whole c.args.model.now) c.back_to.new.self.kept.known (end_of (number_of c.args.model.now) r.end)) (sym (c.record.ensures ∙ same))
    (may_halve c.args.model.now c.args.self.now c.pop.new.self.items c.in-Some.frame c.requires.position c.in-Some.ensures.items c.back_to.new.self c.back_to.ensures.freed)

pub returns-in_err-push-clause-position : goal.returns-in_err-push-clause-position
returns-in_err-push-clause-position c =
    let n = c.halve.ensures.noted in
    position_fixed c.args.model.now c.back_to.new.self _ c.back_to.ensures.position c.halve.ensures.same n.0 n.1 n.2 (c.in_err-push.ensures.items)

pub returns-clause-position : goal.returns-clause-position
returns-clause-position c =
    let n = c.halve.ensures.noted in
    let same : c.back_to.new.self.frames.items ≡ c.pop.new.self.items = ap (λ v. v.items) c.back_to.ensures.frames in
    let t : TreePosition = record { kept = c.halve.new.kept; frames = c.push.new.self } in
    let own : c.in_ok-entry.entry ≡ c.in-Some.frame.entry = c.in_ok-entry.ensures ∙ sym (c.requires.same c.pop.new.self.items c.in-Some.frame c.in-Some.ensures.items) in
    let joined : c.push.new.self.items ≡ c.back_to.new.self.frames.items ++ record { entry = c.in-Some.frame.entry; value = c.args.value; mark = c.in-Some.frame.mark } ∷ [] =
    c.in_ok-push.ensures.items ∙ ap (λ (r : Record). c.back_to.new.self.frames.items ++ record { entry = r; value = c.args.value; mark = c.in-Some.frame.mark } ∷ []) own in
    turned c.args.model.now c.args.self.now c.pop.new.self.items c.in-Some.frame c.requires.position c.in-Some.ensures.items c.back_to.new.self t c.args.value n.0 c.back_to.ensures.position c.halve.ensures.same c.back_to.ensures.freed c.back_to.ensures.fewer same n.1 n.2
    (joined ∙ ap (λ (gs : List Frame). gs ++ record { entry = c.in-Some.frame.entry; value = c.args.value; mark = c.in-Some.frame.mark } ∷ []) same)

pub returns-clause-at_half : goal.returns-clause-at_half
returns-clause-at_half c =
    let t : TreePosition = record { kept = c.halve.new.kept; frames = c.push.new.self } in
    let own : c.in_ok-entry.entry ≡ c.in-Some.frame.entry = c.in_ok-entry.ensures ∙ sym (c.requires.same c.pop.new.self.items c.in-Some.frame c.in-Some.ensures.items) in
    let joined : c.push.new.self.items ≡ c.back_to.new.self.frames.items ++ record { entry = c.in-Some.frame.entry; value = c.args.value; mark = c.in-Some.frame.mark } ∷ [] =
    c.in_ok-push.ensures.items ∙ ap (λ (r : Record). c.back_to.new.self.frames.items ++ record { entry = r; value = c.args.value; mark = c.in-Some.frame.mark } ∷ []) own in
    let same : c.back_to.new.self.frames.items ≡ c.pop.new.self.items = ap (λ v. v.items) c.back_to.ensures.frames in
    turned_at c.args.model.now c.args.self.now c.pop.new.self.items c.in-Some.frame c.requires.position c.in-Some.ensures.items c.back_to.new.self t c.args.value c.back_to.ensures.freed (c.halve.ensures.half ∙ ap (λ (r : Record). divided c.back_to.new.self.kept.known (end_of (number_of c.args.model.now) r.end) c.args.value) (c.record.ensures ∙ own))
    (joined ∙ ap (λ (gs : List Frame). gs ++ record { entry = c.in-Some.frame.entry; value = c.args.value; mark = c.in-Some.frame.mark } ∷ []) same)
