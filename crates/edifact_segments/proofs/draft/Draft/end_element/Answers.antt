use Rattle.std.proofs.Common.{◌+◌, ◌∷◌, ◌++◌, [], length, refl, ap, subst, ◌∙◌, sym, ◌<◌}
use Rattle.std.proofs.lemmas.List.{length_push}
use Rattle.edifact_segments.specs.Drafts.{placed, IsTagNext}
use Rattle.edifact_segments.proofs.DraftLemmas.{kept-element, kept-tag}
use Rattle.edifact_segments.proofs.RunLemmas.{whole}
use Rattle.edifact_segments.proofs.draft.Draft.end_element.Goals as goal

pub returns-clause-draft : goal.returns-clause-draft
returns-clause-draft c =
    let component = c.args.self.now.text.items ++ c.args.run.now in
    let kept = whole c.args.self.now.text.items c.args.run.now c.as_slice.result.now c.joined-text.result.now (λ e. c.as_slice.ensures.value ∙ c.lengthen.ensures.none e) (λ e. c.as_slice.ensures.value ∙ c.in_ok-lengthen.ensures.some e) c.joined-text.ensures.none c.joined-text.ensures.some in
    λ closed now h. record {
      element = ap (λ n. n + 1) h.element ∙ sym (length_push closed (now ++ component ∷ []));
      component = refl;
      tag = kept-tag _ closed (now ++ component ∷ []) (subst (λ t. IsTagNext c.next_tag-self.result closed (now ++ t ∷ [])) kept (c.next_tag-self.ensures closed now h.element h.component h.tag));
      elements = kept-element c.args.self.now.elements c.keep.new.elements c.args.self.now.element c.args.self.now.component now component
          (λ a b. let some : 0 < length c.joined-text.result.now = rw kept b in c.in_ok-keep.ensures.kept a some ∙ ap (placed c.args.self.now.elements c.args.self.now.element c.args.self.now.component) kept)
          c.in_ok-keep.ensures.tag
          (λ e. c.in_ok-keep.ensures.empty (ap length kept ∙ e))
          h.component closed h.element h.elements;
    }
