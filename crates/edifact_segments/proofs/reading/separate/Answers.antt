use Rattle.std.proofs.Common.{[], ◌∷◌, ◌++◌, ◌∙◌, ◌==◌, ◌||◌, sym, ap}
use Rattle.std.proofs.lemmas.Bool.{eqb-true}
use Rattle.edifact_segments.proofs.ScanLemmas.{opened, not_eqb, on_ok, push_element, push_component}
use Rattle.edifact_segments.proofs.reading.separate.Goals as goal

pub returns-then-byte-service-clause-draft : goal.returns-then-byte-service-clause-draft
returns-then-byte-service-clause-draft c = λ cs d.
    let text = c.args.draft.now.text.items ++ c.args.run.now in
    on_ok c.end_element.result (c.end_element.ensures.draft d.0 d.1 d.2) c.end_element.ensures.text (λ h t. (opened d.0 d.1 text, [], h, push_element c.args.service.now cs c.args.byte d.0 d.1 text c.end_element.new.self.text.items d.3 c.if-byte-service.true t))

pub returns-else-byte-service-clause-draft : goal.returns-else-byte-service-clause-draft
returns-else-byte-service-clause-draft c = λ cs d.
    let text = c.args.draft.now.text.items ++ c.args.run.now in
    let other = not_eqb c.args.byte c.args.service.now.element c.if-byte-service.false in
    let is = eqb-true c.args.byte c.args.service.now.component (sym (ap (λ b. b || (c.args.byte == c.args.service.now.component)) other) ∙ c.requires.separator) in
    on_ok c.end_component.result (c.end_component.ensures.draft d.0 d.1 d.2) c.end_component.ensures.text (λ h t. (d.0, d.1 ++ text ∷ [], h, push_component c.args.service.now cs c.args.byte d.0 d.1 text c.end_component.new.self.text.items d.3 c.if-byte-service.false is t))
