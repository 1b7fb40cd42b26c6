use Rattle.std.proofs.Common.{◌≡◌, ◌-◌, ◌≤◌, ◌++◌, [], ◌∷◌, length, replicate, refl, ap, ◌∙◌, arith}
use Rattle.edifact_segments.specs.Pieces.{on_last}
use Rattle.edifact_segments.proofs.DraftLemmas.{pad_none, pad_more, length-on_last}
use Rattle.edifact_segments.proofs.draft.pad_components.Goals as goal

pub loop-index-init : goal.loop-index-init
loop-index-init c = (pad_none c.args.elements.now c.args.present, refl, omega arith)

pub loop-index-preserved : goal.loop-index-preserved
loop-index-preserved c =
    let i = c.loop-index._index in
    let le : c.args.present ≤ i = c.loop-index.auto._index in
    (c.in_ok-add_component.ensures ∙ ap (on_last (λ e. e ++ [] ∷ [])) c.loop-index.invariant.0 ∙ pad_more c.args.elements.now c.args.present i le, ap length c.in_ok-add_component.ensures ∙ length-on_last (λ e. e ++ [] ∷ []) c.loop-index.elements ∙ c.loop-index.invariant.1, omega arith)

pub returns-clause-padded : goal.returns-clause-padded
returns-clause-padded c =
    let e : c.loop-index._index - c.args.present ≡ c.args.count - c.args.present = omega arith in
    c.loop-index.invariant.0 ∙ ap (λ k. on_last (λ e. e ++ replicate k []) c.args.elements.now) e
