use Rattle.std.proofs.Common.{◌≡◌, ◌<◌, ◌∷◌, [], Option, Bool, Some, None, length, sym, subst, ◌∙◌, ap}
use Rattle.std.specs.Prelude.{slice_get}
use Rattle.std.proofs.lemmas.Option.{get_or_from_slice_get, slice_get_within}
use Rattle.partial_plan.specs.Kept.{Kept}
use Rattle.proof_trees.specs.Boxes.{Box}
use Rattle.partial_plan.specs.Fixing.{Fixes}
use Rattle.partial_plan.proofs.Freeing.{fixes_one}
use Rattle.node_work.proofs.Adopting.{adopted_fixed, adopted_free}
use Rattle.node_work.proofs.retracing.adopt_one.Goals as goal

pub returns-in-Some-clause-known : goal.returns-in-Some-clause-known
returns-in-Some-clause-known c =
    let here : slice_get c.args.kept.now.known c.args.x ≡ Some (Some c.in-Some.field-0) = ap (λ (b : Box). slice_get b c.args.x) (sym c.now.ensures) ∙ c.at.ensures ∙ ap (λ (o : Option Bool). Some o) c.in-Some.is in
    adopted_fixed c.args.kept.now.known c.args.b.now c.args.x c.in-Some.field-0 (get_or_from_slice_get c.args.kept.now.known c.args.x (Some c.in-Some.field-0) None here)

pub returns-in-None-at-clause-known : goal.returns-in-None-at-clause-known
returns-in-None-at-clause-known c =
    let here : slice_get c.args.kept.now.known c.args.x ≡ Some None = ap (λ (b : Box). slice_get b c.args.x) (sym c.now.ensures) ∙ c.at.ensures ∙ ap (λ (o : Option Bool). Some o) c.in-None.is in
    adopted_free c.args.kept.now.known c.args.b.now c.args.x (get_or_from_slice_get c.args.kept.now.known c.args.x None None here)
    (get_or_from_slice_get c.args.b.now c.args.x None None (c.at-in-None.ensures ∙ ap (λ (o : Option Bool). Some o) c.in-None-at.is))

pub returns-in-Some-at-clause-noted : goal.returns-in-Some-at-clause-noted
returns-in-Some-at-clause-noted c =
    let free : slice_get c.args.kept.now.known c.args.x ≡ Some None = ap (λ (b : Box). slice_get b c.args.x) (sym c.now.ensures) ∙ c.at.ensures ∙ ap (λ (o : Option Bool). Some o) c.in-None.is in
    let lt : c.args.x < length c.args.kept.now.known = slice_get_within c.args.kept.now.known c.args.x None free in (
      c.args.x ∷ [],
      ap (λ (k : Kept). k.undo) c.fix.ensures,
      subst (λ (b : Box). Fixes c.args.kept.now.known b (c.args.x ∷ [])) (sym (ap (λ (k : Kept). k.known) c.fix.ensures))
          (fixes_one c.args.kept.now.known c.args.x c.in-Some-at.value lt (get_or_from_slice_get c.args.kept.now.known c.args.x None None free)),
    )
