use Rattle.std.proofs.Common.{◌≡◌, ◌<◌, ◌∷◌, [], None, Some, length, sym, subst, ◌∙◌, ap}
use Rattle.std.specs.Prelude.{slice_get}
use Rattle.std.proofs.lemmas.Option.{get_or_from_slice_get, slice_get_within}
use Rattle.proof_trees.specs.Boxes.{Box}
use Rattle.zero_one_rows.specs.Variables.{Voyage, variables}
use Rattle.partial_plan.specs.Kept.{Kept}
use Rattle.partial_plan.specs.Fixing.{Fixes}
use Rattle.partial_plan.proofs.Freeing.{fixes_one}
use Rattle.node_work.proofs.Halves.{always_numbered, is_free, half_is}
use Rattle.node_work.proofs.retracing.halve.Goals as goal

pub fix-requires : goal.fix-requires
fix-requires c =
    is_free c.args.model.now c.args.kept.now.known c.args.end.now c.in-Branch.var c.in-Branch.is c.requires.divides c.in-Some.x c.in-Some.ensures.0 c.in-Some.ensures.1
    (c.is_whole.ensures.whole ∙ ap (λ (m : Voyage). length (variables m)) c.requires.program)

pub unreachable-requires : goal.unreachable-requires
unreachable-requires c = always_numbered c.args.model.now c.args.kept.now.known c.args.end.now c.in-Branch.var c.in-Branch.is c.requires.divides c.in-None.ensures

pub returns-clause-half : goal.returns-clause-half
returns-clause-half c = ap (λ (k : Kept). k.known) c.fix.ensures ∙ half_is c.args.model.now c.args.kept.now.known c.args.end.now c.in-Branch.var c.in-Branch.is c.requires.divides c.in-Some.x c.in-Some.ensures.0 c.in-Some.ensures.1 c.args.value

pub returns-clause-noted : goal.returns-clause-noted
returns-clause-noted c =
    let free : slice_get c.args.kept.now.known c.in-Some.x ≡ Some None =
    is_free c.args.model.now c.args.kept.now.known c.args.end.now c.in-Branch.var c.in-Branch.is c.requires.divides c.in-Some.x c.in-Some.ensures.0 c.in-Some.ensures.1
    (c.is_whole.ensures.whole ∙ ap (λ (m : Voyage). length (variables m)) c.requires.program) in
    let lt : c.in-Some.x < length c.args.kept.now.known = slice_get_within c.args.kept.now.known c.in-Some.x None free in (
      c.in-Some.x ∷ [],
      ap (λ (k : Kept). k.undo) c.fix.ensures,
      subst (λ (b : Box). Fixes c.args.kept.now.known b (c.in-Some.x ∷ [])) (sym (ap (λ (k : Kept). k.known) c.fix.ensures))
          (fixes_one c.args.kept.now.known c.in-Some.x c.args.value lt (get_or_from_slice_get c.args.kept.now.known c.in-Some.x None None free)),
    )
