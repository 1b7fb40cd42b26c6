use Rattle.std.proofs.Common.{rules, ◌≡◌, [], ◌∷◌, ◌++◌, None, Some, sym, subst}
use Rattle.std.specs.Prelude.{slice_get}
use Rattle.std.proofs.lemmas.Option.{get_or_from_slice_get}
use Rattle.proof_trees.specs.Boxes.{Box, at}
use Rattle.partial_plan.specs.Fixing.{Fixes}
use Rattle.partial_plan.proofs.Freeing.{fixes_one}
use Rattle.bound_checker.proofs.forcing.note_one.Goals as goal

pub returns-in_ok-push-clause-noted : goal.returns-in_ok-push-clause-noted
returns-in_ok-push-clause-noted c =
    let e : c.push.new.self ≡ c.args.undo.now ++ c.args.term.at ∷ [] = search rules in
    let n : slice_get c.args.b.now c.args.term.at ≡ Some None = search rules in
    let free : at c.args.b.now c.args.term.at ≡ None = get_or_from_slice_get c.args.b.now c.args.term.at None None n in
    (c.args.term.at ∷ [], e, subst (λ (b : Box). Fixes c.args.b.now b (c.args.term.at ∷ [])) (sym c.fix.ensures) (fixes_one c.args.b.now c.args.term.at _ c.requires free))
