use Rattle.std.proofs.Common.{rules, arith, ◌≡◌, ◌<◌, length, [], ◌∷◌, ◌++◌, None, Some, sym, subst}
use Rattle.std.specs.Prelude.{slice_get}
use Rattle.std.proofs.lemmas.Option.{get_or_from_slice_get}
use Rattle.proof_trees.specs.Boxes.{Box, at}
use Rattle.partial_plan.specs.Fixing.{Fixes}
use Rattle.partial_plan.proofs.Freeing.{fixes_one, noted_none}
use Rattle.partial_plan.proofs.forcing.note_one.Goals as goal

pub returns-in_ok-push-clause-noted : goal.returns-in_ok-push-clause-noted
returns-in_ok-push-clause-noted c =
    let e : c.push.new.self ≡ c.args.undo.now ++ c.args.x ∷ [] = search rules in
    let n : slice_get c.args.b.now c.args.x ≡ Some None = search rules in
    let free : at c.args.b.now c.args.x ≡ None = get_or_from_slice_get c.args.b.now c.args.x None None n in
    let lt : c.args.x < length c.args.b.now = omega (arith, c.requires.var, c.requires.whole) in
    (c.args.x ∷ [], e, subst (λ (b : Box). Fixes c.args.b.now b (c.args.x ∷ [])) (sym c.fix.ensures) (fixes_one c.args.b.now c.args.x _ lt free))

pub returns-else-is_forced-clause-noted : goal.returns-else-is_forced-clause-noted
returns-else-is_forced-clause-noted c = noted_none c.args.b.now c.args.undo.now
