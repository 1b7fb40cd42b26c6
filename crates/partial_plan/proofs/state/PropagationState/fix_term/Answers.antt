use Rattle.std.proofs.Common.{◌≡◌, [], ◌∷◌, None, Some, sym, subst, rules}
use Rattle.std.specs.Prelude.{slice_get}
use Rattle.std.proofs.lemmas.Option.{get_or_from_slice_get}
use Rattle.proof_trees.specs.Boxes.{Box, at}
use Rattle.partial_plan.specs.Fixing.{Fixes}
use Rattle.partial_plan.proofs.Freeing.{fixes_one}
use Rattle.partial_plan.proofs.state.PropagationState.fix_term.Goals as goal

pub returns-clause-noted : goal.returns-clause-noted
returns-clause-noted c =
    let n : slice_get c.args.self.now.b c.args.term.now.at ≡ Some None = search rules in
    let free : at c.args.self.now.b c.args.term.now.at ≡ None = get_or_from_slice_get c.args.self.now.b c.args.term.now.at None None n in
    (c.args.term.now.at ∷ [], c.fix.ensures.undo, subst (λ (b : Box). Fixes c.args.self.now.b b (c.args.term.now.at ∷ [])) (sym c.fix.ensures.known) (fixes_one c.args.self.now.b c.args.term.now.at _ c.requires.var free))
