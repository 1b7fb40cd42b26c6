use Rattle.std.proofs.Common.{rules, ◌≡◌, ◌∙◌, ap, sym, ◌++◌, ◌∷◌, []}
use Rattle.zero_one_rows.specs.declared.program.Row.{Row}
use Rattle.proof_trees.specs.Multipliers.{Multipliers}
use Rattle.dual_bound.proofs.Placing.{given_behind, here_or}
use Rattle.dual_bound.proofs.multipliers.Multipliers.give.Goals as goal

pub returns-in-Some : goal.returns-in-Some
returns-in-Some c =
    let e : c.self.inside.entries.items ≡ c.args.self.now = search rules in
    here_or c.self.inside.entries.items c.args.self.now c.args.r c.in-Some.k c.args.amount c.index_mut.result.now e (sym c.requires.place ∙ c.in-Some.is) c.index_mut.ensures.value

pub returns-in_ok-push-in-None : goal.returns-in_ok-push-in-None
returns-in_ok-push-in-None c =
    let e : c.self.inside.entries.items ≡ c.args.self.now = search rules in
    let p : c.push.new.self.items ≡ c.self.inside.entries.items ++ (c.args.r, c.args.amount) ∷ [] = search rules in
    p ∙ ap (λ (es : Multipliers Row). es ++ (c.args.r, c.args.amount) ∷ []) e ∙ given_behind c.args.self.now c.args.r c.args.amount (sym c.requires.place ∙ c.in-None.is)
