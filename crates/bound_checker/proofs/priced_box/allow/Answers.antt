use Rattle.std.proofs.Common.{◌≡◌, ◌∙◌, ap, sym, subst, set, length, Some, None, Option, Bool}
use Rattle.std.proofs.lemmas.List.{length-set}
use Rattle.proof_trees.specs.Boxes.{Box}
use Rattle.dual_bound.specs.Costs.{Priced}
use Rattle.bound_checker.specs.Sums.{IsBlank}
use Rattle.bound_checker.proofs.Following.{set_twice}
use Rattle.bound_checker.proofs.priced_box.allow.Goals as goal

pub returns-in-Some-clause-there : goal.returns-in-Some-clause-there
returns-in-Some-clause-there c =
    c.fix.ensures ∙ ap (λ (b : Box). set b c.args.x (Some c.in-Some.value)) c.release.ensures ∙ set_twice c.args.b.now c.args.x None (Some c.in-Some.value) ∙ ap (λ (o : Option Bool). set c.args.b.now c.args.x o) (sym c.in-Some.is)

pub returns-in-Some-clause-carries : goal.returns-in-Some-clause-carries
returns-in-Some-clause-carries c = λ ms h.
    let there : c.fix.new.self ≡ set c.args.b.now c.args.x c.args.allowed =
    c.fix.ensures ∙ ap (λ (b : Box). set b c.args.x (Some c.in-Some.value)) c.release.ensures ∙ set_twice c.args.b.now c.args.x None (Some c.in-Some.value) ∙ ap (λ (o : Option Bool). set c.args.b.now c.args.x o) (sym c.in-Some.is) in
    record {
      whole = ap (λ (b : Box). length b) there ∙ length-set c.args.b.now c.args.x c.args.allowed ∙ h.whole;
      amounts = h.amounts;
      rows = h.rows;
      priced = subst (λ (b : Box). Priced c.args.model.now b ms c.allow.new.self) (sym there) (c.allow.ensures ms h.priced);
      blank = subst (λ (b : Box). IsBlank c.args.model.now b c.allow-2.new.self) (sym there) c.allow-2.ensures;
    }
