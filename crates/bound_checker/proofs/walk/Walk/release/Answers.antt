use Rattle.std.proofs.Common.{◌≡◌, ◌<◌, ◌∙◌, ap, refl, sym, subst, ℕ, List, All, length, drop}
use Rattle.std.proofs.lemmas.List.Elements.{All-drop}
use Rattle.proof_trees.specs.Boxes.{Box}
use Rattle.partial_plan.specs.Fixing.{freed}
use Rattle.bound_checker.specs.Sums.{Carries}
use Rattle.bound_checker.proofs.walk.Walk.release.Goals as goal

pub free_all-requires-clause-carries : goal.free_all-requires-clause-carries
free_all-requires-clause-carries c = (c.requires.priced.carries.0, subst (λ (x : Box). Carries c.args.model.now x c.requires.priced.carries.0 c.args.self.now.prices.sums) (sym c.requires.priced.same) c.requires.priced.carries.1)

pub free_all-requires-clause-inside : goal.free_all-requires-clause-inside
free_all-requires-clause-inside c =
    subst (λ (x : Box). All (λ v. v < length x) c.past-fixed.result.now) (sym c.requires.priced.same)
    (subst (λ (us : List ℕ). All (λ v. v < length c.args.self.now.b) us) (sym c.past-fixed.ensures) (All-drop (λ v. v < length c.args.self.now.b) c.args.mark c.args.self.now.undo c.requires.inside))

pub returns : goal.returns
returns c =
    let p = c.requires.priced in
    let priced : c.free_all.new.b ≡ c.undo.new.b =
    c.free_all.ensures.there ∙ ap (freed c.args.self.now.priced) c.past-fixed.ensures ∙ ap (λ (x : Box). freed x (drop c.args.mark c.args.self.now.undo)) p.same ∙ sym c.undo.ensures.freed in
    record {
      box = c.undo.ensures.freed;
      fixes = c.undo.ensures.kept;
      waiting = refl;
      priced = priced;
      carries = λ ms h. subst (λ (x : Box). Carries c.args.model.now x ms c.free_all.new.sums) priced (c.free_all.ensures.carries ms (subst (λ (x : Box). Carries c.args.model.now x ms c.args.self.now.prices.sums) (sym p.same) h));
      changes = refl;
      done = refl;
    }
