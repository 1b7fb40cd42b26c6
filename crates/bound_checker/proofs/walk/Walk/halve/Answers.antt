use Rattle.std.proofs.Common.{rules, ◌≡◌, ◌<◌, ◌∙◌, ap, refl, sym, subst, set, length, ◌++◌, ◌∷◌, [], None, Some}
use Rattle.std.proofs.lemmas.Option.{slice_get_within}
use Rattle.proof_trees.specs.Boxes.{Box}
use Rattle.bound_checker.specs.Sums.{Carries}
use Rattle.bound_checker.proofs.walk.Walk.halve.Goals as goal

pub allow-requires-clause-var : goal.allow-requires-clause-var
allow-requires-clause-var c =
    subst (λ (b : Box). c.args.x < length b) (sym c.requires.priced.same) (slice_get_within c.args.self.now.b c.args.x None c.requires.free)

pub allow-requires-clause-carries : goal.allow-requires-clause-carries
allow-requires-clause-carries c = (c.requires.priced.carries.0, subst (λ (x : Box). Carries c.args.model.now x c.requires.priced.carries.0 c.args.self.now.prices.sums) (sym c.requires.priced.same) c.requires.priced.carries.1)

pub returns : goal.returns
returns c =
    let p = c.requires.priced in
    let fixes : c.push.new.self ≡ c.args.self.now.undo ++ c.args.x ∷ [] = search rules in
    let priced : c.allow.new.b ≡ c.fix.new.self = c.allow.ensures.there ∙ ap (λ (b : Box). set b c.args.x (Some c.args.value)) p.same ∙ sym c.fix.ensures in
    record {
      box = c.fix.ensures;
      fixes = fixes;
      waiting = refl;
      priced = priced;
      carries = λ ms h. subst (λ (x : Box). Carries c.args.model.now x ms c.allow.new.sums) priced (c.allow.ensures.carries ms (subst (λ (x : Box). Carries c.args.model.now x ms c.args.self.now.prices.sums) (sym p.same) h));
      changes = refl;
      done = refl;
    }
