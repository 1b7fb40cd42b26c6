use Rattle.std.proofs.Common.{◌<◌, ◌∙◌, ap, refl, sym, subst, ℕ, List, All, length}
use Rattle.proof_trees.specs.Boxes.{Box}
use Rattle.partial_plan.specs.Fixing.{freed}
use Rattle.bound_checker.specs.Sums.{Carries}
use Rattle.bound_checker.proofs.Raising.{carries_kept}
use Rattle.bound_checker.proofs.Walks.{noted_past}
use Rattle.bound_checker.proofs.walk.Walk.tighten.Goals as goal

pub follow-requires-clause-inside : goal.follow-requires-clause-inside
follow-requires-clause-inside c =
    let e = c.in_ok-tighten_all.ensures in
    let is = noted_past c.args.self.now.undo c.tighten_all.new.undo e.noted.0 c.len-mark.result c.past-fixed.result.now e.noted.1 c.len-mark.ensures c.past-fixed.ensures in
    subst (λ (x : Box). All (λ v. v < length x) c.past-fixed.result.now) (sym c.requires.priced.same)
    (subst (λ (us : List ℕ). All (λ v. v < length c.args.self.now.b) us) (sym is) e.noted.2.inside)

pub follow-requires-clause-back : goal.follow-requires-clause-back
follow-requires-clause-back c =
    let e = c.in_ok-tighten_all.ensures in
    let is = noted_past c.args.self.now.undo c.tighten_all.new.undo e.noted.0 c.len-mark.result c.past-fixed.result.now e.noted.1 c.len-mark.ensures c.past-fixed.ensures in
    ap (freed c.tighten_all.new.b) is ∙ e.noted.2.back ∙ sym c.requires.priced.same

pub follow-requires-clause-carries : goal.follow-requires-clause-carries
follow-requires-clause-carries c = (c.requires.priced.carries.0, carries_kept _ _ _ _ (subst (λ (x : Box). Carries c.args.model.now x c.requires.priced.carries.0 c.args.self.now.prices.sums) (sym c.requires.priced.same) c.requires.priced.carries.1) _ refl refl refl c.in_ok-tighten_all.ensures.rows)

pub tighten_all-requires-clause-rows : goal.tighten_all-requires-clause-rows
tighten_all-requires-clause-rows c = c.requires.priced.carries.1.rows

pub returns-clause-tightened : goal.returns-clause-tightened
returns-clause-tightened c =
    let e = c.in_ok-tighten_all.ensures in
    record {
      fixed = e.noted.0;
      fixes = e.noted.2;
      goes = record {
        box = e.tightened;
        fixes = e.noted.1;
        waiting = refl;
        priced = c.follow.ensures.there;
        carries = λ ms h. subst (λ (x : Box). Carries c.args.model.now x ms c.follow.new.sums) c.follow.ensures.there (c.follow.ensures.carries ms (carries_kept _ _ _ _ (subst (λ (x : Box). Carries c.args.model.now x ms c.args.self.now.prices.sums) (sym c.requires.priced.same) h) _ refl refl refl e.rows));
        changes = refl;
        done = refl;
      };
    }
