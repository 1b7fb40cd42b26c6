use Rattle.std.proofs.Common.{◌≡◌, true, subst, ap}
use Rattle.proof_trees.specs.Boxes.{violated}
use Rattle.zero_one_rows.specs.Variables.{Voyage}
use Rattle.zero_one_rows.specs.Rows.{base, whole}
use Rattle.partial_plan.specs.declared.tightening.Tightened.{Tightened}
use Rattle.zero_one_rows.specs.Tightening.{IsQuiet}
use Rattle.partial_plan.specs.Kept.{Kept}
use Rattle.partial_plan.specs.Looking.{Ends}
use Rattle.partial_plan.proofs.kept.KeptBox.tighten.Goals as goal

pub returns-clause-quiet : goal.returns-clause-quiet
returns-clause-quiet c = λ e.
    subst (λ (m : Voyage). IsQuiet m c.tighten.new.self.b) (ap (λ (k : Kept). k.voyage) c.self.view_is)
    (subst (λ (t : Tightened). Ends c.self.inside.matrix.now c.tighten.new.self.b t) e c.tighten.ensures.ends)

pub returns-clause-violated : goal.returns-clause-violated
returns-clause-violated c = λ r e.
    subst (λ (m : Voyage). ((base m).has r ≡ true) × (violated (whole m) c.tighten.new.self.b r ≡ true)) (ap (λ (k : Kept). k.voyage) c.self.view_is)
    (subst (λ (t : Tightened). Ends c.self.inside.matrix.now c.tighten.new.self.b t) e c.tighten.ensures.ends)
