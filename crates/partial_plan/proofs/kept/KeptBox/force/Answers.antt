use Rattle.std.proofs.Common.{◌≡◌, Some, subst, ◌∙◌, ap}
use Rattle.std.specs.Prelude.{slice_get}
use Rattle.std.proofs.lemmas.Option.{get_or_from_slice_get}
use Rattle.std.proofs.lemmas.Result.{on_ok_weaker}
use Rattle.proof_trees.specs.Boxes.{tight}
use Rattle.zero_one_rows.specs.declared.program.Row.{Row}
use Rattle.zero_one_rows.specs.declared.program.Row.TheVariants.{Cell}
use Rattle.zero_one_rows.specs.Rows.{whole}
use Rattle.zero_one_rows.specs.Counted.{base_rows}
use Rattle.partial_plan.specs.Kept.{Kept}
use Rattle.partial_plan.proofs.CalmRows.{rests_marks}
use Rattle.partial_plan.proofs.Freed.{fixes_fewer}
use Rattle.partial_plan.proofs.kept.KeptBox.force.Goals as goal

pub invariant_of-self : goal.invariant_of-self
invariant_of-self c = record {
  state = c.force.ensures.state;
  rests = rests_marks c.self.inside.matrix.now c.self.inside.state.b c.force.new.self.b c.self.inside.state.slacks c.force.new.self.slacks
      (fixes_fewer c.self.inside.state.b c.force.new.self.b c.force.ensures.noted.0 c.force.ensures.noted.2) c.force.ensures.marks c.self.invariant.rests;
}

pub returns-clause-tight : goal.returns-clause-tight
returns-clause-tight c = on_ok_weaker c.force.result
    (λ is. subst (λ (k : Kept). (r : Row) → slice_get (base_rows k.voyage) c.args.k ≡ Some r → c.force.new.self.b ≡ tight (whole k.voyage) k.known r) c.self.view_is
    (λ r at. is ∙ ap (tight (whole c.self.inside.matrix.now) c.self.inside.state.b) (get_or_from_slice_get (base_rows c.self.inside.matrix.now) c.args.k r (Cell 0 0) at)))
    c.force.ensures.known
