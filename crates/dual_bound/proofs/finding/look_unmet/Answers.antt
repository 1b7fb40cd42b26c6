use Rattle.std.proofs.Common.{arith, ◌≡◌, Some, false, not, sym, subst, ap, ◌∙◌}
use Rattle.std.specs.Prelude.{slice_get}
use Rattle.zero_one_rows.specs.Variables.{Voyage}
use Rattle.zero_one_rows.specs.Rows.{whole}
use Rattle.proof_trees.specs.Boxes.{violated}
use Rattle.zero_one_rows.specs.Counted.{base_rows}
use Rattle.dual_bound.proofs.BaseFlat.{base_few}
use Rattle.dual_bound.proofs.Leaning.{base_there, met_flat}
use Rattle.dual_bound.proofs.finding.look_unmet.Goals as goal

pub look-requires-clause-number : goal.look-requires-clause-number
look-requires-clause-number c = omega (arith, base_few c.args.model.now, c.requires.number)

pub returns-then-is_met-clause-none : goal.returns-then-is_met-clause-none
returns-then-is_met-clause-none c = λ ok r at.
    let m : Voyage = c.args.model.now in
    let there : slice_get (base_rows m) c.args.number ≡ Some r = base_there m c.args.number r c.requires.number at in
    let told : violated (whole c.args.minimizer.now.voyage) c.args.minimizer.now.known r ≡ not c.is_met.result = c.is_met.ensures r (subst (λ (v : Voyage). slice_get (base_rows v) c.args.number ≡ Some r) (sym c.requires.minimizer) there) in
    let met : violated (whole m) c.args.minimizer.now.known r ≡ false = subst (λ (v : Voyage). violated (whole v) c.args.minimizer.now.known r ≡ false) c.requires.minimizer (told ∙ ap not c.if-is_met.true) in
    met_flat m c.args.b.now c.args.m.now c.args.costs.now c.args.minimizer.now.known r c.requires.whole c.requires.priced c.requires.leans met
