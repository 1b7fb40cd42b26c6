use Rattle.std.proofs.Common.{rules, arith, SFits, ℕ, pos, ◌-ℤ◌, ◌*ℤ◌}
use Rattle.std.specs.Int.{w128}
use Rattle.std.proofs.lemmas.Int.{to_z-of_z}
use Rattle.zero_one_rows.specs.Rows.{whole}
use Rattle.proof_trees.specs.Boxes.{at}
use Rattle.proof_trees.specs.Multipliers.{least, weighed, weighed_rhs}
use Rattle.dual_bound.proofs.Summing.{value_step}
use Rattle.dual_bound.proofs.plain_value.value.Goals as goal

pub loop-v-preserved : goal.loop-v-preserved
loop-v-preserved c =
    let f : SFits w128 c.sum_of-total.result = search rules in
    let g : SFits w128 c.part_of.result = search rules in
    record {
      value = simp to_z-of_z (value_step c.loop-v.v (λ (v : ℕ). least (at c.args.b.now v) (pos 16 *ℤ (whole c.args.model.now).cost v -ℤ weighed (whole c.args.model.now) c.args.m.now v)) (weighed_rhs (whole c.args.model.now) c.args.m.now) _ c.part_of.result c.sum_of-total.result c.loop-v.invariant.value c.part_of.ensures.value (simp to_z-of_z at c.sum_of-total.ensures.value));
      size = simp to_z-of_z (omega (arith, simp to_z-of_z at c.sum_of-total.ensures.size, c.part_of.ensures.size, c.loop-v.invariant.size));
    }
