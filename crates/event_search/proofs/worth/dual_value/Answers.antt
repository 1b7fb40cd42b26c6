use Rattle.std.proofs.Common.{rules, arith, ◌≡◌, ◌<◌, ◌≤◌, ◌^◌, SFits, ℕ, ℤ, length, sym, subst, ◌∙◌, ap, pos, ◌-ℤ◌, ◌*ℤ◌}
use Rattle.std.specs.Int.{w128}
use Rattle.std.specs.Int.RustNames.{unsigned_abs}
use Rattle.std.proofs.lemmas.Int.{to_z-of_z}
use borrow.Author.Differences.{ints}
use Rattle.zero_one_rows.specs.Variables.{variables}
use Rattle.zero_one_rows.specs.Rows.{whole}
use Rattle.zero_one_rows.specs.Counted.{all_rows}
use Rattle.proof_trees.specs.Boxes.{at}
use Rattle.proof_trees.specs.Multipliers.{least, weighed, weighed_rhs}
use Rattle.dual_bound.proofs.Summing.{value_step}
use Rattle.event_search.proofs.Raising.{right_low, weight_low, weight_here}
use Rattle.event_search.proofs.worth.dual_value.Goals as goal

pub loop-v-init : goal.loop-v-init
loop-v-init c =
    let few : length (all_rows c.args.model.now) ≤ 2000000 = omega (arith, c.rows-rows.ensures.number, c.rows-rows.ensures.size) in
    let f : SFits w128 c.args.tally.now.right = search rules in
    record {
      value = λ ns t. simp to_z-of_z (omega (arith, ints, t.right.total));
      size = simp to_z-of_z (right_low c.args.model.now c.requires.some.0 c.args.tally.now few c.requires.some.1);
    }

pub part_of-requires-clause-weighed : goal.part_of-requires-clause-weighed
part_of-requires-clause-weighed c =
    let m = c.args.model.now in
    let some = c.requires.some in
    let few : length (all_rows m) ≤ 2000000 = omega (arith, c.rows-rows.ensures.number, c.rows-rows.ensures.size) in
    let lt : c.loop-v.v < length (variables m) = omega (arith, c.vars-v-end.ensures.number, c.loop-v-test.true) in
    let w : SFits w128 c.index.result.now = search rules in
    simp to_z-of_z (subst (λ (z : ℤ). unsigned_abs z ≤ 2 ^ 98) (sym (weight_here m some.0 c.args.tally.now c.loop-v.v c.index.result.now lt some.1 c.index.ensures)) (weight_low m some.0 c.args.tally.now c.loop-v.v few lt some.1))

pub loop-v-preserved : goal.loop-v-preserved
loop-v-preserved c =
    let m = c.args.model.now in
    let lt : c.loop-v.v < length (variables m) = omega (arith, c.vars-v-end.ensures.number, c.loop-v-test.true) in
    let f : SFits w128 c.sum_of-total.result = search rules in
    let g : SFits w128 c.part_of.result = search rules in
    let w : SFits w128 c.index.result.now = search rules in
    let part : c.part_of.result ≡ least (at c.args.b.now c.loop-v.v) (pos 16 *ℤ (whole m).cost c.loop-v.v -ℤ c.index.result.now) = simp to_z-of_z at c.part_of.ensures.value in
    record {
      value = λ ns t.
          let here : c.index.result.now ≡ weighed (whole m) ns c.loop-v.v = weight_here m ns c.args.tally.now c.loop-v.v c.index.result.now lt t c.index.ensures ∙ (t.weights c.loop-v.v lt).total in
          simp to_z-of_z (value_step c.loop-v.v (λ (v : ℕ). least (at c.args.b.now v) (pos 16 *ℤ (whole m).cost v -ℤ weighed (whole m) ns v)) (weighed_rhs (whole m) ns) _ c.part_of.result c.sum_of-total.result (c.loop-v.invariant.value ns t)
          (part ∙ ap (λ (z : ℤ). least (at c.args.b.now c.loop-v.v) (pos 16 *ℤ (whole m).cost c.loop-v.v -ℤ z)) here) (simp to_z-of_z at c.sum_of-total.ensures.value));
      size = simp to_z-of_z (omega (arith, simp to_z-of_z at c.sum_of-total.ensures.size, c.part_of.ensures.size, c.loop-v.invariant.size));
    }
