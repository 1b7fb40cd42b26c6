use Rattle.std.proofs.Common.{rules, arith, SFits, w64, ◌≡◌, ◌≤◌, ◌<◌, ◌+ℤ◌, ◌*ℤ◌, length, pos, ℤ, ◌∙◌, ap, subst, to_z}
use Rattle.std.specs.Int.{w128}
use Rattle.std.proofs.lemmas.Int.{to_z-of_z}
use Rattle.zero_one_rows.specs.declared.program.Row.{Row}
use Rattle.zero_one_rows.specs.Rows.{whole}
use Rattle.zero_one_rows.specs.Counted.{all_rows}
use Rattle.proof_trees.specs.Multipliers.{Multipliers, dot}
use Rattle.dual_bound.proofs.Multiplied.{named_here, dot_here, all_read}
use Rattle.dual_bound.proofs.RowsListed.{few_multipliers}
use Rattle.dual_bound.proofs.plain_value.weighed_right.Goals as goal

pub signed-requires : goal.signed-requires
signed-requires c = (named_here c.args.model.now c.args.m.now c.as_slice-entry-items.result.now c.loop-entry.entry-index c.entry-item.result c.requires c.as_slice-entry-items.ensures c.loop-entry-test.true c.entry-item.is).1

pub rhs-requires : goal.rhs-requires
rhs-requires c = (named_here c.args.model.now c.args.m.now c.as_slice-entry-items.result.now c.loop-entry.entry-index c.entry-item.result c.requires c.as_slice-entry-items.ensures c.loop-entry-test.true c.entry-item.is).0

pub grown-total-requires-clause-total : goal.grown-total-requires-clause-total
grown-total-requires-clause-total c =
    let few : length (all_rows c.args.model.now) ≤ 2000000 = omega (arith, c.rows-rows.ensures.number, c.rows-rows.ensures.size) in
    let n : length c.args.m.now ≤ length (all_rows c.args.model.now) = few_multipliers c.args.model.now c.args.m.now c.requires in
    let lt : c.loop-entry.entry-index < length c.args.m.now = subst (λ (ys : Multipliers Row). c.loop-entry.entry-index < length ys) c.as_slice-entry-items.ensures c.loop-entry-test.true in
    omega (arith, c.loop-entry.invariant.size)

pub loop-entry-preserved : goal.loop-entry-preserved
loop-entry-preserved c =
    let f : SFits w128 c.grown-total.result = search rules in
    let g : SFits w64 c.signed.result = search rules in
    let h : SFits w64 c.rhs.result = search rules in
    let is : c.grown-total.result ≡ to_z w128 c.loop-entry.total-bits +ℤ pos c.entry-item.result.1 *ℤ (whole c.args.model.now).rhs c.entry-item.result.0 =
    (simp to_z-of_z at c.grown-total.ensures.value) ∙ ap (λ (z : ℤ). to_z w128 c.loop-entry.total-bits +ℤ z *ℤ c.rhs.result) c.signed.ensures.value ∙ ap (λ (z : ℤ). to_z w128 c.loop-entry.total-bits +ℤ pos c.entry-item.result.1 *ℤ z) c.rhs.ensures.value in
    record {
      value = simp to_z-of_z (dot_here c.args.model.now c.args.m.now c.as_slice-entry-items.result.now c.loop-entry.entry-index c.entry-item.result c.requires c.as_slice-entry-items.ensures c.loop-entry-test.true c.entry-item.is (whole c.args.model.now).rhs (to_z w128 c.loop-entry.total-bits) c.grown-total.result c.loop-entry.invariant.value is);
      size = simp to_z-of_z (omega (arith, c.grown-total.ensures.size, c.loop-entry.invariant.size));
    }

pub returns-clause-size : goal.returns-clause-size
returns-clause-size c =
    let few : length (all_rows c.args.model.now) ≤ 2000000 = omega (arith, c.rows-rows.ensures.number, c.rows-rows.ensures.size) in
    let n : length c.args.m.now ≤ length (all_rows c.args.model.now) = few_multipliers c.args.model.now c.args.m.now c.requires in
    let le : c.loop-entry.entry-index ≤ length c.args.m.now = subst (λ (ys : Multipliers Row). c.loop-entry.entry-index ≤ length ys) c.as_slice-entry-items.ensures c.loop-entry.auto.entry-index-end in
    omega (arith, c.loop-entry.invariant.size)

pub returns-clause-value : goal.returns-clause-value
returns-clause-value c = c.loop-entry.invariant.value ∙ ap (λ (ys : Multipliers Row). dot ys (whole c.args.model.now).rhs) (all_read c.args.m.now c.as_slice-entry-items.result.now c.loop-entry.entry-index c.as_slice-entry-items.ensures c.loop-entry-test.false)
