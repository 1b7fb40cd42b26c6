use Rattle.std.proofs.Common.{rules, arith, ◌≡◌, ◌≤◌, ◌^◌, List, length, ℤ, ◌+ℤ◌, ◌*ℤ◌, SFits, w64, sym, subst, ◌∙◌, ap}
use Rattle.std.specs.Int.{w128}
use Rattle.std.specs.Int.RustNames.{unsigned_abs}
use Rattle.std.proofs.lemmas.Int.{to_z-of_z}
use Rattle.zero_one_rows.specs.Rows.{whole}
use Rattle.zero_one_rows.specs.Counted.{all_rows}
use Rattle.crossing_pricing.specs.Gaps.{number_at}
use Rattle.event_search.proofs.Raising.{right_low, weight_low, written_over, adds_list}
use Rattle.event_search.proofs.tally.Tally.add.Goals as goal

pub grown-self-requires-clause-total : goal.grown-self-requires-clause-total
grown-self-requires-clause-total c =
    let few : length (all_rows c.args.model.now) ≤ 2000000 = omega (arith, c.rows-rows.ensures.number, c.rows-rows.ensures.size) in
    let t : SFits w128 c.args.self.now.right = search rules in
    simp to_z-of_z (right_low c.args.model.now c.requires.some.0 c.args.self.now few c.requires.some.1)

pub add_to_all-requires-clause-low : goal.add_to_all-requires-clause-low
add_to_all-requires-clause-low c =
    let few : length (all_rows c.args.model.now) ≤ 2000000 = omega (arith, c.rows-rows.ensures.number, c.rows-rows.ensures.size) in
    λ x lt. subst (λ (zs : List ℤ). unsigned_abs (number_at zs x) ≤ 2 ^ 98) (sym c.as_mut_slice.ensures.value) (weight_low c.args.model.now c.requires.some.0 c.args.self.now x few lt c.requires.some.1)

pub returns-clause-adds : goal.returns-clause-adds
returns-clause-adds c =
    let f : SFits w128 c.grown-self.result = search rules in
    let g : SFits w64 c.rhs.result = search rules in
    let t : SFits w128 c.args.self.now.right = search rules in
    let a : SFits w64 c.args.raise.now.amount = search rules in
    let len : c.args.self.now.weights.len ≡ length c.args.self.now.weights.items = search rules in
    let same : length c.add_to_all.new.weights ≡ length c.args.self.now.weights.items = omega (arith, c.add_to_all.ensures.len, c.requires.some.1.sized.vars) in
    adds_list c.args.model.now c.args.raise.now c.args.self.now _ c.add_to_all.new.weights (written_over c.args.self.now.weights.len c.args.self.now.weights.items c.add_to_all.new.weights len same) c.add_to_all.ensures.len
    (simp to_z-of_z ((simp to_z-of_z at c.grown-self.ensures) ∙ ap (λ (z : ℤ). c.args.self.now.right +ℤ c.args.raise.now.amount *ℤ z) c.rhs.ensures.value))
    (subst (λ (z : ℤ). unsigned_abs z ≤ 2 ^ 37) c.rhs.ensures.value c.rhs.ensures.size)
    (λ x lt. c.add_to_all.ensures.sums x lt ∙ ap (λ (zs : List ℤ). number_at zs x +ℤ c.args.raise.now.amount *ℤ (whole c.args.model.now).coef c.args.raise.now.row x) c.as_mut_slice.ensures.value)
    c.add_to_all.ensures.small
