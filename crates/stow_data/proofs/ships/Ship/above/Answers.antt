use Rattle.std.proofs.Common.{◌≡◌, ◌+◌, ℕ, arith, ap, subst, length}
use Rattle.std.proofs.lemmas.Option.{slice_get_within}
use Rattle.stow_data.specs.Ship.{halves, sides, IsAbove}
use Rattle.stow_data.proofs.Listed.{halves_few}
use Rattle.stow_data.proofs.InOrder.{half_stack_in, half_low, above_at, none_above, one_above}
use Rattle.stow_data.proofs.OneCover.{back_from}
use Rattle.stow_data.proofs.ships.Ship.above.Goals as goal

pub stack-stack-requires : goal.stack-stack-requires
stack-stack-requires c = half_stack_in c.args.self.now c.args.h c.half-half.result c.half-half.ensures

pub overflow_add-half : goal.overflow_add-half
overflow_add-half c = omega (arith, half_low c.args.self.now c.args.h c.half-half.result c.stack-stack.result.now c.half-half.ensures c.stack-stack.ensures)

pub returns-then-half-tiers-clause-is : goal.returns-then-half-tiers-clause-is
returns-then-half-tiers-clause-is c = none_above c.args.self.now c.args.h c.half-half.result c.stack-stack.result.now c.half-half.ensures c.stack-stack.ensures (omega (arith, c.if-half-tiers.true))

pub overflow_add-result : goal.overflow_add-result
overflow_add-result c =
    let low = half_low c.args.self.now c.args.h c.half-half.result c.stack-stack.result.now c.half-half.ensures c.stack-stack.ensures in
    let at = above_at c.args.self.now c.args.h c.half-half.result c.stack-stack.result.now c.half-half.ensures c.stack-stack.ensures (omega (arith, low, c.if-half-tiers.false)) in
    let within = slice_get_within (halves c.args.self.now) (c.args.h + length (sides c.stack-stack.result.now.lengths)) at.upper at.is_upper in
    omega (arith, within, c.h.view_is, ap length c.sides_of.ensures, halves_few c.args.self.now, c.obeys_rules.ensures.few_places)

pub returns-then-half-tiers-clause-back : goal.returns-then-half-tiers-clause-back
returns-then-half-tiers-clause-back c = back_from (λ u. IsAbove c.args.self.now u c.args.h) _ (returns-then-half-tiers-clause-is c) (λ u v a b. one_above c.args.self.now u v c.args.h a b)

pub returns-clause-is : goal.returns-clause-is
returns-clause-is c =
    let low = half_low c.args.self.now c.args.h c.half-half.result c.stack-stack.result.now c.half-half.ensures c.stack-stack.ensures in
    let at = above_at c.args.self.now c.args.h c.half-half.result c.stack-stack.result.now c.half-half.ensures c.stack-stack.ensures (omega (arith, low, c.if-half-tiers.false)) in
    let same : c.args.h + length (sides c.stack-stack.result.now.lengths) ≡ c.h.inside.0 + length c.sides_of.result.now = omega (arith, c.h.view_is, ap length c.sides_of.ensures) in
    subst (λ (n : ℕ). IsAbove c.args.self.now n c.args.h) same at

pub returns-clause-back : goal.returns-clause-back
returns-clause-back c = back_from (λ u. IsAbove c.args.self.now u c.args.h) _ (returns-clause-is c) (λ u v a b. one_above c.args.self.now u v c.args.h a b)
