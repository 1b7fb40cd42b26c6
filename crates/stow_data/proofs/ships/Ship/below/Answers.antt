use Rattle.std.proofs.Common.{◌≡◌, ◌-◌, ℕ, arith, ap, subst, length}
use Rattle.stow_data.specs.Ship.{IsAbove}
use Rattle.stow_data.proofs.InOrder.{half_stack_in, below_at, none_below}
use Rattle.stow_data.proofs.OneCover.{back_from, one_below}
use Rattle.stow_data.proofs.ships.Ship.below.Goals as goal

pub stack-stack-requires : goal.stack-stack-requires
stack-stack-requires c = half_stack_in c.args.self.now c.args.h c.half-half.result c.half-half.ensures

pub overflow_sub-result : goal.overflow_sub-result
overflow_sub-result c =
    let at = below_at c.args.self.now c.args.h c.half-half.result c.stack-stack.result.now c.half-half.ensures c.stack-stack.ensures (omega (arith, c.if-half-eq0.false)) in
    omega (arith, at.1, c.h.view_is, ap length c.sides_of.ensures)

pub returns-then-half-eq0-clause-is : goal.returns-then-half-eq0-clause-is
returns-then-half-eq0-clause-is c = none_below c.args.self.now c.args.h c.half-half.result c.half-half.ensures c.if-half-eq0.true

pub returns-then-half-eq0-clause-back : goal.returns-then-half-eq0-clause-back
returns-then-half-eq0-clause-back c = back_from (λ b. IsAbove c.args.self.now c.args.h b) _ (returns-then-half-eq0-clause-is c) (λ a b u v. one_below c.args.self.now c.args.h a b u v)

pub returns-clause-is : goal.returns-clause-is
returns-clause-is c =
    let at = below_at c.args.self.now c.args.h c.half-half.result c.stack-stack.result.now c.half-half.ensures c.stack-stack.ensures (omega (arith, c.if-half-eq0.false)) in
    let same : at.0 ≡ c.h.inside.0 - length c.sides_of.result.now = omega (arith, at.1, c.h.view_is, ap length c.sides_of.ensures) in
    subst (λ (n : ℕ). IsAbove c.args.self.now c.args.h n) same at.2

pub returns-clause-back : goal.returns-clause-back
returns-clause-back c = back_from (λ b. IsAbove c.args.self.now c.args.h b) _ (returns-clause-is c) (λ a b u v. one_below c.args.self.now c.args.h a b u v)
