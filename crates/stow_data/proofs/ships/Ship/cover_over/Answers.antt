use Rattle.std.proofs.Common.{arith, ap, subst, length}
use Rattle.stow_data.specs.Ship.{Ship, LiesUnder}
use Rattle.stow_data.specs.Profile.{IsShip}
use Rattle.stow_data.proofs.CoverLemmas.{over_said, under_in}
use Rattle.stow_data.proofs.OneCover.{back_from, one_over}
use Rattle.stow_data.proofs.ships.Ship.cover_over.Goals as goal

pub returns-then-stack-len-clause-is : goal.returns-then-stack-len-clause-is
returns-then-stack-len-clause-is c = λ k h.
    let low = under_in c.args.self.now c.args.s k (subst IsShip c.self.view_is c.self.invariant.rules) h in
    omega (arith, low, c.if-stack-len.true, c.len.ensures, c.self.invariant.over_each, c.s.view_is, ap (λ (z : Ship). length z.stacks) c.self.view_is)

pub returns-then-stack-len-clause-back : goal.returns-then-stack-len-clause-back
returns-then-stack-len-clause-back c = back_from (LiesUnder c.args.self.now c.args.s) _ (returns-then-stack-len-clause-is c) (λ k l a b. one_over c.args.self.now c.args.s k l (subst IsShip c.self.view_is c.self.invariant.rules) a b)

pub returns-clause-is : goal.returns-clause-is
returns-clause-is c = over_said c.args.self.now c.self.inside.covers c.args.s c.s.inside.0 c.at.result.now (ap (λ (z : Ship). z.covers) c.self.view_is) c.s.view_is (c.self.invariant.over_table.leads c.s.inside.0 c.at.result.now c.at.ensures)

pub returns-clause-back : goal.returns-clause-back
returns-clause-back c = back_from (LiesUnder c.args.self.now c.args.s) _ (returns-clause-is c) (λ k l a b. one_over c.args.self.now c.args.s k l (subst IsShip c.self.view_is c.self.invariant.rules) a b)
