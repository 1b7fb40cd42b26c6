use Rattle.std.proofs.Common.{subst, sym, rules}
use Rattle.crane_lists.specs.declared.pairs.Reach.{Reach}
use Rattle.crane_lists.specs.Reaches.{AreApart, reach_of}
use Rattle.crane_lists.proofs.Reaching.{independent_from, independent_apart}
use Rattle.crane_lists.proofs.pairs.are_independent.Goals as goal

pub returns : goal.returns
returns c = (
  λ h. independent_from c.args.ship.now c.args.t.now c.args.u.now c.obeys_rules.ensures (subst (λ (r : Reach). AreApart c.args.ship.now r (reach_of c.args.ship.now c.args.u.now.step)) c.reach_of.ensures (subst (AreApart c.args.ship.now c.reach_of.result) c.reach_of-2.ensures (c.are_apart.ensures.0 h))) (search rules),
  λ i. c.are_apart.ensures.1 (subst (λ (r : Reach). AreApart c.args.ship.now r c.reach_of-2.result) (sym c.reach_of.ensures) (subst (AreApart c.args.ship.now (reach_of c.args.ship.now c.args.t.now.step)) (sym c.reach_of-2.ensures) (independent_apart c.args.ship.now c.args.t.now c.args.u.now i))),
)
