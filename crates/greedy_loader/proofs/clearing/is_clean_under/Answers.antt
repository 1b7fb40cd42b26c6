use Rattle.std.proofs.Common.{refl}
use Rattle.greedy_loader.proofs.Lower.{clean_under}
use Rattle.greedy_loader.proofs.clearing.is_clean_under.Goals as goal

pub returns-in-None : goal.returns-in-None
returns-in-None c = (λ h k u. absurd (c.in-None.ensures.is k u), λ x. refl)

pub returns-in-Some : goal.returns-in-Some
returns-in-Some c = clean_under c.args.ship.now c.args.cargo.now c.args.layout.now.plan c.args.layout.now.earliest c.args.s c.in-Some.k c.k.inside.0 c.at.result.now c.args.call c.is_not_past.result c.requires.kept.earliest c.requires.call c.k.view_is c.at.ensures c.in-Some.ensures.is c.in-Some.ensures.back c.is_not_past.ensures
