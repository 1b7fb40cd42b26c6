use Rattle.std.proofs.Common.{refl}
use Rattle.greedy_loader.proofs.Parts.{uncovered_by}
use Rattle.greedy_loader.proofs.opening.is_uncovered.Goals as goal

pub returns-in-None : goal.returns-in-None
returns-in-None c = (λ h k u. absurd (c.in-None.ensures.is k u), λ x. refl)

pub returns-in-Some : goal.returns-in-Some
returns-in-Some c = uncovered_by c.args.ship.now c.args.layout.now.plan c.args.layout.now.laden c.args.s c.in-Some.k c.k.inside.0 c.at.result.now c.requires.laden c.k.view_is c.at.ensures c.in-Some.ensures.is c.in-Some.ensures.back
