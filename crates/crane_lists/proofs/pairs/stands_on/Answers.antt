use Rattle.std.proofs.Common.{refl, false, subst}
use Rattle.std.proofs.lemmas.Bool.{both_ways}
use Rattle.std.proofs.lemmas.Option.{same_Some}
use Rattle.stow_data.specs.Ship.{StandsOn}
use Rattle.crane_lists.proofs.pairs.stands_on.Goals as goal

pub returns-in-Some : goal.returns-in-Some
returns-in-Some c = (λ h. subst (StandsOn c.args.ship.now c.args.s) (c.is_same.ensures.0 h) c.in-Some.ensures.is, λ x. c.is_same.ensures.1 (same_Some c.in-Some.under c.args.k (c.in-Some.ensures.back c.args.k x)))

pub returns-in-None : goal.returns-in-None
returns-in-None c = (λ h. absurd (both_ways false refl h), λ x. absurd (c.in-None.ensures.is c.args.k x))
