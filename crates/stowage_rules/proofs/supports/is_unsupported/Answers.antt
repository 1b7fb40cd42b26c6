use Rattle.std.proofs.Common.{refl, false, arith}
use Rattle.std.proofs.lemmas.Bool.{both_ways}
use Rattle.stowage_rules.proofs.Standing.{unsupported_where}
use Rattle.stowage_rules.proofs.supports.is_unsupported.Goals as goal

pub returns-in-None : goal.returns-in-None
returns-in-None c = (λ h. absurd (both_ways false refl h), λ x. absurd (c.in-None.ensures x.container x.fills))

pub returns-in-Some : goal.returns-in-Some
returns-in-Some c = unsupported_where c.args.ship.now c.args.plan.now c.args.half.now c.half_below.result c.in-Some.field-0 c.is_filled.result (omega arith) c.half_below.ensures c.in-Some.ensures c.is_filled.ensures
