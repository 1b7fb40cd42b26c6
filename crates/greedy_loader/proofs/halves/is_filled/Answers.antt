use Rattle.std.proofs.Common.{refl, false}
use Rattle.std.proofs.lemmas.Bool.{both_ways}
use Rattle.greedy_loader.proofs.halves.is_filled.Goals as goal

pub returns-in-None : goal.returns-in-None
returns-in-None c = (λ h. absurd (both_ways false refl h), λ x. absurd (c.in-None.ensures x.0 x.1))
