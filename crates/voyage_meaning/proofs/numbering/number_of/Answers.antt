use Rattle.std.proofs.Common.{ℕ, subst}
use Rattle.voyage_meaning.specs.Numbering.{IsFirstFrom}
use Rattle.voyage_meaning.proofs.HalvesRise.{is_number}
use Rattle.voyage_meaning.proofs.numbering.number_of.Goals as goal

pub returns : goal.returns
returns c = is_number c.args.ship.now c.first_between.result c.requires.0 c.args.half.now (subst (λ (n : ℕ). IsFirstFrom c.args.ship.now c.args.half.now.stack n c.first_between.result) c.level.ensures c.first_between.ensures.first) c.requires.1
