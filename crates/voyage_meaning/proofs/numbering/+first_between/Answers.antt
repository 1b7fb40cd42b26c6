use Rattle.std.proofs.Common.{arith, ◌+◌, ◌-◌, ◌/◌}
use Rattle.std.proofs.lemmas.Bool.{both_ways}
use Rattle.voyage_meaning.proofs.HalvesRise.{sooner_up_to, none_from}
use Rattle.voyage_meaning.proofs.numbering.+first_between.Goals as goal

pub first_between-requires : goal.first_between-requires
first_between-requires t c = (
  omega (arith, c.decreases),
  (
    omega arith,
    (
      c.requires.inside,
      (sooner_up_to c.args.ship.now (c.args.low + (c.args.high - c.args.low) / 2) c.args.stack c.args.level_from c.half.result c.half.ensures (c.is_sooner.ensures.0 c.if-is_sooner.true), c.requires.behind),
    ),
  ),
)

pub first_between-requires-else-is_sooner : goal.first_between-requires-else-is_sooner
first_between-requires-else-is_sooner t c = (
  omega (arith, c.decreases),
  (
    omega arith,
    (
      omega (arith, c.requires.inside),
      (c.requires.before, none_from c.args.ship.now (c.args.low + (c.args.high - c.args.low) / 2) c.args.stack c.args.level_from c.half.result c.half.ensures (λ s. both_ways c.is_sooner.result c.if-is_sooner.false (c.is_sooner.ensures.1 s))),
    ),
  ),
)
