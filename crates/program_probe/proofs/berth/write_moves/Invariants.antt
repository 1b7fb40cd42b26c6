use Rattle.voyage_meaning.specs.Berths.{BelongsTo}
use Rattle.program_probe.proofs.berth.write_moves.Given as goal

abbrev pub invariant-loop-m : goal.invariant-loop-m
invariant-loop-m l = BelongsTo l.ship l.cargo l.berth.state
