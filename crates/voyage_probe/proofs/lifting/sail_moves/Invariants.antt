use Rattle.voyage_meaning.specs.Berths.{BelongsTo}
use Rattle.voyage_probe.proofs.lifting.sail_moves.Given as goal

abbrev pub invariant-loop-m : goal.invariant-loop-m
invariant-loop-m l =
    (goal.iterator-loop-m).can_next l.m-iterator × (goal.iterator-loop-m).is_finite l.m-iterator × BelongsTo l.ship l.cargo l.berth.state
