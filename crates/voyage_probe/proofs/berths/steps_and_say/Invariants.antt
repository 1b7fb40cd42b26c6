use Rattle.voyage_meaning.specs.Berths.{BelongsTo}
use Rattle.voyage_probe.proofs.berths.steps_and_say.Given as goal

abbrev pub invariant-loop-word : goal.invariant-loop-word
invariant-loop-word l =
    (goal.iterator-loop-word).can_next l.word-iterator × (goal.iterator-loop-word).is_finite l.word-iterator × BelongsTo l.ship l.cargo l.berth.state
