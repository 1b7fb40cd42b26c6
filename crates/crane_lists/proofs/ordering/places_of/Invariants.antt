use Rattle.crane_lists.specs.Sharing.{HasAll}
use Rattle.crane_lists.proofs.ordering.places_of.Given as goal

abbrev pub invariant-loop-place : goal.invariant-loop-place
invariant-loop-place l = HasAll l.place l.places.items
