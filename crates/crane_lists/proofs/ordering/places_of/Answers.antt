use Rattle.crane_lists.proofs.Steps.{all_more}
use Rattle.crane_lists.proofs.ordering.places_of.Goals as goal

pub loop-place-preserved : goal.loop-place-preserved
loop-place-preserved c = all_more c.loop-place.place c.loop-place.places.items c.push.new.self.items c.loop-place.invariant c.in_ok-push.ensures.items
