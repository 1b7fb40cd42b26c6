use Rattle.std.proofs.Common.{length}
use Rattle.voyage_meaning.proofs.crane.+cost_of_voyage.Given as goal

abbrev pub decreases-cost_of_voyage : goal.decreases-cost_of_voyage
decreases-cost_of_voyage l = length l.departures.now
