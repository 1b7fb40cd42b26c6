use Rattle.std.proofs.Common.{take}
use Rattle.event_search.specs.Counting.{Tallies}
use Rattle.event_search.specs.Standing.{standing}
use Rattle.event_search.proofs.tally.Tally.stand_at.Given as goal

abbrev pub invariant-loop-step : goal.invariant-loop-step
invariant-loop-step l = Tallies l.model (standing l.model l.ended (take l.step-index l.way)).multipliers l.self
