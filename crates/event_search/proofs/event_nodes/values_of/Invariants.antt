use Rattle.std.proofs.Common.{◌≡◌, map, take}
use Rattle.event_search.specs.Nodes.{value_of}
use Rattle.event_search.proofs.event_nodes.values_of.Given as goal

abbrev pub invariant-loop-step : goal.invariant-loop-step
invariant-loop-step l = l.path ≡ map value_of (take l.step-index l.way)
