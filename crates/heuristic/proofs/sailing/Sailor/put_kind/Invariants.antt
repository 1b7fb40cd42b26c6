use Rattle.std.proofs.Common.{◌≡◌}
use Rattle.heuristic.proofs.sailing.Sailor.put_kind.Given as goal

abbrev pub invariant-containers : goal.invariant-containers
invariant-containers l = l.self ≡ l.initial.self
