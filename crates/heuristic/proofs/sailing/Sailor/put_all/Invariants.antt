use Rattle.std.proofs.Common.{◌≡◌}
use Rattle.heuristic.proofs.sailing.Sailor.put_all.Given as goal

abbrev pub invariant-rounds : goal.invariant-rounds
invariant-rounds l = l.self ≡ l.initial.self
