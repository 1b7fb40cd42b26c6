use Rattle.std.proofs.Common.{IfSome}
use Rattle.heuristic.specs.Offers.{IsOffer}
use Rattle.heuristic.proofs.placing.Scene.best.Given as goal

abbrev pub invariant-loop-stack : goal.invariant-loop-stack
invariant-loop-stack l = IfSome l.best (IsOffer l.self.facts.now)
