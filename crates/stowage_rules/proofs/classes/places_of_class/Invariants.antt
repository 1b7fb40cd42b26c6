use Rattle.std.proofs.Common.{◌≤◌, length}
use Rattle.stowage_rules.specs.Places.{AreOfClass}
use Rattle.stowage_rules.proofs.classes.places_of_class.Given as goal

abbrev pub invariant-loop-p : goal.invariant-loop-p
invariant-loop-p l = record { gathered : AreOfClass l.cargo l.plan l.class l.p l.found.items; few : length l.found.items ≤ l.p }
