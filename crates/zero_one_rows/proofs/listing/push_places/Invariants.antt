use Rattle.std.proofs.Common.{◌≡◌, ◌++◌, take}
use Rattle.zero_one_rows.specs.Enumerated.{at_places}
use Rattle.zero_one_rows.proofs.listing.push_places.Given as goal

abbrev pub invariant-loop-s : goal.invariant-loop-s
invariant-loop-s l = l.vars ≡ l.initial.vars ++ at_places l.put l.kind l.lifted (take l.s-index l.places)
