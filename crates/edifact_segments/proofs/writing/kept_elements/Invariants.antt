use Rattle.std.proofs.Common.{◌≡◌, length, take}
use Rattle.edifact_segments.specs.Canonical.{canonical}
use Rattle.edifact_segments.proofs.writing.kept_elements.Given as goal

abbrev pub invariant-loop-element : goal.invariant-loop-element
invariant-loop-element l = l.kept ≡ length (canonical (take l.element l.elements))
