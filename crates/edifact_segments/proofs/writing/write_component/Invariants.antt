use Rattle.std.proofs.Common.{◌≡◌, ◌++◌, take}
use Rattle.edifact_segments.specs.Written.{released}
use Rattle.edifact_segments.proofs.writing.write_component.Given as goal

abbrev pub invariant-loop-byte : goal.invariant-loop-byte
invariant-loop-byte l = l.out ≡ l.fn.out ++ released (take l.byte-index l.text)
