use Rattle.std.proofs.Common.{◌≡◌, ◌++◌, ◌≤◌, take, length}
use Rattle.edifact_segments.proofs.buffer.ElementBuffer.append.Given as goal

abbrev pub invariant-loop-i : goal.invariant-loop-i
invariant-loop-i l = (l.self ≡ l.fn.self ++ take l.i l.other) × (length l.fn.self ≤ length l.self)
