use Rattle.std.proofs.Common.{◌≡◌, ◌++◌, ◌∷◌, [], take, get_or}
use Rattle.edifact_segments.proofs.buffer.ElementBuffer.append_element.Given as goal

abbrev pub invariant-loop-k : goal.invariant-loop-k
invariant-loop-k l = l.self ≡ l.fn.self ++ take l.k (get_or l.other l.i []) ∷ []
