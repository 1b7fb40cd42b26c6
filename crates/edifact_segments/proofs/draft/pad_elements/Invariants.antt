use Rattle.std.proofs.Common.{◌≡◌, ◌-◌, ◌≤◌, max, [], ◌++◌, length, replicate}
use Rattle.edifact_segments.proofs.draft.pad_elements.Given as goal

abbrev pub invariant-loop-index : goal.invariant-loop-index
invariant-loop-index l =
    (l.elements ≡ l.fn.elements ++ replicate (l._index - length l.fn.elements) []) × (l._index ≤ max (length l.fn.elements) l.count)
