use Rattle.std.proofs.Common.{◌≡◌, ◌-◌, ◌≤◌, max, [], ◌++◌, length, replicate}
use Rattle.edifact_segments.specs.Pieces.{on_last}
use Rattle.edifact_segments.proofs.draft.pad_components.Given as goal

abbrev pub invariant-loop-index : goal.invariant-loop-index
invariant-loop-index l =
    (l.elements ≡ on_last (λ e. e ++ replicate (l._index - l.present) []) l.fn.elements) × (length l.elements ≡ length l.fn.elements) × (l._index ≤ max l.present l.count)
