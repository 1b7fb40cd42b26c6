use Rattle.std.proofs.Common.{◌≡◌, All, length}
use Rattle.voyage_state.specs.Ranges.{IsPlanned}
use Rattle.heuristic.proofs.kept.Kept.new.Given as goal

abbrev pub invariant-loop-stack : goal.invariant-loop-stack
invariant-loop-stack l = (length l.stays.items ≡ l._stack) × All (λ list. All (IsPlanned l.sizes) list.items) l.stays.items
