use Rattle.std.proofs.Common.{ℕ, ◌<◌, ◌≤◌}
use Rattle.std.specs.Prelude.{slice_index_or}
use Rattle.stow_data.specs.Plans.{no_stack}
use Rattle.row_sums.proofs.numbering.most_tiers.Given as goal

abbrev pub invariant-loop-s : goal.invariant-loop-s
invariant-loop-s l = (k : ℕ) → k < l.s → (slice_index_or l.ship.stacks k no_stack).tiers ≤ l.most
