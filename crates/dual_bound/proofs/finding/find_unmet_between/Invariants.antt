use Rattle.std.proofs.Common.{◌≡◌, ◌≤◌, ◌<◌, ℕ, Some}
use Rattle.std.specs.Prelude.{slice_get}
use Rattle.zero_one_rows.specs.declared.program.Row.{Row}
use Rattle.zero_one_rows.specs.Counted.{all_rows}
use Rattle.dual_bound.specs.Rising.{IsFlat}
use Rattle.dual_bound.proofs.finding.find_unmet_between.Given as goal

abbrev pub invariant-loop-number : goal.invariant-loop-number
invariant-loop-number l = (k : ℕ) (r : Row) → l.from ≤ k → k < l.number → slice_get (all_rows l.model) k ≡ Some r → IsFlat l.model l.b l.m r
