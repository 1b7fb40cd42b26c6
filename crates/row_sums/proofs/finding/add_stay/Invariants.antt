use Rattle.std.proofs.Common.{ℕ, ◌<◌, ◌≤◌}
use Rattle.row_sums.specs.Noted.{Grows, HasCall}
use Rattle.row_sums.proofs.finding.add_stay.Given as goal

abbrev pub invariant-loop-call : goal.invariant-loop-call
invariant-loop-call l = record {
  grows : Grows l.sums l.z l.x l.initial.list l.list;
  has : (i : ℕ) → l.x.put ≤ i → i < l.call → HasCall l.sums l.z l.x i l.list;
}
