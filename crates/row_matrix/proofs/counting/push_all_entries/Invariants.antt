use Rattle.std.proofs.Common.{◌≡◌, ℕ, ◌<◌, [], length, map}
use Rattle.std.specs.Prelude.{slice_index_or}
use Rattle.row_sums.specs.declared.sums.Sum.{Sum}
use Rattle.row_sums.specs.Numbers.{number, IsThere}
use Rattle.row_sums.specs.Held.{variables_of}
use Rattle.row_matrix.specs.Counted.{entry_of}
use Rattle.row_matrix.proofs.counting.push_all_entries.Given as goal

abbrev pub invariant-loop-number : goal.invariant-loop-number
invariant-loop-number l = record {
  each : length l.lists ≡ l.number;
  of : (k : ℕ) → k < l.number → (s : Sum) → IsThere l.matrix.voyage s → number l.z s ≡ k → slice_index_or l.lists k [] ≡ map (entry_of l.matrix.voyage l.z k) (variables_of l.matrix.voyage s);
}
