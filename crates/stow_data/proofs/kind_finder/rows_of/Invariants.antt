use Rattle.std.proofs.Common.{◌≡◌, ◌<◌, ℕ, [], length}
use Rattle.std.specs.Prelude.{slice_index, slice_index_or, All}
use Rattle.stow_data.specs.Kinds.{loads_in}
use Rattle.stow_data.proofs.kind_finder.rows_of.Given as goal

abbrev pub invariant-loop-call : goal.invariant-loop-call
invariant-loop-call l = record { each_call : length l.rows ≡ l.call; each_kind : All (λ row. length row ≡ l.kinds) l.rows; counts : (i g : ℕ) → i < l.call → g < l.kinds → slice_index (slice_index_or l.rows i []) g ≡ loads_in i l.containers l.each g }
