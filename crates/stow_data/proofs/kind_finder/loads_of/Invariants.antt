use Rattle.std.proofs.Common.{◌≡◌, ◌<◌, ℕ, take, length}
use Rattle.std.specs.Prelude.{slice_index}
use Rattle.stow_data.specs.Kinds.{loads_in}
use Rattle.stow_data.proofs.kind_finder.loads_of.Given as goal

abbrev pub invariant-loop-index : goal.invariant-loop-index
invariant-loop-index l = record { each_kind : length l.row ≡ l.kinds; counts : (g : ℕ) → g < l.kinds → slice_index l.row g ≡ loads_in l.call (take l.index l.containers) (take l.index l.each) g }
