use Rattle.std.proofs.Common.{◌≡◌, ◌≤◌, take}
use Rattle.std.specs.List.{sum_by}
use Rattle.zero_one_rows.specs.Crossing.{columns_in}
use Rattle.zero_one_rows.proofs.crossing.columns.Given as goal

abbrev pub invariant-loop-s : goal.invariant-loop-s
invariant-loop-s l = record { value : l.count ≡ sum_by (λ st. columns_in l.long st.lengths) (take l.s l.ship.stacks); low : l.count ≤ 3000 }
