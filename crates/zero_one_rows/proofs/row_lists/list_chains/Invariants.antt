use Rattle.std.proofs.Common.{◌≡◌, ◌≤◌, ◌-◌, ◌++◌, length}
use Rattle.zero_one_rows.specs.Counted.{all_chains}
use Rattle.zero_one_rows.proofs.row_lists.list_chains.Given as goal

abbrev pub invariant-loop-place : goal.invariant-loop-place
invariant-loop-place l = record { all : l.list ++ l.chains ≡ all_chains l.calls; rest : length l.chains ≤ 8192 - l._place }
