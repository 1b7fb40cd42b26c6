use Rattle.std.proofs.Common.{◌≡◌, ◌≤◌, ◌+◌, ◌-◌, length}
use Rattle.zero_one_rows.specs.Counted.{all_chains}
use Rattle.zero_one_rows.proofs.counts.count_chains.Given as goal

abbrev pub invariant-loop-place : goal.invariant-loop-place
invariant-loop-place l = record { number : l.count + length l.chains ≡ length (all_chains l.calls); low : l.count ≤ l._place; rest : length l.chains ≤ 8192 - l._place }
