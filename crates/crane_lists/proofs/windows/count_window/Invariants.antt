use Rattle.std.proofs.Common.{◌≡◌, ◌+◌, ◌≤◌, drop}
use Rattle.crane_lists.specs.Least.{window_count}
use Rattle.crane_lists.proofs.windows.count_window.Given as goal

abbrev pub invariant-loop-m : goal.invariant-loop-m
invariant-loop-m l = record { counts : l.count + window_count l.ship l.b (drop l.m-index l.moves) ≡ window_count l.ship l.b l.moves; small : l.count ≤ l.m-index }
