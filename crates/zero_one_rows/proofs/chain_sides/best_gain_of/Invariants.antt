use Rattle.std.proofs.Common.{◌≡◌, ◌≤◌}
use Rattle.zero_one_rows.specs.Gains.{best_gain}
use Rattle.zero_one_rows.proofs.chain_sides.best_gain_of.Given as goal

abbrev pub invariant-loop-count : goal.invariant-loop-count
invariant-loop-count l = record {
  value : l.best ≡ best_gain l.count l.height l.price l.load;
  low : l.best ≤ l.load;
}
