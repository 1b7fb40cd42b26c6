use Rattle.std.proofs.Common.{◌≡◌, ◌≤◌, ◌+◌, ◌*◌, sum, take}
use Rattle.std.specs.List.{sum_by}
use Rattle.zero_one_rows.specs.Gains.{best_gain}
use Rattle.zero_one_rows.proofs.chain_sides.chain_rhs.Given as goal

abbrev pub invariant-loop-load : goal.invariant-loop-load
invariant-loop-load l = record {
  total : l.total ≡ sum (take l.load-index l.loads);
  total_low : l.total ≤ 4294967296 * l.load-index;
  kept : l.kept ≡ l.price * l.columns + sum_by (best_gain l.columns l.height l.price) (take l.load-index l.loads);
  kept_low : l.kept ≤ 36000000 + 4294967296 * l.load-index;
}
