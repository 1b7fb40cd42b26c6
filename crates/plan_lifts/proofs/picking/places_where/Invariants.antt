use Rattle.std.proofs.Common.{◌≡◌, ◌<◌, length, ℕ}
use Rattle.plan_lifts.specs.Spread.{has}
use Rattle.plan_lifts.proofs.picking.places_where.Given as goal

abbrev pub invariant-loop-p : goal.invariant-loop-p
invariant-loop-p g l = record {
  answers : (q : ℕ) → q < l.p → goal.F-post g l.test q (has l.set q);
  each_flag : length l.set ≡ l.p;
}
