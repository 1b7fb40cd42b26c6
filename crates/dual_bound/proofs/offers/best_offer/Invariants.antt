use Rattle.std.proofs.Common.{ℕ, ◌+◌, ◌*◌, ◌<◌, ◌≤◌, List, [], length, get_or, pos, ◌-ℤ◌, ◌≤ℤ◌}
use Rattle.crossing_pricing.specs.Climbs.{over_pairs, Climb, worth_at}
use Rattle.dual_bound.proofs.offers.best_offer.Given as goal

abbrev pub invariant-loop-index : goal.invariant-loop-index
invariant-loop-index l = (q floor : ℕ) (qs : List (ℕ × ℕ)) → q < l.index → floor ≤ l.last → Climb l.last floor 0 floor qs → 2 ≤ length qs
    → (over_pairs (worth_at (get_or l.sides.prices q []) l.gaps l.from) qs -ℤ pos ((q + 1) * l.sides.columns)) ≤ℤ l.best.gain
