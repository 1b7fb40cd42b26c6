use Rattle.std.proofs.Common.{◌≡◌, ℕ, ◌+◌, ◌≤◌, length}
use Rattle.crossing_pricing.specs.Climbs.{worth_at, IsBest, best_at, AreSmall, room}
use Rattle.crossing_pricing.proofs.best_pairs.best_row.Given as goal

abbrev pub invariant-loop-count : goal.invariant-loop-count
invariant-loop-count l = record {
  len : length l.row ≡ 14;
  best : (d : ℕ) → l.last + 1 ≤ d + l.count → d ≤ 13 → IsBest (worth_at l.sides l.gaps l.from) l.last l.floor l.load d (best_at l.row d);
  small : AreSmall (room l.load) l.row;
}
