use Rattle.std.proofs.Common.{◌≡◌, ◌-◌, length}
use Rattle.crossing_pricing.specs.Climbs.{worth_at, AreBest, AreSmall, room}
use Rattle.crossing_pricing.proofs.best_pairs.best_from.Given as goal

abbrev pub invariant-loop-count : goal.invariant-loop-count
invariant-loop-count l = record {
  len : length l.row ≡ 14;
  best : AreBest (worth_at l.sides l.gaps l.from) l.last l.floor (l.floor - l.count) l.floor l.row;
  small : AreSmall (room (l.floor - l.count)) l.row;
}
