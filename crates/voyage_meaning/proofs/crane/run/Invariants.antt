use Rattle.std.proofs.Common.{◌≡◌}
use Rattle.voyage_meaning.proofs.RunsHold.{RunsTo}
use Rattle.voyage_meaning.proofs.crane.run.Given as goal

abbrev pub invariant-loop-i : goal.invariant-loop-i
invariant-loop-i l = record {
  runs : RunsTo l.ship l.cargo l.initial.berth.call l.initial.berth.state l.moves l.i l.berth.state l.cost;
  same_call : l.berth.call ≡ l.initial.berth.call;
}
