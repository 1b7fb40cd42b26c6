use Rattle.std.proofs.Common.{◌≡◌}
use Rattle.model_bridge.specs.Stays.{begin_table}
use Rattle.model_bridge.proofs.begins.begin_table.Given as goal

abbrev pub invariant-loop-call : goal.invariant-loop-call
invariant-loop-call l = l.table ≡ begin_table l.ship l.cargo l.plans l.lists l.call
