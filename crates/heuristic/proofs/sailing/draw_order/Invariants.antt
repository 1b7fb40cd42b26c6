use Rattle.std.proofs.Common.{◌≡◌, length}
use Rattle.heuristic.proofs.sailing.draw_order.Given as goal

abbrev pub invariant-loop-kind : goal.invariant-loop-kind
invariant-loop-kind l = length l.order.items ≡ length l.initial.order.items
