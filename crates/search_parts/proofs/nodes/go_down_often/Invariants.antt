use Rattle.std.proofs.Common.{◌≡◌}
use Rattle.search_parts.proofs.nodes.go_down_often.Given as goal

abbrev pub invariant-loop : goal.invariant-loop
invariant-loop l = l.state ≡ l.fn.state
