use Rattle.std.proofs.Common.{ℕ, ◌<◌}
use Rattle.crane_lists.specs.Sharing.{IsSettled}
use Rattle.crane_lists.proofs.rounds.first_holding.Given as goal

abbrev pub invariant-loop-i : goal.invariant-loop-i
invariant-loop-i l = (i : ℕ) → i < l.i → IsSettled l.ship l.tasks l.done i l.j
