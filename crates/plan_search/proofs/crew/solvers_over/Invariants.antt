use Rattle.std.proofs.Common.{◌≡◌, ◌+◌, length}
use Rattle.search_core.specs.Bags.{Every}
use Rattle.plan_search.proofs.crew.solvers_over.Given as goal

abbrev pub invariant-loop : goal.invariant-loop
invariant-loop l = record {
  many : length l.solvers.items + 1 ≡ l.counter;
  each : Every (λ solver. solver ≡ l.tables) l.solvers.items;
}
