use Rattle.std.proofs.Common.{◌≡◌, ◌+◌, ◌<◌, ◌%◌, ℕ, length}
use Rattle.certificate.specs.declared.nodes.Node.{Node}
use Rattle.shared_search.specs.Racks.{IsPassAt, puts_of, took_weight}
use Rattle.steal_pool.specs.Rising.{Rose, NoneFell}
use Rattle.steal_pool.proofs.taking.steal_any.Given as goal

abbrev pub invariant-loop-step : goal.invariant-loop-step
invariant-loop-step g l = record {
  pass : IsPassAt l.rack l.pass;
  number : l.pass.number ≡ l.fn.pass.number;
  put : puts_of l.pass ≡ puts_of l.fn.pass;
  fell : NoneFell l.fn.pass l.pass;
  rose : (j : ℕ) → 0 < j → j < l.step → Rose ((l.fn.pass.number + j) % length l.rack.thieves.items) l.fn.pass l.pass;
  took : (h : Node → ℕ) → took_weight h l.pass ≡ took_weight h l.fn.pass;
}
