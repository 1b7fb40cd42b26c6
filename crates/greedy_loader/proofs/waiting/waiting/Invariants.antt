use Rattle.std.proofs.Common.{◌≡◌, ◌⊎◌, ℕ, true}
use Rattle.plan_lifts.specs.Spread.{has}
use Rattle.greedy_loader.specs.Calls.{LoadsAt}
use Rattle.greedy_loader.proofs.OnQuay.{ListedTo}
use Rattle.greedy_loader.proofs.waiting.waiting.Given as goal

abbrev pub invariant-loop-c : goal.invariant-loop-c
invariant-loop-c l = ListedTo (λ (k : ℕ). (has l.marked k ≡ true) ⊎ LoadsAt l.cargo l.call k) l.list l.c
