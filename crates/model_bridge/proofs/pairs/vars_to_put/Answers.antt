use Rattle.std.proofs.Common.{ℕ, List, IfOk, subst}
use Rattle.std.specs.List.Sorted.{IsPermutation}
use Rattle.model_bridge.proofs.pairs.vars_to_put.Goals as goal

pub returns-clause-same : goal.returns-clause-same
returns-clause-same c = subst (λ (xs : List ℕ). IfOk c.vars_by_kind-sorted.result (λ s. IsPermutation xs s)) c.in_ok-put.ensures c.vars_by_kind-sorted.ensures.same
