use Rattle.std.proofs.Common.{ℕ, List, subst}
use Rattle.std.specs.Prelude.{slice_index_or}
use Rattle.std.specs.List.Sorted.{IsNonDecreasingBy}
use Rattle.model_bridge.proofs.pairs.held_after.Goals as goal

pub held_with-next-requires-clause-order : goal.held_with-next-requires-clause-order
held_with-next-requires-clause-order c = subst (λ (ks : List ℕ). IsNonDecreasingBy (λ (k : ℕ). slice_index_or ks k 0) c.in_ok-boxes.boxes) c.requires.kinds c.in_ok-boxes.ensures.order
