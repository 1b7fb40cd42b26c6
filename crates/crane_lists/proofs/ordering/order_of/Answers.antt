use Rattle.std.proofs.Common.{◌≡◌, ◌∙◌, List, length, subst, sym, ℕ}
use Rattle.std.proofs.lemmas.Result.{IfOk-weaker}
use Rattle.crane_lists.specs.Sharing.{HasAll}
use Rattle.crane_lists.proofs.Steps.{all_permuted}
use Rattle.crane_lists.proofs.ordering.order_of.Goals as goal

pub returns : goal.returns
returns c = IfOk-weaker c.of.result (λ (s : List ℕ). s ≡ c.as_slice.result.now) (λ (s : List ℕ). HasAll (length c.args.tasks.now) s)
    (λ s e. subst (HasAll (length c.args.tasks.now)) (sym (e ∙ c.as_slice.ensures.value)) (all_permuted (length c.args.tasks.now) c.in_ok-order.order.items c.sort_by_key.new.self.items c.sort_by_key.ensures.permutation c.in_ok-order.ensures)) c.of.ensures
