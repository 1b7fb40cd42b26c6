use Rattle.std.proofs.Common.{sym, subst, ◌∙◌, ◌≡◌, List, ℕ, rules}
use Rattle.std.proofs.lemmas.Fn.{always_returns_same}
use Rattle.std.proofs.lemmas.Result.{IfOk-weaker}
use Rattle.greedy_loader.specs.Turns.{IsInOrder, turn}
use Rattle.greedy_loader.proofs.quay.in_order.Goals as goal

pub returns-clause-order : goal.returns-clause-order
returns-clause-order c =
    let up : IsInOrder c.args.cargo.now c.sort_by_key.new.self.items = c.in_ok-sort_by_key.ensures.sorted (turn c.args.cargo.now) (always_returns_same _ _ _ (λ a r q k. search rules)) in
    IfOk-weaker c.of.result (λ (s : List ℕ). s ≡ c.as_slice.result.now) (λ (s : List ℕ). IsInOrder c.args.cargo.now s) (λ s e. subst (IsInOrder c.args.cargo.now) (sym (e ∙ c.as_slice.ensures.value)) up) c.of.ensures
