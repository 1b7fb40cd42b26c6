use Rattle.std.proofs.Common.{sym, subst, ◌∙◌, ◌≡◌, List, ℕ, rules}
use Rattle.std.specs.List.Sorted.{IsNonDecreasingBy}
use Rattle.std.proofs.lemmas.Fn.{always_returns_same}
use Rattle.std.proofs.lemmas.List.Sorted.{IsNonDecreasingBy-from_sort}
use Rattle.std.proofs.lemmas.Result.{IfOk-weaker}
use Rattle.model_bridge.specs.Pairs.{kind_of_var}
use Rattle.model_bridge.proofs.pairs.vars_by_kind.Goals as goal

pub returns-clause-order : goal.returns-clause-order
returns-clause-order c =
    let up : IsNonDecreasingBy (λ (v : ℕ). kind_of_var c.args.model.now v) c.sort_by_key.new.self.items = IsNonDecreasingBy-from_sort (λ (v : ℕ). kind_of_var c.args.model.now v) c.sort_by_key.new.self.items (c.in_ok-sort_by_key.ensures.sorted (λ (v : ℕ). kind_of_var c.args.model.now v) (always_returns_same _ _ _ (λ a r q k. search rules))) in
    IfOk-weaker c.of.result (λ (s : List ℕ). s ≡ c.as_slice-2.result.now) (λ (s : List ℕ). IsNonDecreasingBy (λ (v : ℕ). kind_of_var c.args.model.now v) s) (λ s e. subst (IsNonDecreasingBy (λ (v : ℕ). kind_of_var c.args.model.now v)) (sym (e ∙ c.as_slice-2.ensures.value)) up) c.of.ensures
