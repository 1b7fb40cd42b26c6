use Rattle.std.proofs.Common.{sym, subst, ◌∙◌, ◌≡◌, List, ℕ, rules}
use Rattle.std.specs.Prelude.{slice_index_or}
use Rattle.std.specs.List.Sorted.{IsNonDecreasingBy}
use Rattle.std.proofs.lemmas.Fn.{always_returns_same}
use Rattle.std.proofs.lemmas.List.Sorted.{IsNonDecreasingBy-from_sort}
use Rattle.std.proofs.lemmas.Result.{IfOk-weaker}
use Rattle.model_bridge.proofs.pairs.boxes_by_kind.Goals as goal

pub returns-clause-order : goal.returns-clause-order
returns-clause-order c =
    let up : IsNonDecreasingBy (λ (b : ℕ). slice_index_or c.args.kinds.now b 0) c.sort_by_key.new.self.items = IsNonDecreasingBy-from_sort (λ (b : ℕ). slice_index_or c.args.kinds.now b 0) c.sort_by_key.new.self.items (c.in_ok-sort_by_key.ensures.sorted (λ (b : ℕ). slice_index_or c.args.kinds.now b 0) (always_returns_same _ _ _ (λ a r q k. search rules))) in
    IfOk-weaker c.of.result (λ (s : List ℕ). s ≡ c.as_slice-2.result.now) (λ (s : List ℕ). IsNonDecreasingBy (λ (b : ℕ). slice_index_or c.args.kinds.now b 0) s) (λ s e. subst (IsNonDecreasingBy (λ (b : ℕ). slice_index_or c.args.kinds.now b 0)) (sym (e ∙ c.as_slice-2.ensures.value)) up) c.of.ensures
