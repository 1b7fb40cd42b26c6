use Rattle.std.proofs.Common.{◌≡◌, ℕ, ◌<◌, [], ◌∷◌, ◌++◌, List, cond, length, ◌∙◌, ap, arith}
use Rattle.std.specs.Prelude.{filter, nat_eq, slice_index_or}
use Rattle.std.specs.List.{list_any, range_with_len}
use Rattle.row_sums.specs.Transposed.{IsTransposed}
use Rattle.std.proofs.lemmas.Result.{IfOk-weaker}
use Rattle.row_sums.proofs.Once.{next}
use Rattle.row_sums.proofs.transposed.FlatLists+usize.transposed.Goals as goal

pub loop-index-preserved : goal.loop-index-preserved
loop-index-preserved c = record {
  each = c.in_ok-file_all.ensures.each ∙ c.loop-index.invariant.each;
  of = λ k l.
      let inside : k < length c.loop-index.turned.items = omega (arith, l, c.loop-index.invariant.each) in
      next (λ v. list_any (nat_eq k) (slice_index_or c.args.self.now v [])) c.loop-index.index (slice_index_or c.loop-index.turned.items k []) (slice_index_or c.file_all.new.lists.items k []) (c.loop-index.invariant.of k l)
      (λ a. c.in_ok-file_all.ensures.of k inside a ∙ ap (λ (xs : List ℕ). slice_index_or c.loop-index.turned.items k [] ++ cond (list_any (nat_eq k) xs) (c.loop-index.index ∷ []) []) c.at.ensures);
}

pub returns : goal.returns
returns c =
    let all : c.loop-index.index ≡ length c.args.self.now = omega (arith, c.loop-index.auto.index-end, c.loop-index-test.false, c.len-index-end.ensures) in
    IfOk-weaker c.joined.result (λ flat. flat ≡ c.as_slice.result.now) (λ flat. IsTransposed c.args.self.now c.args.count flat) (λ flat e. record {
      each = ap length (e ∙ c.as_slice.ensures.value) ∙ c.loop-index.invariant.each;
      of = λ k l. ap (λ (ls : List (List ℕ)). slice_index_or ls k []) (e ∙ c.as_slice.ensures.value) ∙ c.loop-index.invariant.of k l ∙ ap (λ (n : ℕ). filter (λ v. list_any (nat_eq k) (slice_index_or c.args.self.now v [])) (range_with_len 0 n)) all;
    }) c.joined.ensures
