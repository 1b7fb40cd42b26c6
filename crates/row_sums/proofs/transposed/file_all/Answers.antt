use Rattle.std.proofs.Common.{◌<◌, Bool, [], ◌∷◌, ◌++◌, cond, length, take, ◌∙◌, ap, sym, arith}
use Rattle.std.specs.Prelude.{nat_eq, slice_index_or}
use Rattle.std.specs.List.{list_any}
use Rattle.std.proofs.lemmas.List.Folds.{list_any_more}
use Rattle.row_sums.proofs.transposed.file_all.Goals as goal

pub loop-key-preserved : goal.loop-key-preserved
loop-key-preserved c = record {
  each = c.in_ok-file.ensures.each ∙ c.loop-key.invariant.each;
  of = λ k l a.
      let inside : k < length c.loop-key.lists.items = omega (arith, l, c.loop-key.invariant.each) in
      c.in_ok-file.ensures.of k (slice_index_or c.args.lists.now.items k []) (list_any (nat_eq k) (take c.loop-key.key-index c.args.keys.now)) inside a (c.loop-key.invariant.of k l a)
      ∙ ap (λ (b : Bool). slice_index_or c.args.lists.now.items k [] ++ cond b (c.args.number ∷ []) []) (sym (list_any_more (nat_eq k) c.args.keys.now c.loop-key.key-index 0 c.loop-key-test.true));
}
