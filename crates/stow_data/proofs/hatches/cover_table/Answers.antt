use Rattle.std.proofs.Common.{◌≡◌, ◌+◌, ◌++◌, [], ◌∷◌, ℕ, List, arith, take, ap, sym, subst, ◌∙◌}
use Rattle.std.specs.Prelude.{Contains}
use Rattle.std.proofs.lemmas.List.{take_more, length-take}
use Rattle.stow_data.specs.declared.geometry.Cover.{Cover}
use Rattle.stow_data.specs.CoverTable.{listed, IsCoverTable}
use Rattle.stow_data.proofs.CoverLemmas.{table_more}
use Rattle.stow_data.proofs.hatches.cover_table.Goals as goal

pub loop-cover-preserved : goal.loop-cover-preserved
loop-cover-preserved c =
    let counted : c.in_ok-number.number ≡ c.loop-cover.number + 1 = grind (arith, c.in_ok-number.ensures) in
    let named : c.deref.result.now ≡ listed c.args.naming c.cover-item.result = c.deref.ensures ∙ c.stacks_of.ensures in
    let more : take (c.loop-cover.cover-index + 1) c.args.covers.now ≡ take c.loop-cover.cover-index c.args.covers.now ++ c.cover-item.result ∷ [] =
    take_more c.args.covers.now c.loop-cover.cover-index c.cover-item.result c.loop-cover-test.true ∙ ap (λ (z : Cover). take c.loop-cover.cover-index c.args.covers.now ++ z ∷ []) (sym c.cover-item.is) in
    record {
      each = c.enter.ensures.same_length ∙ c.loop-cover.invariant.each;
      counted = counted ∙ ap (λ n. n + 1) c.loop-cover.invariant.counted;
      leads = subst (λ (cs : List Cover). IsCoverTable cs c.args.naming c.enter.new.table) (sym more)
          (table_more (take c.loop-cover.cover-index c.args.covers.now) c.cover-item.result c.args.naming c.loop-cover.table c.enter.new.table c.loop-cover.number
          (omega (arith, length-take c.loop-cover.cover-index c.args.covers.now, c.loop-cover.invariant.counted, c.loop-cover-test.true)) c.loop-cover.invariant.leads
          (λ s m. c.enter.ensures.these s (subst (λ (xs : List ℕ). Contains xs s) (sym named) m))
          (λ s out. c.enter.ensures.others s (λ m. out (subst (λ (xs : List ℕ). Contains xs s) named m))));
    }
