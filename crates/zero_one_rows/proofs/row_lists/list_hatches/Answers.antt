use Rattle.std.proofs.Common.{◌∙◌, ◌++◌, ap, sym, List}
use Rattle.zero_one_rows.specs.Counted.{hatches_of}
use Rattle.zero_one_rows.specs.declared.row_lists.HatchPair.{HatchPair}
use Rattle.zero_one_rows.proofs.Added.{flat_more}
use Rattle.zero_one_rows.proofs.row_lists.list_hatches.Goals as goal

pub loop-h-preserved : goal.loop-h-preserved
loop-h-preserved g c = c.in_ok-push_hatches.ensures ∙ ap (λ (xs : List HatchPair). xs ++ hatches_of g.m c.loop-h.h) c.loop-h.invariant ∙ sym (flat_more (hatches_of g.m) c.loop-h.h)
