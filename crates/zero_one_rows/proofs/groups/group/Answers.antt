use Rattle.std.proofs.Common.{◌∙◌, arith, refl}
use Rattle.zero_one_rows.proofs.Grouped.{filed}
use Rattle.zero_one_rows.proofs.groups.group.Goals as goal

pub loop-index-preserved : goal.loop-index-preserved
loop-index-preserved c = record {
  each = c.in_ok-file.ensures.each ∙ c.loop-index.invariant.each;
  of = λ k l. filed c.args.keys.now c.loop-index.index _ k c.loop-index.lists.items c.file.new.lists.items refl (c.loop-index.invariant.of k l) (c.in_ok-file.ensures.of k (omega (arith, l, c.loop-index.invariant.each)));
}
