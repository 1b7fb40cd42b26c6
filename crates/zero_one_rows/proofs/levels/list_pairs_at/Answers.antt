use Rattle.std.proofs.Common.{◌∙◌, ◌++◌, ap, sym, List}
use Rattle.zero_one_rows.specs.Levels.{pairs_with}
use Rattle.zero_one_rows.specs.declared.levels.PlacePair.{PlacePair}
use Rattle.zero_one_rows.proofs.Added.{flat_more}
use Rattle.zero_one_rows.proofs.levels.list_pairs_at.Goals as goal

pub loop-p-preserved : goal.loop-p-preserved
loop-p-preserved g c = c.in_ok-push_with.ensures ∙ ap (λ (xs : List PlacePair). xs ++ pairs_with g.m c.args.level c.loop-p.p) c.loop-p.invariant ∙ sym (flat_more (pairs_with g.m c.args.level) c.loop-p.p)
