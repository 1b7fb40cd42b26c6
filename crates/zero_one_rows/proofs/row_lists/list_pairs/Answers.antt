use Rattle.zero_one_rows.specs.Counted.{pairs_at}
use Rattle.zero_one_rows.proofs.Paired.{flat_from_one}
use Rattle.zero_one_rows.proofs.row_lists.list_pairs.Goals as goal

pub loop-i-preserved : goal.loop-i-preserved
loop-i-preserved g c = flat_from_one (pairs_at g.m) c.loop-i.i c.loop-i.pairs c.push_pairs.new.pairs c.loop-i.invariant c.in_ok-push_pairs.ensures
