use Rattle.zero_one_rows.specs.Counted.{has_below}
use Rattle.zero_one_rows.proofs.Paired.{wanted_more}
use Rattle.zero_one_rows.proofs.row_lists.list_uppers.Goals as goal

pub loop-h-preserved : goal.loop-h-preserved
loop-h-preserved g c = wanted_more (has_below g.m) c.loop-h.h c.is_upper.result c.loop-h.list c.push_item.new.list c.is_upper.ensures c.in_ok-push_item.ensures c.loop-h.invariant
