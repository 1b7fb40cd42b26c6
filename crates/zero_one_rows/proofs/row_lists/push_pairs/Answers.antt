use Rattle.std.proofs.Common.{ℕ}
use Rattle.zero_one_rows.specs.Counted.{runs}
use Rattle.zero_one_rows.proofs.Paired.{mapped_more}
use Rattle.zero_one_rows.proofs.row_lists.push_pairs.Goals as goal

pub loop-g-preserved : goal.loop-g-preserved
loop-g-preserved g c = mapped_more (λ (k : ℕ). record { call = c.args.call; kind = k }) (runs g.m c.args.call) c.loop-g.g c.is_running-wanted.result c.args.pairs.now c.loop-g.pairs c.push_item.new.list c.is_running-wanted.ensures c.in_ok-push_item.ensures c.loop-g.invariant
