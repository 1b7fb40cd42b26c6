use Rattle.std.proofs.Common.{ℕ}
use Rattle.zero_one_rows.specs.Levels.{near_at}
use Rattle.zero_one_rows.proofs.Paired.{mapped_more}
use Rattle.zero_one_rows.proofs.levels.push_with.Goals as goal

pub loop-q-preserved : goal.loop-q-preserved
loop-q-preserved g c = mapped_more (λ (q : ℕ). record { first = c.args.first; second = q }) (near_at g.m c.args.level c.args.first) c.loop-q.q c.are_near-wanted.result c.args.list.now c.loop-q.list c.push_item.new.list c.are_near-wanted.ensures c.in_ok-push_item.ensures c.loop-q.invariant
