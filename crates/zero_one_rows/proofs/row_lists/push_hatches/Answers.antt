use Rattle.std.proofs.Common.{ℕ}
use Rattle.zero_one_rows.specs.Counted.{is_hatch}
use Rattle.zero_one_rows.proofs.Paired.{mapped_more}
use Rattle.zero_one_rows.proofs.row_lists.push_hatches.Goals as goal

pub loop-d-preserved : goal.loop-d-preserved
loop-d-preserved g c = mapped_more (λ (d : ℕ). record { half = c.args.half; lowest = d }) (is_hatch g.m c.args.half) c.loop-d.d c.is_under_hatch-wanted.result c.args.list.now c.loop-d.list c.push_item.new.list c.is_under_hatch-wanted.ensures c.in_ok-push_item.ensures c.loop-d.invariant
