use Rattle.std.proofs.Common.{arith}
use Rattle.zero_one_rows.specs.Counted.{hatches_of}
use Rattle.zero_one_rows.proofs.Counting.{flat_count}
use Rattle.zero_one_rows.proofs.counts.count_hatches.Goals as goal

pub loop-h-preserved : goal.loop-h-preserved
loop-h-preserved g c =
    let more = flat_count (hatches_of g.m) c.loop-h.h in
    record { number = omega (arith, c.loop-h.invariant.number, c.count_lowest-count.ensures.number, more); low = omega (arith, c.loop-h.invariant.low, c.count_lowest-count.ensures.size) }
