use Rattle.std.proofs.Common.{arith}
use Rattle.zero_one_rows.specs.Counted.{pairs_at}
use Rattle.zero_one_rows.proofs.Counting.{flat_one_count}
use Rattle.zero_one_rows.proofs.counts.count_pairs.Goals as goal

pub loop-i-preserved : goal.loop-i-preserved
loop-i-preserved g c =
    let more = flat_one_count (pairs_at g.m) c.loop-i.i in
    record { number = omega (arith, c.loop-i.invariant.number, c.count_running-count.ensures.number, more); low = omega (arith, c.loop-i.invariant.low, c.count_running-count.ensures.size) }
