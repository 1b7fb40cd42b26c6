use Rattle.std.proofs.Common.{arith}
use Rattle.zero_one_rows.specs.Levels.{pairs_with}
use Rattle.zero_one_rows.proofs.Counting.{flat_count}
use Rattle.zero_one_rows.proofs.levels.count_pairs_at.Goals as goal

pub loop-p-preserved : goal.loop-p-preserved
loop-p-preserved g c =
    let more = flat_count (pairs_with g.m c.args.level) c.loop-p.p in
    record { number = omega (arith, c.loop-p.invariant.number, c.count_with-count.ensures.number, more); low = omega (arith, c.loop-p.invariant.low, c.count_with-count.ensures.size) }
