use Rattle.std.proofs.Common.{◌≡◌, ◌∙◌, ap, arith, Bool, cond}
use Rattle.zero_one_rows.specs.Counted.{runs}
use Rattle.zero_one_rows.proofs.Counting.{count_more}
use Rattle.zero_one_rows.proofs.counts.count_running.Goals as goal

pub loop-g-preserved : goal.loop-g-preserved
loop-g-preserved g c =
    let one : c.as_one-count.result ≡ cond (runs g.m c.args.call c.loop-g.g) 1 0 = c.as_one-count.ensures.value ∙ ap (λ (b : Bool). cond b 1 0) c.is_running.ensures in
    let more = count_more (runs g.m c.args.call) c.loop-g.g in
    record { number = omega (arith, c.loop-g.invariant.number, one, more); low = omega (arith, c.loop-g.invariant.low, c.as_one-count.ensures.low) }
