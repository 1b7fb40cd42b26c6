use Rattle.std.proofs.Common.{◌≡◌, ◌∙◌, ap, arith, Bool, cond}
use Rattle.zero_one_rows.specs.Counted.{has_above}
use Rattle.zero_one_rows.proofs.Counting.{count_more}
use Rattle.zero_one_rows.proofs.counts.count_lowers.Goals as goal

pub loop-h-preserved : goal.loop-h-preserved
loop-h-preserved g c =
    let one : c.as_one-count.result ≡ cond (has_above g.m c.loop-h.h) 1 0 = c.as_one-count.ensures.value ∙ ap (λ (b : Bool). cond b 1 0) c.is_lower.ensures in
    let more = count_more (has_above g.m) c.loop-h.h in
    record { number = omega (arith, c.loop-h.invariant.number, one, more); low = omega (arith, c.loop-h.invariant.low, c.as_one-count.ensures.low) }
