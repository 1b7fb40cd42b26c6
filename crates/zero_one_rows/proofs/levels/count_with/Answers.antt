use Rattle.std.proofs.Common.{◌≡◌, ◌∙◌, ap, arith, Bool, cond}
use Rattle.zero_one_rows.specs.Levels.{near_at}
use Rattle.zero_one_rows.proofs.Counting.{count_more}
use Rattle.zero_one_rows.proofs.levels.count_with.Goals as goal

pub loop-q-preserved : goal.loop-q-preserved
loop-q-preserved g c =
    let one : c.as_one-count.result ≡ cond (near_at g.m c.args.level c.args.first c.loop-q.q) 1 0 = c.as_one-count.ensures.value ∙ ap (λ (b : Bool). cond b 1 0) c.are_near.ensures in
    let more = count_more (near_at g.m c.args.level c.args.first) c.loop-q.q in
    record { number = omega (arith, c.loop-q.invariant.number, one, more); low = omega (arith, c.loop-q.invariant.low, c.as_one-count.ensures.low) }
