use Rattle.std.proofs.Common.{◌≡◌, ◌∙◌, ap, arith, Bool, cond}
use Rattle.zero_one_rows.specs.Counted.{is_hatch}
use Rattle.zero_one_rows.proofs.Counting.{count_more, halves_few}
use Rattle.zero_one_rows.proofs.counts.count_lowest.Goals as goal

pub loop-d-preserved : goal.loop-d-preserved
loop-d-preserved g c =
    let one : c.as_one-count.result ≡ cond (is_hatch g.m c.args.half c.loop-d.d) 1 0 = c.as_one-count.ensures.value ∙ ap (λ (b : Bool). cond b 1 0) c.is_under_hatch.ensures in
    let more = count_more (is_hatch g.m c.args.half) c.loop-d.d in
    record { number = omega (arith, c.loop-d.invariant.number, one, more); low = omega (arith, c.loop-d.invariant.low, c.as_one-count.ensures.low) }

pub returns-clause-size : goal.returns-clause-size
returns-clause-size g c =
    let few = halves_few c.args.ship.now in
    omega (arith, c.loop-d.invariant.low, c.loop-d-test.false, c.loop-d.auto.d-end, c.halves-d-end.ensures, few, c.obeys_rules.ensures.few_places)
