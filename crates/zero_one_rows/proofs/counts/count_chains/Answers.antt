use Rattle.std.proofs.Common.{◌∙◌, ap, arith, length, ◌-◌, ◌+◌, length-append}
use Rattle.std.specs.Option.{option_to_list}
use Rattle.zero_one_rows.proofs.EveryChain.{chains_same, chains_few}
use Rattle.zero_one_rows.proofs.Counting.{next_count, next_low}
use Rattle.zero_one_rows.proofs.counts.count_chains.Goals as goal

pub loop-place-init : goal.loop-place-init
loop-place-init c =
    let all = ap length (chains_same c.args.calls c.over-chains.result c.over-chains.ensures) in
    let few = chains_few c.args.calls c.requires in
    record { number = omega (arith, all); low = omega arith; rest = omega (arith, all, few) }

pub loop-place-preserved : goal.loop-place-preserved
loop-place-preserved c =
    let one = ap length (next_count c.next.result c.loop-place.chains c.next.new.self c.next.ensures).1 ∙ length-append (option_to_list c.next.result) c.next.new.self in
    let low = next_low c.next.result c.loop-place.chains c.next.new.self (8192 - (c.loop-place._place + 1)) c.next.ensures (omega (arith, c.loop-place.invariant.rest, c.loop-place-test.true)) in
    record {
      number = omega (arith, c.loop-place.invariant.number, c.one_of-count.ensures.value, one);
      low = omega (arith, c.loop-place.invariant.low, c.one_of-count.ensures.low);
      rest = low;
    }
