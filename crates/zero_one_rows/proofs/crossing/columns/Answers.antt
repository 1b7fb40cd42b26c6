use Rattle.std.proofs.Common.{◌≡◌, ◌<◌, ◌∙◌, arith, ap, length, get_or}
use Rattle.std.proofs.lemmas.List.Sums.{sum_by_more, sum_by_more_le}
use Rattle.stow_data.specs.declared.geometry.Stack.{Stack}
use Rattle.stow_data.specs.Plans.{no_stack}
use Rattle.zero_one_rows.specs.Crossing.{columns_in}
use Rattle.zero_one_rows.proofs.FewColumns.{columns_few}
use Rattle.zero_one_rows.proofs.crossing.columns.Goals as goal

pub loop-s-preserved : goal.loop-s-preserved
loop-s-preserved c =
    let lt : c.loop-s.s < length c.args.ship.now.stacks = omega (arith, c.loop-s-test.true, c.stacks-s-end.ensures) in
    let here : c.columns_in-count.result ≡ columns_in c.args.long (get_or c.args.ship.now.stacks c.loop-s.s no_stack).lengths =
    c.columns_in-count.ensures.value ∙ ap (λ (s : Stack). columns_in c.args.long s.lengths) c.stack_at.ensures in
    let more = sum_by_more (λ (s : Stack). columns_in c.args.long s.lengths) c.args.ship.now.stacks c.loop-s.s no_stack lt in
    let all = sum_by_more_le (λ (s : Stack). columns_in c.args.long s.lengths) c.args.ship.now.stacks c.loop-s.s no_stack lt in
    record {
      value = omega (arith, c.loop-s.invariant.value, here, more);
      low = omega (arith, c.loop-s.invariant.value, here, all, columns_few c.args.ship.now c.args.long c.obeys_rules.ensures);
    }
