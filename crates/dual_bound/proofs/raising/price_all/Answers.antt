use Rattle.std.proofs.Common.{take, subst}
use Rattle.zero_one_rows.specs.declared.program.Row.{Row}
use Rattle.proof_trees.specs.Multipliers.{Multipliers}
use Rattle.dual_bound.specs.Costs.{Priced}
use Rattle.dual_bound.proofs.Multiplied.{named_here, none_here, behind_here, all_read}
use Rattle.dual_bound.proofs.raising.price_all.Goals as goal

pub add_entry-requires-clause-row : goal.add_entry-requires-clause-row
add_entry-requires-clause-row c = (named_here c.args.model.now c.args.m.now c.as_slice-entry-items.result.now c.loop-entry.entry-index c.entry-item.result c.requires.multipliers c.as_slice-entry-items.ensures c.loop-entry-test.true c.entry-item.is).0

pub add_entry-requires-clause-amount : goal.add_entry-requires-clause-amount
add_entry-requires-clause-amount c = (named_here c.args.model.now c.args.m.now c.as_slice-entry-items.result.now c.loop-entry.entry-index c.entry-item.result c.requires.multipliers c.as_slice-entry-items.ensures c.loop-entry-test.true c.entry-item.is).1

pub loop-entry-preserved : goal.loop-entry-preserved
loop-entry-preserved c =
    let none = none_here c.args.model.now c.args.m.now c.as_slice-entry-items.result.now c.loop-entry.entry-index c.entry-item.result c.requires.multipliers c.as_slice-entry-items.ensures c.loop-entry-test.true c.entry-item.is in
    let all = behind_here c.args.model.now c.args.m.now c.as_slice-entry-items.result.now c.loop-entry.entry-index c.entry-item.result c.requires.multipliers c.as_slice-entry-items.ensures c.loop-entry-test.true c.entry-item.is in
    subst (λ (ns : Multipliers Row). Priced c.args.model.now c.args.b.now ns c.add_entry.new.costs) all (c.in_ok-add_entry.ensures (take c.loop-entry.entry-index c.args.m.now) c.loop-entry.invariant none)

pub returns : goal.returns
returns c = subst (λ (ys : Multipliers Row). Priced c.args.model.now c.args.b.now ys c.loop-entry.costs) (all_read c.args.m.now c.as_slice-entry-items.result.now c.loop-entry.entry-index c.as_slice-entry-items.ensures c.loop-entry-test.false) c.loop-entry.invariant
