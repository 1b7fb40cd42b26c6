use Rattle.std.specs.BTreeMap.{get}
use Rattle.ship_profile.specs.Positions.{position_order}
use Rattle.ship_profile.proofs.StackLookups.{appended}
use Rattle.ship_profile.proofs.stack_finder.enter.Goals as goal

pub returns : goal.returns
returns c = λ q.
    appended c.args.table.now c.insert.new.self (get position_order c.take_out-stacks.new.table q) c.args.position q c.take_out-stacks.result c.args.stack c.take_out-stacks.ensures.stacks (c.take_out-stacks.ensures.others q) (rw c.in_ok-push.ensures at (c.in_ok-insert.ensures.updates.0 q))
