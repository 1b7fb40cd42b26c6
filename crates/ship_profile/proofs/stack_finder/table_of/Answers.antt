use Rattle.std.proofs.Common.{arith}
use Rattle.ship_profile.proofs.StackLookups.{leads_on, leads_to_all}
use Rattle.ship_profile.proofs.stack_finder.table_of.Goals as goal

pub loop-number-preserved : goal.loop-number-preserved
loop-number-preserved c =
    leads_on c.loop-number.table c.enter.new.table c.args.stacks.now c.loop-number.number c.index-stacks-number.result c.loop-number-test.true c.index-stacks-number.is
    (λ q. rw c.position_in-position.ensures at (c.in_ok-enter.ensures q)) c.loop-number.invariant

pub returns : goal.returns
returns c = leads_to_all c.loop-number.table c.args.stacks.now c.loop-number.number (omega arith) c.loop-number.invariant
