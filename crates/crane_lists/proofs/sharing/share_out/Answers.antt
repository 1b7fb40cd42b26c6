use Rattle.std.proofs.Common.{rules}
use Rattle.crane_lists.proofs.Finishing.{is_greedy, is_list}
use Rattle.crane_lists.proofs.Steps.{begun}
use Rattle.crane_lists.proofs.sharing.share_out.Goals as goal

pub loop-alloc-init : goal.loop-alloc-init
loop-alloc-init c = begun c.args.ship.now c.args.tasks.now c.args.cranes (record { rounds = c.new.result; done = c.in_ok-filled.field-0; clear_to = c.in_ok-filled-2.field-0 }) c.new.ensures c.in_ok-filled.ensures c.in_ok-filled-2.ensures

pub returns-clause-shared : goal.returns-clause-shared
returns-clause-shared c = is_list c.args.ship.now c.args.tasks.now c.args.cranes c.loop-alloc.board c.loop-alloc.invariant (search rules)

pub returns-clause-greedy : goal.returns-clause-greedy
returns-clause-greedy c = is_greedy c.args.ship.now c.args.tasks.now c.args.cranes c.loop-alloc.board c.loop-alloc.invariant
