use Rattle.work_lists.proofs.Works.{leads_at, least_at, within}
use Rattle.work_lists.proofs.sharing.work_list.Goals as goal

pub moves_at-requires-clause-to : goal.moves_at-requires-clause-to
moves_at-requires-clause-to c = within c.args.ship.now c.args.cargo.now c.in_ok-voyage.voyage c.args.set.now.plans c.args.call c.in_ok-voyage.ensures.legal.voyage c.requires.to

pub shared_out-requires-clause-leads : goal.shared_out-requires-clause-leads
shared_out-requires-clause-leads c = leads_at c.args.ship.now c.args.cargo.now c.in_ok-voyage.voyage c.args.set.now.plans c.args.call c.moves_at.result.now c.in_ok-voyage.ensures.legal.voyage c.requires.from c.moves_at.ensures

pub shared_out-requires-clause-lifts : goal.shared_out-requires-clause-lifts
shared_out-requires-clause-lifts c = least_at c.args.ship.now c.args.cargo.now c.in_ok-voyage.voyage c.args.set.now.plans c.args.set.now.lifted.lists c.args.call c.moves_at.result.now c.requires.lifts.lists.lifted c.in_ok-voyage.ensures.exact c.requires.from c.moves_at.ensures
