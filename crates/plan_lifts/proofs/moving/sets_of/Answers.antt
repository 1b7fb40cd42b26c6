use Rattle.plan_lifts.specs.Spread.{has}
use Rattle.plan_lifts.proofs.Sailing.{sets_made}
use Rattle.plan_lifts.proofs.moving.sets_of.Goals as goal

pub returns-clause-sets : goal.returns-clause-sets
returns-clause-sets c = sets_made c.args.ship.now c.args.before.now c.args.after.now (has c.in_ok-lifted.lifted) (has c.in_ok-moved.moved) (has c.add_all.new.set) (has c.in_ok-deck.deck) (has c.in_ok-opened.opened) (has c.in_ok-due.due) c.in_ok-moved.ensures.differ c.add_all.ensures.adds c.in_ok-deck.ensures.stand c.in_ok-opened.ensures.opens c.in_ok-due.ensures.filled
