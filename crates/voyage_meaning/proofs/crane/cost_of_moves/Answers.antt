use Rattle.std.proofs.lemmas.Bool.{both_ways}
use Rattle.voyage_meaning.proofs.RunsHold.{stops_at_berth, leads_at_berth, ends_at_berth}
use Rattle.voyage_meaning.proofs.crane.cost_of_moves.Goals as goal

pub returns-in-Err : goal.returns-in-Err
returns-in-Err c = λ before is. stops_at_berth c.args.ship.now c.args.cargo.now c.args.call before c.args.after.now c.args.moves.now c.args.berth.now c.run.new.berth.state c.in-Err.field-0 is c.in-Err.ensures.does

pub returns-then-not-ends_at : goal.returns-then-not-ends_at
returns-then-not-ends_at c = λ before is leads.
    both_ways c.ends_at.result c.if-not-ends_at.true (c.ends_at.ensures.1 (ends_at_berth c.args.ship.now c.args.cargo.now c.args.call before c.args.after.now c.args.moves.now c.args.berth.now c.run.new.berth.state c.in-Ok.cost is c.in-Ok.ensures.does leads))

pub returns-then-not-is_departure : goal.returns-then-not-is_departure
returns-then-not-is_departure c = λ before is leads.
    both_ways c.is_departure.result c.if-not-is_departure.true (c.is_departure.ensures.1 leads.departure)

pub returns-else-not-is_departure : goal.returns-else-not-is_departure
returns-else-not-is_departure c = λ before is.
    leads_at_berth c.args.ship.now c.args.cargo.now c.args.call before c.args.after.now c.args.moves.now c.args.berth.now c.run.new.berth.state c.in-Ok.cost is c.in-Ok.ensures.does (c.ends_at.ensures.0 c.if-not-ends_at.false) (c.is_departure.ensures.0 c.if-not-is_departure.false)
