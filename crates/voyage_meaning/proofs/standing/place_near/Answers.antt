use Rattle.std.proofs.Common.{arith}
use Rattle.std.proofs.lemmas.Option.{slice_get_within}
use Rattle.stow_data.specs.Ship.{places}
use Rattle.stow_data.proofs.CellLemmas.{stack_rules}
use Rattle.voyage_meaning.proofs.standing.place_near.Goals as goal

pub overflow_sub-bay : goal.overflow_sub-bay
overflow_sub-bay c = let r = stack_rules c.args.ship.now c.args.s c.stack-stack.result.now c.obeys_rules.ensures c.stack-stack.ensures in omega (arith, r.bay_from)

pub overflow_add-bay : goal.overflow_add-bay
overflow_add-bay c = let r = stack_rules c.args.ship.now c.args.s c.stack-stack.result.now c.obeys_rules.ensures c.stack-stack.ensures in omega (arith, r.bay_to)

pub returns-in-Some : goal.returns-in-Some
returns-in-Some c = let has = c.in-Some.ensures.has in let l = slice_get_within (places c.args.ship.now) c.in-Some.p has.place has.is_place in omega (arith, l)
