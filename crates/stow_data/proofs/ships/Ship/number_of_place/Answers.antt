use Rattle.stow_data.proofs.Made.{place_bounded, stack_in}
use Rattle.stow_data.proofs.ships.Ship.number_of_place.Goals as goal

pub stack-requires : goal.stack-requires
stack-requires c = stack_in c.args.self.now c.args.p c.place-place.result c.place-place.ensures

pub number_on-number-requires : goal.number_on-number-requires
number_on-number-requires c = place_bounded c.args.self.now c.args.p c.place-place.result c.stack.result.now c.obeys_rules.ensures c.place-place.ensures c.stack.ensures
