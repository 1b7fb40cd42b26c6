use Rattle.std.proofs.Common.{length, ap, arith}
use Rattle.stow_data.specs.Tables.{ship_of}
use Rattle.stow_data.proofs.Listed.{halves_few}
use Rattle.stow_data.proofs.ships.Ship.halves.Goals as goal

pub overflow_cast-result : goal.overflow_cast-result
overflow_cast-result c =
    let few = halves_few (ship_of c.self.inside) in
    let most = c.self.invariant.rules.few_places in
    let same = ap length c.self.invariant.half_table in
    omega (arith, few, most, same)
