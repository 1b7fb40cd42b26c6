use Rattle.std.proofs.Common.{◌∙◌}
use Rattle.std.specs.BTreeSet.{contains}
use Rattle.ship_profile.specs.Positions.{position_in, position_order}
use Rattle.ship_profile.proofs.CellLookups.{side_entered}
use Rattle.ship_profile.proofs.cells.enter_side.Goals as goal

pub returns : goal.returns
returns c = λ s o. c.in_ok-insert.ensures.updates.0 (position_in o s) ∙ rw c.position_in.ensures (side_entered c.args.t.now s c.args.odd o (contains position_order c.args.cells.now (position_in o s)))
