use Rattle.zero_one_model.specs.Indexed.{stands, lot_of}
use Rattle.zero_one_model.proofs.LotVariables.{more_flat}
use Rattle.zero_one_model.proofs.model.Model.select_put.Goals as goal

pub loop-g-preserved : goal.loop-g-preserved
loop-g-preserved c = more_flat (stands c.args.self.now c.args.r.now) (lot_of c.args.self.now c.args.put) c.loop-g.g c.args.list.now c.loop-g.list c.select_lot.new.list c.loop-g.invariant c.in_ok-select_lot.ensures
