use Rattle.zero_one_model.specs.Indexed.{stands}
use Rattle.zero_one_model.proofs.LotVariables.{more_flat, of_put}
use Rattle.zero_one_model.proofs.model.Model.select_lots.Goals as goal

pub loop-put-preserved : goal.loop-put-preserved
loop-put-preserved c = more_flat (stands c.args.self.now c.args.r.now) (of_put c.args.self.now) c.loop-put.put c.args.list.now c.loop-put.list c.select_put.new.list c.loop-put.invariant c.in_ok-select_put.ensures
