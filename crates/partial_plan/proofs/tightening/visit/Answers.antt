use Rattle.partial_plan.proofs.Falling.{tightens_length}
use Rattle.partial_plan.proofs.tightening.visit.Goals as goal

pub ones_now-requires : goal.ones_now-requires
ones_now-requires c = tightens_length c.args.model.now c.args.b.now c.look.new.b c.args.steps.now c.look.new.steps c.requires.whole c.look.ensures.steps
