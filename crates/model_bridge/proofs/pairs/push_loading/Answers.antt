use Rattle.model_bridge.specs.Pairs.{loads}
use Rattle.model_bridge.proofs.Lists.{more_range}
use Rattle.model_bridge.proofs.pairs.push_loading.Goals as goal

pub loop-c-preserved : goal.loop-c-preserved
loop-c-preserved c = more_range (loads c.args.model.now c.args.call) c.loop-c.c c.loads-wanted.result c.args.pool.now c.loop-c.pool c.push_item.new.list c.loads-wanted.ensures c.in_ok-push_item.ensures c.loop-c.invariant
