use Rattle.std.proofs.Common.{[]}
use Rattle.model_bridge.specs.Pairs.{ones}
use Rattle.model_bridge.proofs.Lists.{more_range}
use Rattle.model_bridge.proofs.pairs.ones_of.Goals as goal

pub loop-v-preserved : goal.loop-v-preserved
loop-v-preserved c = more_range (ones c.args.full.now) c.loop-v.v c.is_one.result [] c.loop-v.list c.push_item.new.list c.is_one.ensures c.in_ok-push_item.ensures c.loop-v.invariant
