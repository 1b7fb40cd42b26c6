use Rattle.std.proofs.Common.{arith}
use Rattle.voyage_meaning.proofs.Loading.{loading_all, loading_more}
use Rattle.voyage_meaning.proofs.berth.loading.Goals as goal

pub loop-c-preserved : goal.loop-c-preserved
loop-c-preserved c = loading_more c.args.call c.args.cargo.now.containers c.loop-c.quay c.push.new.self c.loop-c.c c.container.result.now c.eq.result c.container.ensures c.loop-c.invariant c.eq.ensures c.in_ok-push.ensures

pub returns-clause-flags : goal.returns-clause-flags
returns-clause-flags c = loading_all c.args.call c.args.cargo.now.containers c.loop-c.quay c.loop-c.c (omega arith) c.loop-c.invariant
