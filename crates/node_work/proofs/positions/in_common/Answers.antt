use Rattle.std.proofs.Common.{arith}
use Rattle.node_work.specs.Positions.{value_in}
use Rattle.node_work.proofs.Sameness.{fewer}
use Rattle.node_work.proofs.positions.in_common.Goals as goal

pub returns-then-depth-len-clause-values : goal.returns-then-depth-len-clause-values
returns-then-depth-len-clause-values c = λ k is. fewer value_in c.args.frames.now c.args.path.now c.loop-depth.depth k is c.loop-depth.invariant.values

pub returns-then-not-is_same-clause-values : goal.returns-then-not-is_same-clause-values
returns-then-not-is_same-clause-values c = λ k is. fewer value_in c.args.frames.now c.args.path.now c.loop-depth.depth k is c.loop-depth.invariant.values

pub returns-clause-values : goal.returns-clause-values
returns-clause-values c = λ k is. fewer value_in c.args.frames.now c.args.path.now c.loop-depth.depth k (omega arith) c.loop-depth.invariant.values
