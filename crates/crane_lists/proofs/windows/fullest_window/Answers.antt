use Rattle.std.proofs.Common.{◌≤◌, ℕ, arith, below_more}
use Rattle.crane_lists.specs.Least.{window_count}
use Rattle.crane_lists.proofs.Windowing.{fullest}
use Rattle.crane_lists.proofs.windows.fullest_window.Goals as goal

pub loop-b-preserved : goal.loop-b-preserved
loop-b-preserved c = record {
  all = below_more (λ (b : ℕ). window_count c.args.ship.now b c.args.moves.now ≤ c.greater-most.result) c.loop-b.b (λ k h. let was = c.loop-b.invariant.all k h in omega (arith, was)) (omega arith);
  one = λ n h. let was = c.loop-b.invariant.one n h in let here = h c.loop-b.b in omega (arith, was, here);
}

pub returns-clause-all : goal.returns-clause-all
returns-clause-all c = fullest c.args.ship.now c.args.moves.now c.loop-b.most c.obeys_rules.ensures (λ b h. c.loop-b.invariant.all b (omega (arith, h)))
