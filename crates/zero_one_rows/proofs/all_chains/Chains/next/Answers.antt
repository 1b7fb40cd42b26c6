use Rattle.std.proofs.Common.{◌<◌, ◌+◌, ◌^◌, arith, sym, ◌∙◌, rules}
use Rattle.zero_one_rows.proofs.EachOnce.{step_none, step_some}
use Rattle.zero_one_rows.proofs.all_chains.Chains.next.Goals as goal

pub returns-then-is_some : goal.returns-then-is_some
returns-then-is_some c =
    let inv = c.loop-self.invariant in
    let low : c.loop-self.self-inside.place < 2 ^ (c.loop-self.self-inside.calls + 1) = omega (arith, c.loop-self-test.true, inv.end) in
    step_some (c.loop-self.self-inside.calls + 1) c.loop-self.self-inside.place c.chain_at-chain.result _ low c.chain_at-chain.ensures (search rules) inv.same

pub loop-self-preserved : goal.loop-self-preserved
loop-self-preserved c =
    let inv = c.loop-self.invariant in
    let low : c.loop-self.self-inside.place < 2 ^ (c.loop-self.self-inside.calls + 1) = omega (arith, c.loop-self-test.true, inv.end) in
    record {
      right = record { calls = inv.right.calls; place = omega (arith, low) };
      same = sym (step_none (c.loop-self.self-inside.calls + 1) c.loop-self.self-inside.place c.chain_at-chain.result low c.chain_at-chain.ensures (search rules)) ∙ inv.same;
      end = inv.end;
    }
