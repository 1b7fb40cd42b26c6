use Rattle.std.proofs.Common.{◌<◌, length, ◌∙◌, ap, arith}
use Rattle.std.proofs.lemmas.List.{length-set}
use Rattle.dual_bound.specs.Gauging.{Gauging}
use Rattle.proof_trees.specs.Boxes.{at}
use Rattle.node_work.proofs.Adopting.{set_next, gauging_is}
use Rattle.node_work.proofs.dual_state.set_vars.Goals as goal

pub loop-v-preserved : goal.loop-v-preserved
loop-v-preserved c =
    let e = c.set_var.ensures in
    let i = c.loop-v.invariant in
    let lt : c.loop-v.v < length c.loop-v.gauge.box = omega (arith, c.loop-v-test.true, c.vars-v-end.ensures.number, i.whole, c.requires.old) in
    record {
      voyage = ap (λ (g : Gauging). g.voyage) e ∙ i.voyage;
      multipliers = ap (λ (g : Gauging). g.multipliers) e ∙ i.multipliers;
      whole = ap (λ (g : Gauging). length g.box) e ∙ length-set c.loop-v.gauge.box c.loop-v.v c.at.result ∙ i.whole;
      same = λ k lt'. ap (λ (g : Gauging). at g.box k) e ∙ set_next c.loop-v.gauge.box c.args.b.now c.loop-v.v c.at.result lt c.at.ensures i.same k lt';
    }

pub returns : goal.returns
returns c =
    let i = c.loop-v.invariant in
    gauging_is c.loop-v.gauge c.args.gauge.now c.args.b.now i.voyage i.multipliers (omega (arith, i.whole, c.requires.old, c.requires.new))
    (λ k lt. i.same k (omega (arith, lt, c.loop-v-test.false, c.vars-v-end.ensures.number, c.requires.new)))
