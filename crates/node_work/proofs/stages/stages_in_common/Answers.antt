use Rattle.std.proofs.Common.{◌∙◌, ap, arith, sym}
use Rattle.certificate.specs.declared.tree.Record.{Record}
use Rattle.node_work.proofs.Leading.{matches_more}
use Rattle.node_work.proofs.stages.stages_in_common.Goals as goal

pub loop-depth-preserved : goal.loop-depth-preserved
loop-depth-preserved c = record {
  records = omega (arith, c.if-depth-len.false, c.len.ensures);
  alike = matches_more c.args.stages.now c.args.trail.now c.loop-depth.depth c.index-stages-depth.result c.get.result.now c.loop-depth.invariant.alike c.loop-depth-test.true (omega (arith, c.if-depth-len.false, c.len.ensures))
      c.index-stages-depth.is c.get.ensures (ap (λ (r : Record). r.from_zero) (sym c.record.ensures) ∙ c.is_of.ensures.begins c.if-not-is_of.false)
      (c.is_of.ensures.raises c.if-not-is_of.false ∙ ap (λ (r : Record). r.raises) c.record.ensures);
}
