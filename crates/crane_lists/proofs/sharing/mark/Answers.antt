use Rattle.std.proofs.Common.{◌<◌, ◌∙◌, ap, arith, get_or, length, length-set, refl, true}
use Rattle.crane_lists.proofs.Steps.{mark_more}
use Rattle.crane_lists.proofs.sharing.mark.Goals as goal

pub loop-i-preserved : goal.loop-i-preserved
loop-i-preserved c =
    let low : get_or c.args.round.now c.loop-i.i-index 0 < length c.args.done.now = c.requires c.loop-i.i-index 0 c.loop-i-test.true in record {
      marks = mark_more c.args.done.now c.loop-i.done c.set.new.self c.args.round.now c.loop-i.i-index (get_or c.args.round.now c.loop-i.i-index 0) c.loop-i-test.true refl (omega (arith, low, c.loop-i.invariant.same_length)) c.loop-i.invariant.marks c.set.ensures;
      same_length = ap length c.set.ensures ∙ (length-set c.loop-i.done (get_or c.args.round.now c.loop-i.i-index 0) true ∙ c.loop-i.invariant.same_length);
    }
