use Rattle.std.proofs.Common.{arith, ◌≡◌, ◌<◌, ◌∙◌, ap, length, get_or}
use Rattle.std.proofs.lemmas.List.{length-set, take_all}
use Rattle.proof_trees.specs.Boxes.{Box}
use Rattle.partial_plan.specs.Fixing.{freed}
use Rattle.bound_checker.proofs.Following.{free_more}
use Rattle.bound_checker.proofs.priced_box.free_all.Goals as goal

pub allow-requires-clause-var : goal.allow-requires-clause-var
allow-requires-clause-var c =
    let in_b : get_or c.args.xs.now c.loop-x.x-index c.x-item.result < length c.args.b.now = c.requires.inside c.loop-x.x-index c.x-item.result c.loop-x-test.true in
    let is : c.x-item.result ≡ get_or c.args.xs.now c.loop-x.x-index c.x-item.result = c.x-item.is in
    omega (arith, c.loop-x.invariant.len)

pub allow-requires-clause-carries : goal.allow-requires-clause-carries
allow-requires-clause-carries c = c.loop-x.invariant.some

pub loop-x-preserved : goal.loop-x-preserved
loop-x-preserved c =
    let i = c.loop-x.invariant in
    record {
      len = ap (λ (b : Box). length b) c.allow.ensures.there ∙ length-set c.loop-x.b c.x-item.result _ ∙ i.len;
      box = free_more c.args.xs.now c.loop-x.x-index c.x-item.result c.loop-x-test.true c.x-item.is c.args.b.now c.loop-x.b c.allow.new.b c.allow.ensures.there i.box;
      some = (i.some.0, c.allow.ensures.carries i.some.0 i.some.1);
      carries = λ ms h. c.allow.ensures.carries ms (i.carries ms h);
    }

pub returns-clause-there : goal.returns-clause-there
returns-clause-there c = c.loop-x.invariant.box ∙ ap (freed c.args.b.now) (take_all c.loop-x.x-index c.args.xs.now (omega (arith, c.loop-x-test.false)))
