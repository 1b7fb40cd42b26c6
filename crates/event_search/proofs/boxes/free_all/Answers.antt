use Rattle.std.proofs.Common.{◌<◌, ◌≤◌, length, None, ◌∙◌, ap, length-set, arith}
use Rattle.zero_one_rows.specs.Variables.{variables}
use Rattle.proof_trees.specs.Boxes.{Box, at}
use Rattle.event_search.proofs.Halves.{freed_one, all_free}
use Rattle.event_search.proofs.boxes.free_all.Goals as goal

pub loop-v-init : goal.loop-v-init
loop-v-init c = record { len = c.requires; free = λ j lt. absurd (omega (arith, lt)) }

pub release-requires : goal.release-requires
release-requires c = omega (arith, c.vars-v-end.ensures.number, c.loop-v-test.true, c.loop-v.invariant.len)

pub loop-v-preserved : goal.loop-v-preserved
loop-v-preserved c =
    let i = c.loop-v.invariant in
    let lt : c.loop-v.v < length c.loop-v.b = omega (arith, c.vars-v-end.ensures.number, c.loop-v-test.true, i.len) in
    record {
      len = ap (λ (b : Box). length b) c.release.ensures ∙ length-set c.loop-v.b c.loop-v.v None ∙ i.len;
      free = λ j below. ap (λ (b : Box). at b j) c.release.ensures ∙ freed_one c.loop-v.b c.loop-v.v j lt i.free (omega (arith, below));
    }

pub returns : goal.returns
returns c =
    let le : length (variables c.args.model.now) ≤ c.loop-v.v = omega (arith, c.vars-v-end.ensures.number, c.loop-v-test.false) in
    all_free c.args.model.now c.loop-v.b c.loop-v.v c.loop-v.invariant.len le c.loop-v.invariant.free
