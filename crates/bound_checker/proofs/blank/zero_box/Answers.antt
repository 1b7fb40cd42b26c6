use Rattle.std.proofs.Common.{arith, ◌<◌, ◌∙◌, ap, Bool, Option, Some, None, false, length}
use Rattle.std.proofs.lemmas.List.{length-set, length-replicate}
use Rattle.std.proofs.lemmas.Option.{slice_get-get_or}
use Rattle.zero_one_rows.specs.Variables.{variables}
use Rattle.proof_trees.specs.Boxes.{Box, at}
use Rattle.bound_checker.proofs.Blanks.{all_free, zero_more, free_less}
use Rattle.bound_checker.proofs.blank.zero_box.Goals as goal

pub loop-v-init : goal.loop-v-init
loop-v-init c =
    let n = length (variables c.args.model.now) in
    record {
      len = ap (λ (b : Box). length b) c.in_ok-b.ensures ∙ length-replicate n None;
      zero = λ x lt. absurd (omega arith);
      free = λ x le lt. ap (λ (b : Box). at b x) c.in_ok-b.ensures ∙ all_free n x;
    }

pub fix-requires : goal.fix-requires
fix-requires c =
    let i = c.loop-v.invariant in
    let lt : c.loop-v.v < length (variables c.args.model.now) = omega (arith, c.loop-v-test.true, c.vars-v-end.ensures.number) in
    let inside : c.loop-v.v < length c.loop-v.b = omega (arith, lt, i.len) in
    slice_get-get_or c.loop-v.b c.loop-v.v None inside ∙ ap (λ (o : Option Bool). Some o) (i.free c.loop-v.v (omega arith) lt)

pub loop-v-preserved : goal.loop-v-preserved
loop-v-preserved c =
    let i = c.loop-v.invariant in
    let lt : c.loop-v.v < length (variables c.args.model.now) = omega (arith, c.loop-v-test.true, c.vars-v-end.ensures.number) in
    let inside : c.loop-v.v < length c.loop-v.b = omega (arith, lt, i.len) in
    record {
      len = ap (λ (b : Box). length b) c.fix.ensures ∙ length-set c.loop-v.b c.loop-v.v (Some false) ∙ i.len;
      zero = λ x below. ap (λ (b : Box). at b x) c.fix.ensures ∙ zero_more c.loop-v.b c.loop-v.v inside i.zero x below;
      free = λ x above below. ap (λ (b : Box). at b x) c.fix.ensures ∙ free_less c.loop-v.b c.loop-v.v inside (length (variables c.args.model.now)) i.free x above below;
    }

pub returns : goal.returns
returns c = record { whole = c.loop-v.invariant.len; zero = λ x lt. c.loop-v.invariant.zero x (omega (arith, lt, c.loop-v-test.false, c.vars-v-end.ensures.number)) }
