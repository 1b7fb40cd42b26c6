use Rattle.std.proofs.Common.{rules, arith, SFits, w64, refl, sym, ◌≡◌, ◌<◌, ◌∙◌, ap, get_or, length, replicate, pos, None, Option, Bool}
use Rattle.std.specs.Int.{w128}
use Rattle.std.proofs.lemmas.Int.{to_z-of_z, fits_signed_from_abs}
use Rattle.std.proofs.lemmas.Option.{get_or_from_slice_get}
use Rattle.proof_trees.specs.Boxes.{at}
use Rattle.zero_one_rows.specs.Variables.{variables}
use Rattle.crossing_pricing.specs.Gaps.{number_at, gap}
use Rattle.crossing_pricing.proofs.PairSums.{gained_none, gained_more}
use Rattle.crossing_pricing.proofs.pairs.gaps_by_pair.Goals as goal

pub loop-v-init : goal.loop-v-init
loop-v-init c = gained_none c.args.b.now c.args.reduced.now c.args.keys.now (replicate 338 (pos 0)) refl refl

pub loop-v-preserved : goal.loop-v-preserved
loop-v-preserved c =
    let s : SFits w64 c.unit_gap-gain.result = search rules in
    let lt : c.loop-v.v < length (variables c.args.model.now) = omega (arith, c.loop-v-test.true, c.vars-v-end.ensures.number) in
    let f : SFits w128 (number_at c.args.reduced.now c.loop-v.v) = fits_signed_from_abs w128 (number_at c.args.reduced.now c.loop-v.v) (omega (arith, c.requires.small c.loop-v.v lt)) in
    let a : at c.args.b.now c.loop-v.v ≡ c.at.result = get_or_from_slice_get c.args.b.now c.loop-v.v c.at.result None c.at.ensures in
    let e : c.unit_gap-gain.result ≡ gap c.at.result (number_at c.args.reduced.now c.loop-v.v) (pos 1) = simp to_z-of_z at c.unit_gap-gain.ensures.value in
    let is : c.unit_gap-gain.result ≡ gap (at c.args.b.now c.loop-v.v) (number_at c.args.reduced.now c.loop-v.v) (pos 1) = e ∙ ap (λ (o : Option Bool). gap o (number_at c.args.reduced.now c.loop-v.v) (pos 1)) (sym a) in
    gained_more c.args.b.now c.args.reduced.now c.args.keys.now c.loop-v.v c.loop-v.gaps c.add_gap.new.gaps (get_or c.args.keys.now c.loop-v.v 0) c.unit_gap-gain.result c.loop-v.invariant c.add_gap.ensures.len
    (simp to_z-of_z at c.add_gap.ensures.each) refl is c.unit_gap-gain.ensures.low
