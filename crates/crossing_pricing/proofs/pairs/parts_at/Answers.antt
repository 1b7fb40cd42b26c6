use Rattle.std.proofs.Common.{rules, arith, SFits, w64, refl, ◌≡◌, ◌<◌, ◌≤◌, ◌^◌, ◌/◌, ◌%◌, ◌∙◌, length, ℕ, ℤ}
use Rattle.std.specs.Int.RustNames.{unsigned_abs}
use Rattle.std.proofs.lemmas.Int.{to_z-of_z}
use Rattle.std.proofs.lemmas.List.{length-set}
use Rattle.crossing_pricing.specs.Pairs.{own_part}
use Rattle.crossing_pricing.proofs.PairSums.{zeros_low, put_each, put_all, parts_whole}
use Rattle.crossing_pricing.proofs.pairs.parts_at.Goals as goal

pub loop-pair-init : goal.loop-pair-init
loop-pair-init c = record { len = refl; each = λ k lt. absurd (omega arith); low = λ k lt. zeros_low 169 k (2 ^ 37) }

pub loop-pair-preserved : goal.loop-pair-preserved
loop-pair-preserved c =
    let i = c.loop-pair.invariant in
    let s : SFits w64 c.part_of.result = search rules in
    let lt : c.loop-pair.pair < length c.loop-pair.parts = omega (arith, i.len, c.loop-pair-test.true) in
    record {
      len = length-set c.loop-pair.parts c.loop-pair.pair _ ∙ i.len;
      each = simp to_z-of_z (put_each (λ (k : ℕ) (z : ℤ). z ≡ own_part c.args.model.now c.args.length c.args.price (k / 13) (k % 13)) c.loop-pair.parts c.loop-pair.pair c.part_of.result lt i.each c.part_of.ensures.value);
      low = simp to_z-of_z (put_all (λ (z : ℤ). unsigned_abs z ≤ 2 ^ 37) 169 c.loop-pair.parts c.loop-pair.pair c.part_of.result lt i.low c.part_of.ensures.low);
    }

pub returns : goal.returns
returns c = parts_whole c.args.model.now c.args.length c.args.price c.loop-pair.pair c.loop-pair.parts c.loop-pair.invariant.len c.loop-pair-test.false c.loop-pair.invariant.each c.loop-pair.invariant.low
