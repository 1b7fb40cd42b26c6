use Rattle.std.proofs.Common.{rules, arith, SFits, w64, refl, ◌<◌, ◌≤◌, ◌^◌, ◌∙◌, length, ℤ}
use Rattle.std.specs.Int.RustNames.{unsigned_abs}
use Rattle.std.proofs.lemmas.Int.{to_z-of_z}
use Rattle.std.proofs.lemmas.List.{length-set}
use Rattle.crossing_pricing.proofs.PairSums.{zeros_low, put_all}
use Rattle.crossing_pricing.proofs.packing.scores.Goals as goal

pub loop-pair-init : goal.loop-pair-init
loop-pair-init c = record { len = refl; low = λ k lt. zeros_low 169 k (2 ^ 37) }

pub loop-pair-preserved : goal.loop-pair-preserved
loop-pair-preserved c =
    let i = c.loop-pair.invariant in
    let s : SFits w64 c.score.result = search rules in
    let lt : c.loop-pair.pair < length c.loop-pair.scores = omega (arith, i.len, c.loop-pair-test.true) in
    record {
      len = length-set c.loop-pair.scores c.loop-pair.pair _ ∙ i.len;
      low = simp to_z-of_z (put_all (λ (z : ℤ). unsigned_abs z ≤ 2 ^ 37) 169 c.loop-pair.scores c.loop-pair.pair c.score.result lt i.low c.score.ensures);
    }
