use Rattle.std.proofs.Common.{arith, ◌≡◌, ℕ, ◌<◌, List, [], ◌∷◌, ◌++◌, map, length, sym, ◌∙◌, ap, subst}
use Rattle.std.specs.Prelude.{slice_index_or}
use Rattle.row_matrix.proofs.Summing.{get_or_any}
use Rattle.zero_one_rows.specs.Variables.{variables, var}
use Rattle.row_sums.specs.declared.numbering.Numbering.{Numbering}
use Rattle.row_sums.specs.Held.{AreSumsOf}
use Rattle.row_matrix.specs.Counted.{share_of, weight_of, AreShares}
use Rattle.row_matrix.proofs.Filing.{listed, as_long}
use Rattle.row_matrix.proofs.Numbered.{weight_at}
use Rattle.row_matrix.proofs.counting.push_all_shares.Goals as goal

pub sums_of-requires : goal.sums_of-requires
sums_of-requires c = omega (arith, c.loop-weight-test.true, c.len.ensures, c.loop-weight.invariant.each, as_long c.args.matrix.now.voyage c.args.weights.now c.requires.weights)

pub loop-weight-preserved : goal.loop-weight-preserved
loop-weight-preserved c =
    let m = c.args.matrix.now.voyage in
    let z : Numbering = c.numbering-z.result in
    let n : ℕ = c.loop-weight.weight-index in
    let at : c.len.result ≡ n = c.len.ensures ∙ c.loop-weight.invariant.each in
    let lt_vars : n < length (variables m) = omega (arith, c.loop-weight-test.true, as_long m c.args.weights.now c.requires.weights) in
    let weight : slice_index_or c.args.weights.now n 0 ≡ weight_of m n = ap (λ (ws : List ℕ). slice_index_or ws n 0) c.requires.weights ∙ weight_at m n lt_vars in
    let hold : AreSumsOf m z (var m n) c.sums_of.result.now = subst (λ (v : ℕ). AreSumsOf m z (var m v) c.sums_of.result.now) at (subst (λ (y : Numbering). AreSumsOf m y (var m c.len.result) c.sums_of.result.now) (sym c.numbering-z.ensures.same) c.sums_of.ensures.sums) in
    let step = λ (w : ℕ) (e : w ≡ weight_of m n) (p : c.push_shares.new.lists ≡ c.loop-weight.lists ++ map (share_of z w) c.sums_of.result.now ∷ []).
    listed (λ v ss. AreShares m z v ss) [] c.loop-weight.lists c.push_shares.new.lists n (map (share_of z w) c.sums_of.result.now) c.loop-weight.invariant.each c.loop-weight.invariant.of p
    (record { sums = c.sums_of.result.now; hold = hold; rising = c.sums_of.ensures.rising; are = ap (λ (k : ℕ). map (share_of z k) c.sums_of.result.now) e }) in
    let r = step _ (get_or_any c.args.weights.now n _ 0 c.loop-weight-test.true ∙ weight) c.in_ok-push_shares.ensures in
    record { each = r.0; of = r.1 }

pub returns : goal.returns
returns c = λ v lt.
    let m = c.args.matrix.now.voyage in
    let low : v < c.loop-weight.weight-index = omega (arith, lt, as_long m c.args.weights.now c.requires.weights, c.loop-weight-test.false) in
    subst (λ (y : Numbering). AreShares m y v (slice_index_or c.loop-weight.lists v [])) c.numbering-z.ensures.same (c.loop-weight.invariant.of v low)
