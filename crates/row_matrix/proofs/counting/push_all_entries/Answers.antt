use Rattle.std.proofs.Common.{arith, ◌≡◌, ℕ, ◌<◌, List, [], map, refl, sym, ◌∙◌, ap, subst}
use Rattle.std.specs.Prelude.{slice_index_or}
use Rattle.row_sums.specs.declared.sums.Sum.{Sum}
use Rattle.row_sums.specs.declared.numbering.Numbering.{Numbering}
use Rattle.row_sums.specs.Numbers.{number, numbers, IsThere}
use Rattle.row_sums.specs.Held.{variables_of}
use Rattle.row_sums.proofs.Telling.{number_low}
use Rattle.row_matrix.specs.Counted.{entry_of, entry_by}
use Rattle.row_matrix.proofs.Filing.{listed}
use Rattle.row_matrix.proofs.Numbered.{entries_same}
use Rattle.row_matrix.proofs.counting.push_all_entries.Goals as goal

pub loop-number-preserved : goal.loop-number-preserved
loop-number-preserved c =
    let m = c.args.matrix.now.voyage in
    let z : Numbering = c.numbering-z.result in
    let n : ℕ = c.loop-number.number in
    let r = listed (λ k es. (s : Sum) → IsThere m s → number z s ≡ k → es ≡ map (entry_of m z k) (variables_of m s)) [] c.loop-number.lists c.push_entries.new.lists n (map (entry_by z n c.args.weights.now) c.variables.result.now) c.loop-number.invariant.each c.loop-number.invariant.of c.in_ok-push_entries.ensures
    (λ s t e.
    let vars : c.variables.result.now ≡ variables_of m s = c.variables.ensures.are s t (sym e ∙ ap (λ (y : Numbering). number y s) c.numbering-z.ensures.same) in
    entries_same m z n c.args.weights.now c.variables.result.now c.requires.weights c.variables.ensures.inside ∙ ap (λ (vs : List ℕ). map (entry_of m z n) vs) vars) in
    record { each = r.0; of = r.1 }

pub returns : goal.returns
returns c = λ s t.
    let m = c.args.matrix.now.voyage in
    let z : Numbering = c.numbering-z.result in
    let low : number z s < numbers z = number_low m z s c.numbering-z.ensures.room t in
    let lt : number z s < c.loop-number.number = omega (arith, low, c.numbers-number-end.ensures, c.loop-number-test.false) in
    subst (λ (y : Numbering). slice_index_or c.loop-number.lists (number y s) [] ≡ map (entry_of m y (number y s)) (variables_of m s)) c.numbering-z.ensures.same (c.loop-number.invariant.of (number z s) lt s t refl)
