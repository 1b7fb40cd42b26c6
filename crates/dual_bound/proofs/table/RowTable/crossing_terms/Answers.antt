use Rattle.std.proofs.Common.{arith, ◌≡◌, ◌+◌, ◌-◌, ℕ, List, Some, sym, ◌∙◌, ap, subst}
use Rattle.std.specs.Prelude.{slice_get}
use Rattle.zero_one_rows.specs.Variables.{Voyage}
use Rattle.zero_one_rows.specs.Counted.{all_rows}
use Rattle.row_matrix.specs.declared.entries.Term.{Term}
use Rattle.row_matrix.specs.Terms.{count, AreTerms}
use Rattle.dual_bound.proofs.table.RowTable.crossing_terms.Goals as goal

pub returns-then-index-len : goal.returns-then-index-len
returns-then-index-len c = λ r at.
    let m : Voyage = c.self.inside.model.now in
    let index : ℕ = c.args.number - c.base_rows.result in
    let v : m ≡ c.args.self.now = c.self.view_is in
    let low : count m ≡ count c.args.self.now = ap (λ (w : Voyage). count w) v in
    let place : count m + index ≡ c.args.number = omega (arith, c.requires, c.base_rows.ensures, low) in
    let here : slice_get (all_rows m) (count m + index) ≡ Some r = ap (λ (k : ℕ). slice_get (all_rows m) k) place ∙ subst (λ (w : Voyage). slice_get (all_rows w) c.args.number ≡ Some r) (sym v) at in
    subst (λ (w : Voyage). AreTerms w r c.at.result.now) v
    (subst (λ (ts : List Term). AreTerms m r ts) (sym c.at.ensures) (c.self.invariant.crossing index r (omega (arith, c.if-index-len.true, c.len.ensures)) here))
