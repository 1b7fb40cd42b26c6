use Rattle.std.proofs.Common.{rules, arith, ◌≡◌, ◌<◌, length, List, ℤ, pos, Some, sym, subst, SFits, w64}
use Rattle.std.specs.Prelude.{slice_get}
use Rattle.std.proofs.lemmas.Int.{to_z-of_z}
use Rattle.std.proofs.lemmas.Option.{get_or_from_slice_get}
use Rattle.zero_one_rows.specs.Variables.{Voyage}
use Rattle.zero_one_rows.specs.Counted.{all_rows}
use Rattle.row_matrix.specs.Terms.{AreTerms}
use Rattle.crossing_pricing.specs.Gaps.{number_at}
use Rattle.dual_bound.specs.Costs.{IsListed}
use Rattle.dual_bound.specs.Kept.{IsRight}
use Rattle.dual_bound.proofs.table.RowTable.row.Goals as goal

pub returns : goal.returns
returns c = λ r at.
    let m : Voyage = c.self.inside.model.now in
    let rights : List ℤ = c.self.inside.rights in
    let v : m ≡ c.args.self.now = c.self.view_is in
    let s : SFits w64 c.at.result.now = search rules in
    let lt : c.args.number < length rights = omega (arith, c.if-index-len.false, c.len.ensures) in
    let here : slice_get (all_rows m) c.args.number ≡ Some r = subst (λ (w : Voyage). slice_get (all_rows w) c.args.number ≡ Some r) (sym v) at in
    let kept : IsRight m r (number_at rights c.args.number) = c.self.invariant.rights c.args.number r lt here in
    let one : IsRight m r c.at.result.now = subst (λ (z : ℤ). IsRight m r z) (get_or_from_slice_get rights c.args.number c.at.result.now (pos 0) c.at.ensures) kept in
    let right : IsRight c.args.self.now r c.at.result.now = subst (λ (w : Voyage). IsRight w r c.at.result.now) v one in
    let terms : AreTerms c.args.self.now r c.in_ok-terms.terms.now = c.in_ok-terms.ensures r at in
    let listed : IsListed c.args.self.now r c.at.result.now c.in_ok-terms.terms.now = record { row = right.row; right = right.right; low = right.low; terms = terms } in
    simp to_z-of_z listed
