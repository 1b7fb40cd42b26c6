use Rattle.std.proofs.Common.{rules, ◌≡◌, ℕ, ◌+◌, ◌∙◌, List, [], ◌∷◌, ◌++◌, Some, length, ap, sym, subst}
use Rattle.std.specs.Prelude.{slice_get}
use Rattle.zero_one_rows.specs.Counted.{all_rows, base_rows}
use Rattle.row_matrix.specs.declared.entries.Term.{Term}
use Rattle.row_matrix.specs.Terms.{AreTerms}
use Rattle.dual_bound.specs.Kept.{AreCrossing}
use Rattle.dual_bound.proofs.Keeping.{one_more}
use Rattle.dual_bound.proofs.table.append_terms.Goals as goal

pub returns-in_err-push-clause-kept : goal.returns-in_err-push-clause-kept
returns-in_err-push-clause-kept c =
    let e : c.push.new.self ≡ c.args.lists.now = search rules in
    subst (λ (ls : List (List Term)). AreCrossing c.args.model.now ls) (sym e) c.requires.kept

pub returns-clause-kept : goal.returns-clause-kept
returns-clause-kept c =
    let m = c.args.model.now in
    let ts : List Term = c.as_slice.result.now in
    let e : c.push.new.self ≡ c.args.lists.now ++ ts ∷ [] = search rules in
    let here : slice_get (all_rows m) (length (base_rows m) + length c.args.lists.now) ≡ Some c.row_at-row.result = ap (λ (k : ℕ). slice_get (all_rows m) k) c.requires.lists ∙ c.row_at-row.ensures.place in
    let are : AreTerms m c.row_at-row.result ts = subst (λ (us : List Term). AreTerms m c.row_at-row.result us) (sym c.as_slice.ensures) c.in_ok-terms.ensures.terms in
    subst (λ (ls : List (List Term)). AreCrossing m ls) (sym e) (one_more m (length (base_rows m)) (AreTerms m) [] c.args.lists.now ts c.row_at-row.result c.requires.kept here are)
