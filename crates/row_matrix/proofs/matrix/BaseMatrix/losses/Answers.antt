use Rattle.std.proofs.Common.{◌≡◌, ℕ, ◌<◌, List, [], cond, length, sym, ◌∙◌, ap, subst}
use Rattle.std.specs.Prelude.{slice_index_or}
use Rattle.zero_one_rows.specs.Variables.{Voyage, variables}
use Rattle.zero_one_rows.specs.Rows.{whole}
use Rattle.row_matrix.specs.declared.entries.Share.{Share}
use Rattle.row_matrix.specs.Terms.{count, row_at, loss, lost}
use Rattle.row_matrix.proofs.Losing.{Laws}
use Rattle.row_matrix.proofs.MatrixLaws.{row_losses}
use Rattle.row_matrix.proofs.matrix.BaseMatrix.losses.Goals as goal

pub returns : goal.returns
returns c =
    let m = c.self.inside.model.now in
    let i = c.self.invariant in
    let laws : Laws m c.self.inside.numbering = record { has_parts = c.rows_obey_laws.ensures.parts; are_sums = c.rows_obey_laws.ensures.coefficients; share_none = c.rows_obey_laws.ensures.apart; names = c.rows_obey_laws.ensures.names; listed = c.rows_obey_laws.ensures.variables; rules = c.rows_obey_laws.ensures.ship; numbering = i.numbering } in
    let lt : c.args.x < length (variables m) = subst (λ (w : Voyage). c.args.x < length (variables w)) (sym c.self.view_is) c.requires in
    subst (λ (w : Voyage). (k : ℕ) → k < count w → lost c.at.result.now c.chosen.result.now k ≡ loss c.args.value ((whole w).coef (row_at w k) c.args.x)) c.self.view_is
    (λ k k_lt.
    ap (λ (rows : List (List ℕ)). lost c.at.result.now rows k) c.chosen.ensures
    ∙ ap (λ (ss : List Share). lost ss (cond c.args.value c.self.inside.rows.minus_rows c.self.inside.rows.plus_rows) k) (c.at.ensures ∙ ap (λ (v : ℕ). slice_index_or c.self.inside.shares v []) c.x.view_is)
    ∙ row_losses m c.self.inside.numbering c.self.inside.shares c.self.inside.rows i.shares i.signed laws c.rows_obey_laws.ensures.rows c.args.value c.args.x k lt k_lt)
