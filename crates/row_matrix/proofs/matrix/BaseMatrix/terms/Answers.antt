use Rattle.std.proofs.Common.{◌<◌, List, sym, subst}
use Rattle.std.proofs.lemmas.Result.{on_ok_weaker}
use Rattle.zero_one_rows.specs.Variables.{Voyage}
use Rattle.row_matrix.specs.declared.entries.Term.{Term}
use Rattle.row_matrix.specs.Terms.{count, row_at, AreTerms}
use Rattle.row_matrix.proofs.Losing.{Laws}
use Rattle.row_matrix.proofs.MatrixLaws.{row_lists}
use Rattle.row_matrix.proofs.matrix.BaseMatrix.terms.Goals as goal

pub list_terms-requires : goal.list_terms-requires
list_terms-requires c =
    let a = c.self.inside in
    let i = c.self.invariant in
    let laws : Laws a.model.now a.numbering = record { has_parts = c.rows_obey_laws.ensures.parts; are_sums = c.rows_obey_laws.ensures.coefficients; share_none = c.rows_obey_laws.ensures.apart; names = c.rows_obey_laws.ensures.names; listed = c.rows_obey_laws.ensures.variables; rules = c.rows_obey_laws.ensures.ship; numbering = i.numbering } in
    let lt : c.args.k < count a.model.now = subst (λ (w : Voyage). c.args.k < count w) (sym c.self.view_is) c.requires in
    (row_lists a.model.now a.numbering a.entries a.rows i.entries i.signed laws c.rows_obey_laws.ensures.cargo c.rows_obey_laws.ensures.small c.rows_obey_laws.ensures.rows c.args.k lt).small

pub returns : goal.returns
returns c =
    let a = c.self.inside in
    let i = c.self.invariant in
    let laws : Laws a.model.now a.numbering = record { has_parts = c.rows_obey_laws.ensures.parts; are_sums = c.rows_obey_laws.ensures.coefficients; share_none = c.rows_obey_laws.ensures.apart; names = c.rows_obey_laws.ensures.names; listed = c.rows_obey_laws.ensures.variables; rules = c.rows_obey_laws.ensures.ship; numbering = i.numbering } in
    let lt : c.args.k < count a.model.now = subst (λ (w : Voyage). c.args.k < count w) (sym c.self.view_is) c.requires in
    on_ok_weaker c.list_terms.result
    (λ e.
    subst (λ (w : Voyage). AreTerms w (row_at w c.args.k) c.list_terms.new.terms.items) c.self.view_is
    (subst (λ (ts : List Term). AreTerms a.model.now (row_at a.model.now c.args.k) ts) (sym e) (row_lists a.model.now a.numbering a.entries a.rows i.entries i.signed laws c.rows_obey_laws.ensures.cargo c.rows_obey_laws.ensures.small c.rows_obey_laws.ensures.rows c.args.k lt)))
    c.list_terms.ensures
