use Rattle.std.proofs.Common.{◌<◌, List, [], arith, sym, ◌∙◌, subst}
use Rattle.row_matrix.specs.declared.entries.Term.{Term}
use Rattle.row_matrix.specs.Terms.{count, row_at, AreTerms}
use Rattle.row_matrix.proofs.Filing.{listed}
use Rattle.row_matrix.proofs.Losing.{Laws}
use Rattle.row_matrix.proofs.MatrixLaws.{row_lists}
use Rattle.row_matrix.proofs.written.terms_of_rows.Goals as goal

pub list_terms-requires : goal.list_terms-requires
list_terms-requires c =
    let m = c.args.model.now in
    let laws : Laws m c.args.numbering = record { has_parts = c.rows_obey_laws.ensures.parts; are_sums = c.rows_obey_laws.ensures.coefficients; share_none = c.rows_obey_laws.ensures.apart; names = c.rows_obey_laws.ensures.names; listed = c.rows_obey_laws.ensures.variables; rules = c.rows_obey_laws.ensures.ship; numbering = c.requires.numbering } in
    let lt : c.loop-k.k < count m = omega (arith, c.loop-k-test.true, c.base_rows-k-end.ensures) in
    (row_lists m c.args.numbering c.args.entries.now c.args.rows.now c.requires.entries c.requires.rows laws c.rows_obey_laws.ensures.cargo c.rows_obey_laws.ensures.small c.rows_obey_laws.ensures.rows c.loop-k.k lt).small

pub loop-k-preserved : goal.loop-k-preserved
loop-k-preserved c =
    let m = c.args.model.now in
    let laws : Laws m c.args.numbering = record { has_parts = c.rows_obey_laws.ensures.parts; are_sums = c.rows_obey_laws.ensures.coefficients; share_none = c.rows_obey_laws.ensures.apart; names = c.rows_obey_laws.ensures.names; listed = c.rows_obey_laws.ensures.variables; rules = c.rows_obey_laws.ensures.ship; numbering = c.requires.numbering } in
    let lt : c.loop-k.k < count m = omega (arith, c.loop-k-test.true, c.base_rows-k-end.ensures) in
    let here : AreTerms m (row_at m c.loop-k.k) c.as_slice.result.now =
    subst (λ (ts : List Term). AreTerms m (row_at m c.loop-k.k) ts) (sym (c.as_slice.ensures.value ∙ c.in_ok-list_terms.ensures))
    (row_lists m c.args.numbering c.args.entries.now c.args.rows.now c.requires.entries c.requires.rows laws c.rows_obey_laws.ensures.cargo c.rows_obey_laws.ensures.small c.rows_obey_laws.ensures.rows c.loop-k.k lt) in
    let r = listed (λ k ts. AreTerms m (row_at m k) ts) [] c.loop-k.lists c.push.new.self c.loop-k.k c.as_slice.result.now c.loop-k.invariant.each c.loop-k.invariant.of c.in_ok-push.ensures here in
    record { each = r.0; of = r.1 }
