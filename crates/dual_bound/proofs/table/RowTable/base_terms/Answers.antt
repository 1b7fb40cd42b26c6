use Rattle.std.proofs.Common.{rules, ◌≡◌, subst}
use Rattle.std.proofs.lemmas.Option.{IfSome_then}
use Rattle.zero_one_rows.specs.declared.program.Row.{Row}
use Rattle.zero_one_rows.specs.Variables.{Voyage}
use Rattle.row_matrix.specs.Terms.{row_at, AreTerms}
use Rattle.dual_bound.proofs.Keeping.{base_here}
use Rattle.dual_bound.proofs.table.RowTable.base_terms.Goals as goal

pub returns-in-Some : goal.returns-in-Some
returns-in-Some c =
    let m : Voyage = c.args.self.now in
    let is : c.in-Some.matrix.now ≡ m = search rules in
    IfSome_then c.written_terms.result c.written_terms.ensures (λ ts are r at.
    subst (λ (q : Row). AreTerms m q ts.now) (base_here m c.args.number r c.requires at) (subst (λ (w : Voyage). AreTerms w (row_at w c.args.number) ts.now) is are))
