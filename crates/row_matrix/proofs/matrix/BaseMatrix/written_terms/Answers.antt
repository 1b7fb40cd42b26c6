use Rattle.std.proofs.Common.{◌<◌, List, Option, sym, subst}
use Rattle.std.specs.Prelude.{IfSome}
use Rattle.zero_one_rows.specs.Variables.{Voyage}
use Rattle.row_matrix.specs.declared.entries.Term.{Term}
use Rattle.row_matrix.specs.declared.written.Written.{Written}
use Rattle.row_matrix.specs.Terms.{count, row_at, AreTerms}
use Rattle.row_matrix.specs.Written.{AreWritten}
use Rattle.row_matrix.proofs.matrix.BaseMatrix.written_terms.Goals as goal

pub returns-in-Some : goal.returns-in-Some
returns-in-Some c =
    let m = c.self.inside.model.now in
    let written : AreWritten m c.in-Some.written = subst (λ (o : Option Written). IfSome o (AreWritten m)) c.in-Some.is c.self.invariant.written in
    let lt : c.args.k < count m = subst (λ (w : Voyage). c.args.k < count w) (sym c.self.view_is) c.requires in
    subst (λ (w : Voyage). AreTerms w (row_at w c.args.k) c.at.result.now) c.self.view_is
    (subst (λ (ts : List Term). AreTerms m (row_at m c.args.k) ts) (sym c.at.ensures) (written.terms.of c.args.k lt))
