use Rattle.std.proofs.Common.{rules, ◌≡◌, List, SFits, w64, sym, subst}
use Rattle.std.proofs.lemmas.Int.{to_z-of_z}
use Rattle.zero_one_rows.specs.declared.program.Row.{Row}
use Rattle.row_matrix.specs.declared.entries.Term.{Term}
use Rattle.dual_bound.specs.Costs.{IsListed}
use Rattle.bound_checker.proofs.named_rows.NamedRow.listed.Goals as goal

pub returns-clause-listed : goal.returns-clause-listed
returns-clause-listed c = λ m is.
    let s : SFits w64 c.args.self.now.right = search rules in
    let same : c.args.self.now.row ≡ c.args.row.now = search rules in
    let terms : c.as_slice.result.now ≡ c.args.self.now.terms = search rules in
    simp to_z-of_z (subst (λ (ts : List Term). IsListed m c.args.row.now c.args.self.now.right ts) (sym terms)
    (subst (λ (r : Row). IsListed m r c.args.self.now.right c.args.self.now.terms) same is))
