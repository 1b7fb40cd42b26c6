use Rattle.std.proofs.Common.{rules, ◌≡◌, sym, subst, SFits, w64, List, ℤ}
use Rattle.std.proofs.lemmas.Int.{to_z-of_z}
use Rattle.zero_one_rows.specs.declared.program.Row.{Row}
use Rattle.row_matrix.specs.declared.entries.Term.{Term}
use Rattle.dual_bound.specs.Costs.{IsListed}
use Rattle.dual_bound.specs.Rising.{RisesBy}
use Rattle.dual_bound.proofs.rising.rising_of.Goals as goal

pub returns-clause-some : goal.returns-clause-some
returns-clause-some c =
    let side : ℤ = c.args.listed.right in
    let s : SFits w64 side = search rules in
    let f : c.in_ok-copy_of.field-0 ≡ c.args.listed.row.now = search rules in
    let t : c.in_ok-of.field-0 ≡ c.args.listed.terms.now = search rules in
    let listed : IsListed c.args.model.now c.in_ok-copy_of.field-0 side c.in_ok-of.field-0 =
    subst (λ (q : Row). IsListed c.args.model.now q side c.in_ok-of.field-0) (sym f) (subst (λ (ts : List Term). IsListed c.args.model.now c.args.listed.row.now side ts) (sym t) c.requires.listed) in
    record {
      listed = simp to_z-of_z listed;
      by = subst (λ (q : Row). RisesBy c.args.model.now c.args.b.now c.args.m.now q c.in-Some.more) (sym f) c.in-Some.ensures.some;
    }
