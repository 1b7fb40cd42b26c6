use Rattle.std.proofs.Common.{◌≡◌, ◌∙◌, List, Err, ap, subst}
use Rattle.std.specs.List.Sorted.{IsBinarySearchResult}
use Rattle.zero_one_rows.specs.declared.program.Var.{Var}
use Rattle.zero_one_rows.specs.Variables.{variables}
use Rattle.zero_one_model.proofs.Rising.{variables_rise}
use Rattle.zero_one_model.proofs.Searched.{var_cmp, var_total, not_listed}
use Rattle.zero_one_model.proofs.model.Model.number.Goals as goal

pub returns-in-Err : goal.returns-in-Err
returns-in-Err c =
    let whole : c.as_slice.result.now ≡ variables c.args.self.now = c.as_slice.ensures ∙ (c.self.invariant.vars ∙ ap variables c.self.view_is) in
    let found : IsBinarySearchResult (λ (y : Var). var_cmp y c.args.v.now) (variables c.args.self.now) (Err c.in-Err.field-0) = subst (λ (xs : List Var). IsBinarySearchResult (λ (y : Var). var_cmp y c.args.v.now) xs (Err c.in-Err.field-0)) whole c.in-Err.ensures.position in
    not_listed var_total (variables c.args.self.now) c.args.v.now c.in-Err.field-0 (variables_rise c.args.self.now) found
