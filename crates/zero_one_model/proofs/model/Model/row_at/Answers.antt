use Rattle.std.proofs.Common.{◌≡◌, ◌<◌, ◌≤◌, ◌∙◌, ap, sym, subst, length, List, Some}
use Rattle.std.specs.Prelude.{slice_get}
use Rattle.stow_data.proofs.Members.{member_of}
use Rattle.zero_one_rows.specs.declared.program.Row.{Row}
use Rattle.zero_one_rows.specs.Counted.{all_rows, base_in, rows_in}
use Rattle.zero_one_rows.specs.declared.row_lists.RowLists.{RowLists}
use Rattle.zero_one_rows.proofs.EveryRow.{listed_has}
use Rattle.zero_one_model.proofs.model.Model.row_at.Goals as goal

pub at-requires : goal.at-requires
at-requires c =
    let same : all_rows c.args.self.now ≡ rows_in c.self.inside.lists = ap all_rows (sym c.self.view_is) ∙ ap rows_in (sym c.self.invariant.lists) in
    record {
      inside = subst (λ (rs : List Row). c.args.k < length rs) same c.requires;
      few = subst (λ (r : RowLists). length (rows_in r) ≤ 2000000) (sym c.self.invariant.lists) c.self.invariant.within.rows;
      base = c.self.invariant.base ∙ ap (λ (r : RowLists). length (base_in r)) (sym c.self.invariant.lists);
    }

pub returns-clause-place : goal.returns-clause-place
returns-clause-place c =
    let same : all_rows c.args.self.now ≡ rows_in c.self.inside.lists = ap all_rows (sym c.self.view_is) ∙ ap rows_in (sym c.self.invariant.lists) in
    subst (λ (rs : List Row). slice_get rs c.args.k ≡ Some c.at.result) (sym same) c.at.ensures

pub returns-clause-has : goal.returns-clause-has
returns-clause-has c = listed_has c.args.self.now c.at.result (member_of (all_rows c.args.self.now) c.args.k c.at.result (returns-clause-place c))
