use Rattle.std.proofs.Common.{◌≡◌, ◌≤◌, ◌∙◌, List, ap, sym, subst, length, AllPairs}
use Rattle.zero_one_rows.specs.declared.program.Row.{Row}
use Rattle.zero_one_rows.specs.Counted.{all_rows, base_in, rows_in}
use Rattle.zero_one_rows.specs.Ordered.{Precedes}
use Rattle.zero_one_rows.specs.declared.row_lists.RowLists.{RowLists}
use Rattle.zero_one_rows.proofs.InOrder.{rows_rise}
use Rattle.zero_one_model.proofs.Kept.{numbered}
use Rattle.zero_one_model.proofs.model.Model.row_number.Goals as goal

pub number-requires : goal.number-requires
number-requires c =
    let same : all_rows c.args.self.now ≡ rows_in c.self.inside.lists = ap all_rows (sym c.self.view_is) ∙ ap rows_in (sym c.self.invariant.lists) in
    record {
      few = subst (λ (r : RowLists). length (rows_in r) ≤ 2000000) (sym c.self.invariant.lists) c.self.invariant.within.rows;
      base = c.self.invariant.base ∙ ap (λ (r : RowLists). length (base_in r)) (sym c.self.invariant.lists);
      all = c.self.invariant.rows ∙ ap (λ (r : RowLists). length (rows_in r)) (sym c.self.invariant.lists);
      order = subst (λ (rs : List Row). AllPairs Precedes rs) same (rows_rise c.args.self.now);
    }

pub returns : goal.returns
returns c = numbered c.args.self.now c.number.result (rows_in c.self.inside.lists) c.args.r.now (ap rows_in c.self.invariant.lists ∙ ap all_rows c.self.view_is) c.number.ensures
