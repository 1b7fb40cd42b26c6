use Rattle.std.proofs.Common.{◌≡◌, ◌≤◌, ◌∙◌, ap, subst, sym, length, Some}
use Rattle.std.specs.Prelude.{slice_get}
use Rattle.stow_data.proofs.Members.{member_of}
use Rattle.zero_one_rows.specs.declared.row_lists.RowLists.{RowLists}
use Rattle.zero_one_rows.specs.Counted.{base_rows, base_in, rows_in}
use Rattle.zero_one_rows.specs.Variables.{Voyage}
use Rattle.zero_one_model.proofs.Chosen.{names_cells}
use Rattle.zero_one_model.proofs.Filed.{base_has}
use Rattle.zero_one_model.proofs.building.filed_rows.Goals as goal

pub file_rows-requires-clause-names : goal.file_rows-requires-clause-names
file_rows-requires-clause-names c k r h =
    let m : Voyage = record { ship = c.args.ship.now; cargo = c.args.cargo.now } in
    let at = subst (λ (l : RowLists). slice_get (base_in l) k ≡ Some r) c.in_ok-lists.ensures h in
    names_cells m c.obeys_rules.ensures c.requires.arrival r (base_has m r (member_of (base_rows m) k r at))

pub file_rows-requires-clause-few : goal.file_rows-requires-clause-few
file_rows-requires-clause-few c = subst (λ (l : RowLists). length (rows_in l) ≤ 2000000) (sym c.in_ok-lists.ensures) c.requires.few

pub file_rows-requires-clause-base : goal.file_rows-requires-clause-base
file_rows-requires-clause-base c = c.requires.base ∙ ap (λ (l : RowLists). length (base_in l)) (sym c.in_ok-lists.ensures)
