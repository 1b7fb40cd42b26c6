use Rattle.row_matrix.proofs.building.signed_rows.Goals as goal

pub returns-in-Ok : goal.returns-in-Ok
returns-in-Ok c =
    record {
      plus = c.in_ok-plus.ensures.lists;
      minus = c.in-Ok.ensures.lists;
      plus_rows = c.in_ok-plus.ensures.turned;
      minus_rows = c.in-Ok.ensures.turned;
    }
