use Rattle.stow_data.proofs.CellLemmas.{elsewhere}
use Rattle.stow_data.proofs.cells.enter.Goals as goal

pub returns-clause-others : goal.returns-clause-others
returns-clause-others c = λ n ne. c.in_ok-insert.ensures.updates.2 n (elsewhere c.args.number n ne)
