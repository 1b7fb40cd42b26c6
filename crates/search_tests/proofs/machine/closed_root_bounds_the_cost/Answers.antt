use Rattle.std.proofs.Common.{[], ◌∷◌, arith}
use Rattle.proof_trees.specs.Program.{cost_of}
use Rattle.proof_trees.specs.OneVariable.{one_variable}
use Rattle.search_core.specs.Samples.{same_number, closing_run, closed}
use Rattle.search_core.proofs.Samples.{run_closes, row_solves, costs_positive, nothing_open, at_least}
use Rattle.search_tests.proofs.machine.closed_root_bounds_the_cost.Goals as goal

pub returns : goal.returns
returns c = λ x sol. at_least (cost_of one_variable x) (λ cheap.
    let rule = c.events_keep_the_rule.ensures.run same_number one_variable (0 ∷ []) row_solves costs_positive 1 1 1 closing_run closed (omega arith) run_closes in
    let found = rule.cover x sol cheap in
    nothing_open found.0 found.1)
