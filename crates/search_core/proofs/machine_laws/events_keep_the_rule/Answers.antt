use Rattle.std.proofs.Common.{ℕ, zero, suc, ◌<◌, Bool, [], arith}
use Rattle.proof_trees.specs.Program.{Program}
use Rattle.search_core.specs.Machine.{begin, ObeysRule}
use Rattle.search_core.proofs.Rule.{keeps_begin, keeps_event, keeps_run}
use Rattle.search_core.proofs.FullBoxes.{offers_solve}
use Rattle.search_core.proofs.machine_laws.events_keep_the_rule.Goals as goal

begins_well : {R : Type 0} (same : R → R → Bool) (p : Program R) (workers start budget : ℕ) → 0 < workers → ObeysRule same p (begin workers start budget)
begins_well same p zero start budget lt = absurd (omega arith)
begins_well same p (suc n) start budget lt = keeps_begin same p [] n start budget

pub returns-clause-begins : goal.returns-clause-begins
returns-clause-begins g c = λ same p workers start budget lt. begins_well same p workers start budget lt

pub returns-clause-step : goal.returns-clause-step
returns-clause-step g c = λ same p base solves costs before after event keeps accepts. keeps_event same p base before after event (offers_solve same p base solves costs) keeps accepts

pub returns-clause-run : goal.returns-clause-run
returns-clause-run g c = λ same p base solves costs workers start budget events last lt run.
    keeps_run same p base _ last events (offers_solve same p base solves costs) (begins_well same p workers start budget lt) run
