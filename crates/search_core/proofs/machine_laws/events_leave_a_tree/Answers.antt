use Rattle.std.proofs.Common.{ℕ, zero, suc, ◌<◌, Bool, List, [], arith}
use Rattle.proof_trees.specs.Program.{Program}
use Rattle.search_core.specs.Machine.{Event, State, begin, Runs}
use Rattle.search_core.specs.Outcomes.{Traces}
use Rattle.search_core.proofs.Rule.{OffersSolve, keeps_begin}
use Rattle.search_core.proofs.FullBoxes.{offers_solve}
use Rattle.search_core.proofs.EndedEntries.{allowed_lesser, traces_begin, traces_run, traces_whole}
use Rattle.search_core.proofs.machine_laws.events_leave_a_tree.Goals as goal

from_begin : {R : Type 0} (same : R → R → Bool) (p : Program R) (base : List R) → OffersSolve same p base → (workers start budget : ℕ) (events : List (Event R)) (last : State R) → 0 < workers
    → Runs same p base (begin workers start budget) events last → Traces same p last
from_begin same p base solves zero start budget events last lt run = absurd (omega arith)
from_begin same p base solves (suc n) start budget events last lt run = traces_run same p base _ last events solves (keeps_begin same p base n start budget) (traces_begin same p base n start budget) run

pub returns-clause-run : goal.returns-clause-run
returns-clause-run g c = λ same p base solves costs workers start budget events last lt run. from_begin same p base (offers_solve same p base solves costs) workers start budget events last lt run

pub returns-clause-outcome : goal.returns-clause-outcome
returns-clause-outcome g c = λ same p state none traces. traces_whole same p [] state none traces

pub returns-clause-lesser : goal.returns-clause-lesser
returns-clause-lesser g c = λ same p less bound le q e allowed. allowed_lesser same p [] less bound le q e allowed
