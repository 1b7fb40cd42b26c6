use Rattle.std.proofs.Common.{◌≡◌, ◌≢◌, ℕ, Bool, Some, pos, ◌≤ℤ◌}
use Rattle.proof_trees.specs.Program.{cost_of}
use Rattle.zero_one_rows.specs.Rows.{base, IsSolution, CrossingRowsHold}
use Rattle.certificate.specs.declared.refusals.BoundNo.{BoundNo}
use Rattle.certificate.specs.declared.refusals.BoundNo.TheVariants.{NoMemory}
use Rattle.bound_checker.specs.Entries.{ProvesBound, IsBestBound}
use Rattle.bound_checker.specs.Faults.{first_fault}
use Rattle.bound_checker.proofs.Bounding.{bounds, proves_nowhere, if_err_other, if_ok_other, best_of}
use Rattle.bound_checker.proofs.check.best_bound.Goals as goal

pub returns-clause-best : goal.returns-clause-best
returns-clause-best c = if_ok_other _ _ (best_of c.args.model.now c.args.tree.now c.args.most) c.walk_tree.result c.walk_tree.ensures.best

pub returns-clause-costs : goal.returns-clause-costs
returns-clause-costs c =
    if_ok_other (IsBestBound c.args.model.now c.args.tree.now c.args.most) (λ (best : ℕ). CrossingRowsHold c.args.model.now → (x : ℕ → Bool) → IsSolution c.args.model.now x → pos best ≤ℤ cost_of (base c.args.model.now) x)
    (λ best is. bounds c.args.model.now c.args.tree.now best is.proves) c.walk_tree.result (returns-clause-best c)

pub returns-clause-short : goal.returns-clause-short
returns-clause-short c =
    if_err_other (λ (f : BoundNo). f ≢ NoMemory → first_fault c.args.model.now c.args.tree.now 0 ≡ Some f) (λ (f : BoundNo). f ≢ NoMemory → ProvesBound c.args.model.now c.args.tree.now 0 → ⊥)
    (λ f some other. proves_nowhere c.args.model.now c.args.tree.now 0 f (some other)) c.walk_tree.result c.walk_tree.ensures.refused
