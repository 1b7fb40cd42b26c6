use Rattle.std.proofs.Common.{◌≡◌, ℕ, List, ◌++◌, drop}
use Rattle.partial_plan.specs.Fixing.{Fixes}
use Rattle.node_work.specs.Adopting.{adopted_all}
use Rattle.node_work.proofs.retracing.adopt.Given as goal

abbrev pub invariant-loop-x : goal.invariant-loop-x
invariant-loop-x l = record {
  same : l.kept.voyage ≡ l.fn.kept.voyage;
  rest : adopted_all l.kept.known l.b (drop l.x-index l.vars) ≡ l.b;
  noted : (xs : List ℕ) × (l.kept.undo ≡ l.fn.kept.undo ++ xs) × Fixes l.fn.kept.known l.kept.known xs;
}
