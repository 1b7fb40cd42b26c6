use Rattle.std.proofs.Common.{◌≡◌, ℕ, List, ◌++◌}
use Rattle.partial_plan.specs.Fixing.{Fixes}
use Rattle.partial_plan.specs.Tightening.{Tightens}
use Rattle.partial_plan.specs.PropagationState.{IsState, Rests, work}
use Rattle.partial_plan.proofs.state.PropagationState.tighten.Given as goal

abbrev pub invariant-loop-k : goal.invariant-loop-k
invariant-loop-k l = record {
  state : IsState l.matrix l.self;
  rests : Rests l.matrix l.self.b l.self.slacks;
  steps : Tightens l.matrix l.fn.self.b l.self.b l.fn.steps l.steps;
  noted : (xs : List ℕ) × (l.self.undo.items ≡ l.fn.self.undo.items ++ xs) × Fixes l.fn.self.b l.self.b xs;
}

abbrev pub decreases-loop-k : goal.decreases-loop-k
decreases-loop-k l = work l.matrix l.self
