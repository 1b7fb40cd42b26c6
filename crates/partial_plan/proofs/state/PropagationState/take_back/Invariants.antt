use Rattle.std.proofs.Common.{◌≡◌, ◌≤◌, length, take}
use Rattle.partial_plan.specs.Fixing.{released}
use Rattle.partial_plan.specs.PropagationState.{IsState}
use Rattle.partial_plan.proofs.state.PropagationState.take_back.Given as goal

abbrev pub invariant-loop-self : goal.invariant-loop-self
invariant-loop-self l = record {
  state : IsState l.matrix l.self;
  to : l.to ≤ length l.self.undo.items;
  freed : released l.self.b l.self.undo.items l.to ≡ released l.fn.self.b l.fn.self.undo.items l.to;
  kept : take l.to l.self.undo.items ≡ take l.to l.fn.self.undo.items;
}

abbrev pub decreases-loop-self : goal.decreases-loop-self
decreases-loop-self l = length l.self.undo.items
