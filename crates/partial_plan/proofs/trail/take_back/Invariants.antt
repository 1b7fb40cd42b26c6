use Rattle.std.proofs.Common.{◌≡◌, ◌≤◌, ◌<◌, length, take, drop, All}
use Rattle.partial_plan.specs.Fixing.{released}
use Rattle.partial_plan.proofs.trail.take_back.Given as goal

abbrev pub invariant-loop-undo : goal.invariant-loop-undo
invariant-loop-undo l = record {
  to : l.to ≤ length l.undo-inside.vars.items;
  freed : released l.b l.undo-inside.vars.items l.to ≡ released l.fn.b l.fn.undo l.to;
  kept : take l.to l.undo-inside.vars.items ≡ take l.to l.fn.undo;
  inside : All (λ v. v < length l.b) (drop l.to l.undo-inside.vars.items);
}

abbrev pub decreases-loop-undo : goal.decreases-loop-undo
decreases-loop-undo l = length l.undo-inside.vars.items
