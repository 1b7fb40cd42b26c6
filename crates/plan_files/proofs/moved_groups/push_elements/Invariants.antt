use Rattle.std.proofs.Common.{◌≡◌, ◌≤◌, ◌++◌, take, drop}
use Rattle.plan_files.proofs.moved_groups.push_elements.Given as goal

abbrev pub invariant-loop-element : goal.invariant-loop-element
invariant-loop-element l = record { made : l.elements ≡ l.fn.elements ++ drop l.from (take l.element l.list); above : l.from ≤ l.element }
