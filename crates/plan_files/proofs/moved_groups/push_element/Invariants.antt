use Rattle.std.proofs.Common.{◌≡◌, ◌≤◌, ◌∷◌, [], ◌++◌, map, take, drop}
use Rattle.std.specs.Prelude.{slice_index_or}
use Rattle.plan_files.proofs.moved_groups.push_element.Given as goal

abbrev pub invariant-loop-component : goal.invariant-loop-component
invariant-loop-component l = record {
  made : l.elements ≡ l.fn.elements ++ (map (λ c. c.now) l.first ++ drop l.from (take l.component (slice_index_or l.list l.element []))) ∷ [];
  above : l.from ≤ l.component;
}
