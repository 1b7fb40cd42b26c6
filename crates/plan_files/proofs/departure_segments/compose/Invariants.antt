use Rattle.std.proofs.Common.{◌≡◌, ◌∷◌, [], ◌++◌, map, take}
use Rattle.plan_files.proofs.departure_segments.compose.Given as goal

abbrev pub invariant-loop-component : goal.invariant-loop-component
invariant-loop-component l = l.elements ≡ l.fn.elements ++ map (λ c. c.now) (take l.component-index l.components) ∷ []
