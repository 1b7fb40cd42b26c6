-- What the checker keeps of multipliers while they are changed and taken back. No public clause cites this module.
use Rattle.std.specs.Prelude.{◌≡◌, ◌≢◌, List, Result, Ok, Err}
use Rattle.zero_one_rows.specs.declared.program.Row.{Row}
use Rattle.zero_one_rows.specs.Variables.{Voyage}
use Rattle.proof_trees.specs.Boxes.{Box}
use Rattle.proof_trees.specs.Multipliers.{Multipliers}
use Rattle.certificate.specs.declared.refusals.BoundNo.{BoundNo}
use Rattle.certificate.specs.declared.refusals.BoundNo.TheVariants.{NoMemory}
use Rattle.bound_checker.specs.declared.prices.Change.{Change}
use Rattle.bound_checker.specs.declared.prices.Prices.{Prices}
use Rattle.bound_checker.specs.Sums.{Carries}
use Rattle.bound_checker.specs.Waits.{Moves}

-- the sums are those of this box and these multipliers, which came from the first ones by the changes noted since
pub record Holds (m : Voyage) (b : Box) (first : Multipliers Row) (k : List Change) (ms : Multipliers Row) (p : Prices) : Type 0 where
  pub carries : Carries m b ms p.sums
  pub moves : Moves m first k ms p.changes.items

abbrev pub HoldsSome : Voyage → Box → Multipliers Row → List Change → Prices → Type 0
HoldsSome m b first k p = (ms : Multipliers Row) × Holds m b first k ms p

-- an answer where this is the multipliers' lawful end; want of memory is free
abbrev pub Ends : (Multipliers Row → Type 0) → Result (Multipliers Row) BoundNo → Result (Unit {0}) BoundNo → Type 0
Ends H (Ok ms) (Ok u) = H ms
Ends H (Ok ms) (Err f) = f ≡ NoMemory
Ends H (Err f) (Ok u) = ⊥
Ends H (Err f) (Err g) = g ≢ NoMemory → g ≡ f

abbrev pub Held : (Multipliers Row → Type 0) → Result (Multipliers Row) BoundNo → Type 0
Held H (Ok ms) = H ms
Held H (Err f) = ⊥
