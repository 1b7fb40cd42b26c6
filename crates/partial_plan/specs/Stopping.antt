-- What ends tightening before the box is quiet. No public clause cites this module.
use Rattle.std.specs.Prelude.{◌≡◌, true}
use Rattle.proof_trees.specs.Boxes.{Box, violated}
use Rattle.zero_one_rows.specs.Variables.{Voyage}
use Rattle.zero_one_rows.specs.Rows.{base, whole}
use Rattle.partial_plan.specs.declared.tightening.Stop.{Stop}
use Rattle.partial_plan.specs.declared.tightening.Stop.TheVariants.{Violated, NoMemory}

-- a base row that is violated, or want of memory
abbrev pub Stops : Voyage → Box → Stop → Type 0
Stops m b (Violated r) = ((base m).has r ≡ true) × (violated (whole m) b r ≡ true)
Stops m b NoMemory = Unit {0}
