-- What a look at a row finds. No public clause cites this module.
use Rattle.std.specs.Prelude.{◌≡◌, ℕ, ◌<◌, true, false, All, List, length, slice_index_or, ℤ}
use Rattle.proof_trees.specs.Boxes.{Box, at, violated}
use Rattle.zero_one_rows.specs.Variables.{Voyage}
use Rattle.zero_one_rows.specs.Rows.{base, whole}
use Rattle.partial_plan.specs.declared.tightening.Tightened.{Tightened}
use Rattle.partial_plan.specs.declared.tightening.Tightened.TheVariants.{Quiet, Violated, NoMemory}
use Rattle.partial_plan.specs.Forced.{forces}
use Rattle.zero_one_rows.specs.Tightening.{IsQuiet}
use Rattle.row_matrix.specs.declared.entries.Term.{Term}

-- a row of these terms with this slack forces none of its variables, or one
abbrev pub NoneForced : Box → ℤ → List Term → Type 0
NoneForced b s ts = All (λ t. forces s (at b t.at) t.by ≡ false) ts

abbrev pub AnyForced : Box → ℤ → List Term → Type 0
AnyForced b s ts = (i : ℕ) × (t : Term) × (i < length ts) × (slice_index_or ts i t ≡ t) × (forces s (at b t.at) t.by ≡ true)

-- how tightening ends
abbrev pub Ends : Voyage → Box → Tightened → Type 0
Ends m b Quiet = IsQuiet m b
Ends m b (Violated r) = ((base m).has r ≡ true) × (violated (whole m) b r ≡ true)
Ends m b NoMemory = Unit {0}
