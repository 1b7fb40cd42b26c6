-- The box of a voyage's departures.
use Rattle.std.specs.Prelude.{◌≡◌, ◌<◌, ℕ, Bool, true, false, List, Some, length, slice_get, pos}
use Rattle.stow_data.specs.Plans.{Plan}
use Rattle.proof_trees.specs.Program.{cost_of}
use Rattle.proof_trees.specs.Boxes.{Box, violated}
use Rattle.zero_one_rows.specs.declared.program.Row.{Row}
use Rattle.zero_one_rows.specs.Variables.{Voyage, calls, variables, var}
use Rattle.zero_one_rows.specs.Rows.{base, whole}
use Rattle.model_bridge.specs.Pairs.{each_kind, ones}
use Rattle.model_bridge.specs.Stays.{began, is_stay}

-- no row is violated in the box, a crossing row neither
abbrev pub BreaksNoRow : Voyage → Box → Type 0
BreaksNoRow m b = (r : Row) → (whole m).has r ≡ true → violated (whole m) b r ≡ false

-- its ones cost so much
abbrev pub Costs : Voyage → Box → ℕ → Type 0
Costs m b n = cost_of (base m) (ones b) ≡ pos n

-- it fixes each variable as the test says
pub record IsBoxOf (m : Voyage) (test : ℕ → Bool) (b : Box) : Type 0 where
  pub long : length b ≡ length (variables m)
  pub fixed : (v : ℕ) → v < length (variables m) → slice_get b v ≡ Some (Some (test v))

-- of the departures, with what is lifted between them, its ones are the stays
abbrev pub AreStays : Voyage → List Plan → List (List ℕ) → Box → Type 0
AreStays m plans lists b = IsBoxOf m (λ v. is_stay m.cargo (each_kind m) plans (calls m) (began m.cargo plans lists) (var m v)) b
