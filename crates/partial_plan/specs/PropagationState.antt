-- What holds of the propagation state of a kept box. No public clause cites this module.
use Rattle.std.specs.Prelude.{◌≡◌, ℕ, ◌+◌, ◌*◌, ◌<◌, ◌≤◌, true, false, All, None, length, slice_index_or, vec_capacity, ℤ, pos, ◌≤ℤ◌}
use Rattle.proof_trees.specs.Boxes.{Box, at}
use Rattle.zero_one_rows.specs.Variables.{Voyage, variables}
use Rattle.zero_one_rows.specs.Rows.{whole}
use Rattle.partial_plan.specs.Fixing.{free_in, released}
use Rattle.partial_plan.specs.Forced.{forces}
use Rattle.zero_one_rows.specs.Tightening.{IsQuiet}
use Rattle.row_matrix.specs.declared.slacks.Slacks.{Slacks}
use Rattle.partial_plan.specs.declared.state.PropagationState.{PropagationState}
use Rattle.row_matrix.specs.Terms.{count, row_at}
use Rattle.row_matrix.specs.Waiting.{number_at, waits_at, waiting_in}
use Rattle.row_matrix.specs.Following.{Holds}

-- what is still to be done
abbrev pub work : Voyage → PropagationState → ℕ
work m d = free_in d.b * (count m + 1) + waiting_in d.slacks.waits.items

-- what was fixed is of the box, and has room for all that is free; and where a place of the list is marked quiet, the box was quiet when the list was so long
pub record Trails (m : Voyage) (d : PropagationState) : Type 0 where
  pub inside : All (λ v. v < length d.b) d.undo.items
  pub room : length d.undo.items + free_in d.b ≤ length d.b
  pub capacity : length d.b ≤ vec_capacity d.undo
  pub marks : length d.quiet.items ≡ length d.b + 1
  pub quiet : (j : ℕ) → j ≤ length d.undo.items → slice_index_or d.quiet.items j false ≡ true → IsQuiet m (released d.b d.undo.items j)

pub record IsState (m : Voyage) (d : PropagationState) : Type 0 where
  pub holds : Holds m d.b d.slacks
  pub trails : Trails m d

-- base row k, with this slack, is neither violated nor forces a free variable
pub record CalmAt (m : Voyage) (b : Box) (s : ℤ) (k : ℕ) : Type 0 where
  pub met : pos 0 ≤ℤ s
  pub still : (v : ℕ) → v < length (variables m) → at b v ≡ None → forces s None ((whole m).coef (row_at m k) v) ≡ false

-- rows that don't wait are calm
abbrev pub Rests : Voyage → Box → Slacks → Type 0
Rests m b s = (k : ℕ) → k < count m → waits_at s.waits.items k ≡ false → CalmAt m b (number_at s.slack.items k) k
