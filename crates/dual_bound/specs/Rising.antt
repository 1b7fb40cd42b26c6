-- Rows whose multiplier can be raised with gain. No public clause cites this module.
use Rattle.std.specs.Prelude.{◌≡◌, true, false, ℕ, ◌+◌, ◌<◌, ◌≤◌, ◌^◌, ◌<ℤ◌, ◌≤ℤ◌}
use Rattle.zero_one_rows.specs.declared.program.Row.{Row}
use Rattle.zero_one_rows.specs.Variables.{Voyage}
use Rattle.zero_one_rows.specs.Rows.{whole, is_base}
use Rattle.proof_trees.specs.Boxes.{Box}
use Rattle.proof_trees.specs.Multipliers.{Multipliers, amount_of, with_amount, worth, Closes}
use Rattle.certificate.specs.Entries.{same_row}
use Rattle.dual_bound.specs.declared.rising.Rising.{Rising}
use Rattle.dual_bound.specs.declared.raising.Raised.{Raised}
use Rattle.dual_bound.specs.declared.raising.Raised.TheVariants.{Reached, Stuck, Spent, NoMemory}
use Rattle.certificate.specs.Stuck.{IsStuck}
use Rattle.dual_bound.specs.Costs.{IsListed}

-- with the row's multiplier raised by so much
abbrev pub raised_by : Multipliers Row → Row → ℕ → Multipliers Row
raised_by ms r more = with_amount same_row ms r (amount_of same_row ms r + more)

-- the row's multiplier is 2^40, or raised by 1 it doesn't make the box worth more
abbrev pub IsFlat : Voyage → Box → Multipliers Row → Row → Type 0
IsFlat m b ms r = amount_of same_row ms r < 2 ^ 40 → worth (whole m) b (raised_by ms r 1) ≤ℤ worth (whole m) b ms

-- no crossing row rises
abbrev pub AreCrossingFlat : Voyage → Box → Multipliers Row → Type 0
AreCrossingFlat m b ms = (r : Row) → is_base r ≡ false → (whole m).has r ≡ true → IsFlat m b ms r

-- the row's multiplier makes the box worth more when it is raised by 1, and when it is raised by so much, which keeps it in range
pub record RisesBy (m : Voyage) (b : Box) (ms : Multipliers Row) (r : Row) (more : ℕ) : Type 0 where
  pub some : 1 ≤ more
  pub low : amount_of same_row ms r + more ≤ 2 ^ 40
  pub one : worth (whole m) b ms <ℤ worth (whole m) b (raised_by ms r 1)
  pub much : worth (whole m) b ms <ℤ worth (whole m) b (raised_by ms r more)

-- a row with its right side and terms, which rises by so much
pub record Rises (m : Voyage) (b : Box) (ms : Multipliers Row) (c : Rising) : Type 0 where
  pub listed : IsListed m c.row c.right c.terms
  pub by : RisesBy m b ms c.row c.more

-- what an end of raising says of the multipliers that it leaves
abbrev pub Ends : Voyage → Box → Multipliers Row → ℕ → Raised → Type 0
Ends m b ms cut Reached = Closes (whole m) b ms cut
Ends m b ms cut Stuck = (Closes (whole m) b ms cut → ⊥) × IsStuck m b ms
Ends m b ms cut Spent = (Closes (whole m) b ms cut → ⊥) × (IsStuck m b ms → ⊥)
Ends m b ms cut NoMemory = Unit {0}
