-- When no multiplier is worth raising.
use Rattle.std.specs.Prelude.{◌≡◌, ◌+◌, ◌<◌, ◌^◌, true, ◌≤ℤ◌}
use Rattle.proof_trees.specs.Boxes.{Box}
use Rattle.proof_trees.specs.Multipliers.{Multipliers, amount_of, with_amount, worth}
use Rattle.zero_one_rows.specs.declared.program.Row.{Row}
use Rattle.zero_one_rows.specs.Variables.{Voyage}
use Rattle.zero_one_rows.specs.Rows.{whole}
use Rattle.certificate.specs.Entries.{same_row}

-- no row's multiplier that is below 2^40, raised by 1, makes the box worth more
abbrev pub IsStuck : Voyage → Box → Multipliers Row → Type 0
IsStuck m b ms = (r : Row) → (whole m).has r ≡ true → amount_of same_row ms r < 2 ^ 40 → worth (whole m) b (with_amount same_row ms r (amount_of same_row ms r + 1)) ≤ℤ worth (whole m) b ms
