-- Where a row's multiplier stands, and what adding to it answers.
use Rattle.std.specs.Prelude.{◌≡◌, ℕ, ◌^◌, cond, nat_le, Option, Some, None, Result, Ok, Err, slice_index_or, ℤ, pos, negsuc}
use Rattle.std.specs.List.{position}
use Rattle.zero_one_rows.specs.declared.program.Row.{Row}
use Rattle.zero_one_rows.specs.declared.program.Row.TheVariants.{Flow}
use Rattle.proof_trees.specs.Multipliers.{Multipliers}
use Rattle.certificate.specs.Entries.{same_row}
use Rattle.dual_bound.specs.declared.multipliers.AddNo.{AddNo}
use Rattle.dual_bound.specs.declared.multipliers.AddNo.TheVariants.{OutOfRange, NoMemory}

-- the place of a row among those that have multipliers
abbrev pub place_in : Multipliers Row → Row → Option ℕ
place_in ms r = position (λ (e : Row × ℕ). same_row e.0 r) ms

-- the multiplier that stands at a place, or 0
abbrev pub amount_there : Multipliers Row → Option ℕ → ℕ
amount_there ms (Some k) = (slice_index_or ms k (Flow 0 0 0, 0)).1
amount_there ms None = 0

-- a multiplier's range
abbrev pub in_range : ℤ → Option ℕ
in_range (pos n) = cond (nat_le n (2 ^ 40)) (Some n) None
in_range (negsuc n) = None

-- the multipliers with the row's changed, where that stays in 0 to 2^40; after a refusal they are as before
abbrev pub Adds : Option (Multipliers Row) → Multipliers Row → Multipliers Row → Result (Unit {0}) AddNo → Type 0
Adds o old new (Ok u) = o ≡ Some new
Adds o old new (Err OutOfRange) = (o ≡ None) × (new ≡ old)
Adds (Some ms) old new (Err NoMemory) = new ≡ old
Adds None old new (Err NoMemory) = ⊥
