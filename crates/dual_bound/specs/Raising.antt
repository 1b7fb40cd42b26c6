-- The multipliers that rows of a voyage's program may have, and raises of them that raise the dual value of a box.
use Rattle.std.specs.Prelude.{◌≡◌, ℕ, ◌≤◌, ◌^◌, true, false, All, List, [], ◌∷◌, ◌++◌, length, map, Some, unsigned_abs, ◌<ℤ◌}
use Rattle.zero_one_rows.specs.declared.program.Row.{Row}
use Rattle.zero_one_rows.specs.declared.program.Raise.{Raise}
use Rattle.zero_one_rows.specs.Variables.{Voyage}
use Rattle.zero_one_rows.specs.Rows.{whole}
use Rattle.proof_trees.specs.Boxes.{Box}
use Rattle.proof_trees.specs.Multipliers.{Multipliers, raised, raised_all, worth}
use Rattle.certificate.specs.Entries.{same_row, raise_of}

-- none of these is a multiplier of this row
abbrev pub Lacks : Multipliers Row → Row → Type 0
Lacks [] r = Unit {0}
Lacks (x ∷ xs) r = (same_row x.0 r ≡ false) × Lacks xs r

-- each is of a row of the program and at most 2^40, and each row stands once
abbrev pub AreMultipliers : Voyage → Multipliers Row → Type 0
AreMultipliers m [] = Unit {0}
AreMultipliers m (x ∷ xs) = ((whole m).has x.0 ≡ true) × (x.1 ≤ 2 ^ 40) × Lacks xs x.0 × AreMultipliers m xs

-- a raise of a row of the program, by at most 2^40
pub record IsRaise (m : Voyage) (r : Raise) : Type 0 where
  pub row : (whole m).has r.row ≡ true
  pub amount : unsigned_abs r.amount ≤ 2 ^ 40

-- each raise leads to multipliers with which the box is worth more, by at least 1
abbrev pub RiseAll : Voyage → Box → Multipliers Row → List Raise → Type 0
RiseAll m b ms [] = Unit {0}
RiseAll m b ms (r ∷ rs) = (ns : Multipliers Row) × (raised same_row ms r.row r.amount ≡ Some ns) × (worth (whole m) b ms <ℤ worth (whole m) b ns) × RiseAll m b ns rs

-- the second list of raises is the first with some more, at most so many, which lead from the first multipliers to the second and each raise the dual value
pub record Raises (m : Voyage) (b : Box) (most : ℕ) (ms ns : Multipliers Row) (old new : List Raise) : Type 0 where
  pub made : List Raise
  pub added : new ≡ old ++ made
  pub rows : All (IsRaise m) made
  pub few : length made ≤ most
  pub to : raised_all same_row (Some ms) (map raise_of made) ≡ Some ns
  pub rise : RiseAll m b ms made
