-- The multipliers at a node, with what they add up to.
use Rattle.std.specs.Prelude.{◌≡◌, ℕ, ◌<◌, ◌≤◌, ◌^◌, Bool, true, false, All, List, [], ◌∷◌, length, map, slice_get, Option, Some, None, ℤ, ◌+ℤ◌, ◌*ℤ◌, unsigned_abs}
use Rattle.zero_one_rows.specs.declared.program.Row.{Row}
use Rattle.zero_one_rows.specs.declared.program.Raise.{Raise}
use Rattle.zero_one_rows.specs.Variables.{Voyage, variables}
use Rattle.zero_one_rows.specs.Rows.{whole}
use Rattle.zero_one_rows.specs.Counted.{all_rows}
use Rattle.proof_trees.specs.Multipliers.{Multipliers, amount_of, dot, raised_all}
use Rattle.certificate.specs.Entries.{same_row, raise_of}
use Rattle.crossing_pricing.specs.Gaps.{number_at}
use Rattle.dual_bound.specs.Raising.{Lacks}
use Rattle.event_search.specs.declared.tally.Tally.{Tally}

-- each is a raise of a row of the program
abbrev pub AreNamed : Voyage → List Raise → Type 0
AreNamed m raises = All (λ r. (whole m).has r.row ≡ true) raises

-- the raises lead from the first multipliers to the second, none of which leaves its range
abbrev pub Leads : Multipliers Row → List Raise → Multipliers Row → Type 0
Leads ms raises ns = raised_all same_row (Some ms) (map raise_of raises) ≡ Some ns

abbrev pub LeadsOn : Multipliers Row → List Raise → Type 0
LeadsOn ms raises = (ns : Multipliers Row) × Leads ms raises ns

module _ (m : Voyage) where
  -- each multiplier is in its range and of a row of the program with a small number, and each row stands once
  abbrev pub AreLow : (Row → ℤ) → Multipliers Row → Type 0
  AreLow f [] = Unit {0}
  AreLow f (x ∷ xs) = ((whole m).has x.0 ≡ true) × (unsigned_abs (f x.0) ≤ 2 ^ 37) × (x.1 ≤ 2 ^ 40) × Lacks xs x.0 × AreLow f xs

  -- the sum of the rows' numbers, each times its row's multiplier
  pub record IsSum (f : Row → ℤ) (ms : Multipliers Row) (sum : ℤ) : Type 0 where
    pub low : AreLow f ms
    pub total : sum ≡ dot ms f

  -- one number for each row, and one for each variable
  pub record IsSized (t : Tally) : Type 0 where
    pub rows : length t.amounts ≡ length (all_rows m)
    pub vars : length t.weights.items ≡ length (variables m)

  -- these are the multipliers, and the sums are theirs
  pub record Tallies (ms : Multipliers Row) (t : Tally) : Type 0 where
    pub sized : IsSized t
    pub amounts : (k : ℕ) (r : Row) → slice_get (all_rows m) k ≡ Some r → slice_get t.amounts k ≡ Some (amount_of same_row ms r)
    pub right : IsSum (whole m).rhs ms t.right
    pub weights : (x : ℕ) → x < length (variables m) → IsSum (λ r. (whole m).coef r x) ms (number_at t.weights.items x)

  abbrev pub TalliesSome : Tally → Type 0
  TalliesSome t = (ms : Multipliers Row) × Tallies ms t

  -- the tally is that of the multipliers, if there are any
  abbrev pub Follows : Option (Multipliers Row) → Tally → Bool → Type 0
  Follows o t true = (ms : Multipliers Row) × (o ≡ Some ms) × Tallies ms t
  Follows o t false = o ≡ None

  -- the sums with a raise of a row more; its numbers are small
  pub record AddsTo (r : Raise) (old new : Tally) : Type 0 where
    pub vars : length new.weights.items ≡ length (variables m)
    pub right : new.right ≡ old.right +ℤ r.amount *ℤ (whole m).rhs r.row
    pub small : unsigned_abs ((whole m).rhs r.row) ≤ 2 ^ 37
    pub weights : (x : ℕ) → x < length (variables m) → number_at new.weights.items x ≡ number_at old.weights.items x +ℤ r.amount *ℤ (whole m).coef r.row x
    pub coefs : (x : ℕ) → x < length (variables m) → unsigned_abs ((whole m).coef r.row x) ≤ 2 ^ 37
