-- What is kept beside a box and multipliers: reduced costs and the dual value, and the sizes that keep them in range.
use Rattle.std.specs.Prelude.{◌≡◌, ℕ, ◌+◌, ◌<◌, ◌≤◌, ◌^◌, true, List, [], ◌∷◌, length, ℤ, pos, ◌+ℤ◌, ◌-ℤ◌, ◌*ℤ◌, unsigned_abs}
use Rattle.zero_one_rows.specs.declared.program.Row.{Row}
use Rattle.zero_one_rows.specs.Variables.{Voyage, variables}
use Rattle.zero_one_rows.specs.Rows.{whole}
use Rattle.proof_trees.specs.Program.{sum_to}
use Rattle.proof_trees.specs.Boxes.{Box, at}
use Rattle.proof_trees.specs.Multipliers.{Multipliers, amount_of, with_amount, least, weighed, weighed_rhs, worth}
use Rattle.certificate.specs.Entries.{same_row}
use Rattle.dual_bound.specs.Raising.{Lacks}
use Rattle.row_matrix.specs.declared.entries.Term.{Term}
use Rattle.row_matrix.specs.Terms.{AreTerms}
use Rattle.crossing_pricing.specs.Gaps.{number_at, gap}
use Rattle.dual_bound.specs.declared.costs.Costs.{Costs}

-- a row of the program, of the sizes that rows have
pub record IsSmall (m : Voyage) (r : Row) : Type 0 where
  pub named : (whole m).has r ≡ true
  pub right : unsigned_abs ((whole m).rhs r) ≤ 2 ^ 37
  pub coefs : (v : ℕ) → v < length (variables m) → unsigned_abs ((whole m).coef r v) ≤ 2 ^ 17

-- each is of such a row and at most 2^40, and each row stands once
abbrev pub AreSmall : Voyage → Multipliers Row → Type 0
AreSmall m [] = Unit {0}
AreSmall m (x ∷ xs) = IsSmall m x.0 × (x.1 ≤ 2 ^ 40) × Lacks xs x.0 × AreSmall m xs

-- a row of the program with its right side and terms
pub record IsListed (m : Voyage) (r : Row) (side : ℤ) (ts : List Term) : Type 0 where
  pub row : (whole m).has r ≡ true
  pub right : side ≡ (whole m).rhs r
  pub low : unsigned_abs side ≤ 2 ^ 37
  pub terms : AreTerms m r ts

-- the sum of what the variables gain where a row's multiplier changes by so much
abbrev pub gaps_of : Voyage → Box → List ℤ → Row → ℤ → ℤ
gaps_of m b ds r by = sum_to (length (variables m)) (λ v. gap (at b v) (number_at ds v) (by *ℤ (whole m).coef r v))

-- the sum of what the variables bring
abbrev pub parts : Voyage → Box → List ℤ → ℤ
parts m b ds = sum_to (length (variables m)) (λ v. least (at b v) (number_at ds v))

-- the value is that of the reduced costs
pub record Gauged (m : Voyage) (b : Box) (c : Costs) : Type 0 where
  pub len : length c.reduced.items ≡ length (variables m)
  pub value : c.value ≡ c.right +ℤ parts m b c.reduced.items

-- reduced costs and value are those of these multipliers
pub record Priced (m : Voyage) (b : Box) (ms : Multipliers Row) (c : Costs) : Type 0 where
  pub gauged : Gauged m b c
  pub right : c.right ≡ weighed_rhs (whole m) ms
  pub reduced : (v : ℕ) → v < length (variables m) → number_at c.reduced.items v ≡ pos 16 *ℤ (whole m).cost v -ℤ weighed (whole m) ms v
  pub small : AreSmall m ms

-- small enough for one more raise
pub record HasRoom (m : Voyage) (b : Box) (c : Costs) : Type 0 where
  pub gauged : Gauged m b c
  pub right : unsigned_abs c.right ≤ 2 ^ 98
  pub reduced : (v : ℕ) → v < length (variables m) → unsigned_abs (number_at c.reduced.items v) ≤ 2 ^ 79
  pub value : unsigned_abs c.value ≤ 2 ^ 100

-- some multipliers have these costs
abbrev pub PricedSome : Voyage → Box → Costs → Type 0
PricedSome m b c = (ms : Multipliers Row) × Priced m b ms c

-- this row's multiplier, raised by so much, makes the box worth so much more
abbrev pub Gains : Voyage → Box → Multipliers Row → Row → ℕ → ℤ → Type 0
Gains m b ms r more gain = worth (whole m) b (with_amount same_row ms r (amount_of same_row ms r + more)) ≡ worth (whole m) b ms +ℤ gain
