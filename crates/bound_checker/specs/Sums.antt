-- What the checker keeps of a box and multipliers. No public clause cites this module.
use Rattle.std.specs.Prelude.{◌≡◌, ℕ, ◌+◌, ◌<◌, ◌≤◌, ◌^◌, true, false, cond, All, IfSome, Some, [], length}
use Rattle.zero_one_rows.specs.declared.program.Row.{Row}
use Rattle.zero_one_rows.specs.Variables.{Voyage, variables}
use Rattle.zero_one_rows.specs.Rows.{whole}
use Rattle.proof_trees.specs.Boxes.{Box, at}
use Rattle.proof_trees.specs.Multipliers.{Multipliers, amount_of}
use Rattle.certificate.specs.Entries.{same_row}
use Rattle.dual_bound.specs.Costs.{Priced}
use Rattle.dual_bound.specs.declared.costs.Costs.{Costs}
use Rattle.bound_checker.specs.declared.blank.Blank.{Blank}
use Rattle.bound_checker.specs.declared.sums.Aside.{Aside}
use Rattle.bound_checker.specs.declared.sums.Sums.{Sums}

-- the reduced costs are those of no multipliers, whatever the box
abbrev pub IsClean : Voyage → Costs → Type 0
IsClean m c = (b : Box) × Priced m b [] c

-- each variable is 0 in this box
pub record IsZero (m : Voyage) (b : Box) : Type 0 where
  pub whole : length b ≡ length (variables m)
  pub zero : (v : ℕ) → v < length (variables m) → at b v ≡ Some false

-- the costs of this box without multipliers, and others to begin with
pub record IsBlank (m : Voyage) (b : Box) (z : Blank) : Type 0 where
  pub here : Priced m b [] z.costs
  pub zero : IsZero m z.zero
  pub clean : All (IsClean m) z.spare.items

-- each row has the same multiplier in both
abbrev pub AreAmounts : Multipliers Row → Multipliers Row → Type 0
AreAmounts es ms = (r : Row) → amount_of same_row es r ≡ amount_of same_row ms r

-- these are the costs of these multipliers in some box
abbrev pub AreCostsOf : Voyage → Multipliers Row → Costs → Type 0
AreCostsOf m es c = (b : Box) × (ms : Multipliers Row) × Priced m b ms c × AreAmounts es ms

-- these are the costs of these multipliers, but for this row's
abbrev pub AreCostsWithout : Voyage → Box → Multipliers Row → Row → Costs → Type 0
AreCostsWithout m b ms r c = (ns : Multipliers Row) × Priced m b ns c × ((q : Row) → amount_of same_row ns q ≡ cond (same_row r q) 0 (amount_of same_row ms q))

-- these multipliers of this box are aside, and their costs, where they are kept
pub record IsAside (m : Voyage) (b : Box) (ms : Multipliers Row) (a : Aside) : Type 0 where
  pub amounts : AreAmounts a.amounts ms
  pub priced : IfSome a.costs (Priced m b ms)

-- they are those of some multipliers of some box
abbrev pub IsAsideSome : Voyage → Aside → Type 0
IsAsideSome m a = (b : Box) × (ms : Multipliers Row) × IsAside m b ms a

-- these multipliers may be added to those in hand
pub record AreToCome (m : Voyage) (rest here : Multipliers Row) : Type 0 where
  pub low : (r : Row) → amount_of same_row rest r + amount_of same_row here r ≤ 2 ^ 40
  pub named : (r : Row) → 0 < amount_of same_row rest r → (whole m).has r ≡ true

-- each row has as much as before in both together
abbrev pub HaveSum : Multipliers Row → Multipliers Row → Multipliers Row → Multipliers Row → Type 0
HaveSum rest here rest' here' = (r : Row) → amount_of same_row rest' r + amount_of same_row here' r ≡ amount_of same_row rest r + amount_of same_row here r

-- multipliers, reduced costs and dual value are those of this box and these multipliers, and the rows that are kept those of this voyage
pub record Carries (m : Voyage) (b : Box) (ms : Multipliers Row) (s : Sums) : Type 0 where
  pub whole : length b ≡ length (variables m)
  pub amounts : (r : Row) → amount_of same_row s.amounts r ≡ amount_of same_row ms r
  pub priced : Priced m b ms s.costs
  pub blank : IsBlank m b s.blank
  pub rows : s.rows ≡ m

-- they are those of some multipliers
abbrev pub CarriesSome : Voyage → Box → Sums → Type 0
CarriesSome m b s = (ms : Multipliers Row) × Carries m b ms s
