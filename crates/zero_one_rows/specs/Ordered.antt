-- The order of rows, and that the list of rows has every row of the program, once, in that order.
use Rattle.std.specs.Prelude.{◌≡◌, ℕ, ◌<◌, true, List, [], ◌∷◌, Contains, ◌⊎◌, ◌↔◌}
use Rattle.std.specs.List.{AllPairs}
use Rattle.zero_one_rows.specs.Chains.{IsBefore}
use Rattle.zero_one_rows.specs.declared.program.Row.{Row}
use Rattle.zero_one_rows.specs.declared.program.Row.TheVariants.{Flow, Start, Cell, Support, Twenty, Block, Hatch, Weight, Apart, Cross}
use Rattle.zero_one_rows.specs.Variables.{Voyage}
use Rattle.zero_one_rows.specs.Rows.{base, whole}
use Rattle.zero_one_rows.specs.Counted.{base_rows, all_rows}

-- the family's place among the ten
abbrev pub family : Row → ℕ
family (Flow q i g) = 0
family (Start q p) = 1
family (Cell i h) = 2
family (Support i h) = 3
family (Twenty i h) = 4
family (Block j h) = 5
family (Hatch w j h d) = 6
family (Weight i k) = 7
family (Apart i e p q) = 8
family (Cross l p c) = 9

-- its numbers
abbrev pub numbers : Row → List ℕ
numbers (Flow q i g) = q ∷ i ∷ g ∷ []
numbers (Start q p) = q ∷ p ∷ []
numbers (Cell i h) = i ∷ h ∷ []
numbers (Support i h) = i ∷ h ∷ []
numbers (Twenty i h) = i ∷ h ∷ []
numbers (Block j h) = j ∷ h ∷ []
numbers (Hatch w j h d) = w ∷ j ∷ h ∷ d ∷ []
numbers (Weight i k) = i ∷ k ∷ []
numbers (Apart i e p q) = i ∷ e ∷ p ∷ q ∷ []
numbers (Cross l p c) = l ∷ p ∷ c

-- by family, and then by the numbers
abbrev pub Precedes : Row → Row → Type 0
Precedes r s = (family r < family s) ⊎ ((family r ≡ family s) × IsBefore (numbers r) (numbers s))

abbrev pub ListsRows : Type 0
ListsRows = (m : Voyage) (r : Row) → Contains (all_rows m) r ↔ ((whole m).has r ≡ true)

abbrev pub ListsBaseRows : Type 0
ListsBaseRows = (m : Voyage) (r : Row) → Contains (base_rows m) r ↔ ((base m).has r ≡ true)

abbrev pub ListsInOrder : Type 0
ListsInOrder = (m : Voyage) → AllPairs Precedes (all_rows m)
