-- What is printed of a bay plan.
use Rattle.std.specs.Prelude.{ℕ, ◌^◌, ◌<◌, Bool, codes, List, [], ◌∷◌, ◌++◌, length, flat_map, count_by, All, Option, Some, None, is_some}
use Rattle.std.specs.Fmt.{decimal}
use Rattle.std.specs.List.{sum_by}
use Rattle.stow_data.specs.declared.geometry.Length.{Length}
use Rattle.stow_data.specs.declared.geometry.Length.TheVariants.{Twenty, Forty}
use Rattle.baplie.specs.declared.parts.Facts.{Facts}
use Rattle.baplie.specs.declared.parts.CellGroup.{CellGroup}
use Rattle.baplie.specs.Texts.{cell_digits}

-- a bay below 1,000, a row and a tier below 100
abbrev pub IsCell : CellGroup → Type 0
IsCell g = (g.bay < 1000) × (g.row < 100) × (g.tier < 100)

-- fewer than 2^32 groups, each of a cell
pub record AreListable (groups : List CellGroup) : Type 0 where
  pub few : length groups < 2 ^ 32
  pub cells : All IsCell groups

-- a length in feet, between spaces
abbrev pub length_text : Length → List ℕ
length_text Twenty = codes " 20 "
length_text Forty = codes " 40 "

-- the number, the length, the port of discharge and the kilograms of a container
abbrev pub facts_text : Facts → List ℕ
facts_text f = 32 ∷ f.id ++ length_text f.long ++ f.dest ++ 32 ∷ decimal f.kg ++ 10 ∷ []

abbrev pub shown : Option Facts → List ℕ
shown None = codes " empty\n"
shown (Some f) = facts_text f

abbrev pub group_text : CellGroup → List ℕ
group_text g = cell_digits g.bay g.row g.tier ++ shown g.facts

-- ## Totals

abbrev pub holds : CellGroup → Bool
holds g = is_some g.facts

abbrev pub weight : Option Facts → ℕ
weight None = 0
weight (Some f) = f.kg

abbrev pub kilograms : CellGroup → ℕ
kilograms g = weight g.facts

abbrev pub total_line : List ℕ → ℕ → List ℕ
total_line word n = word ++ decimal n ++ 10 ∷ []

-- a line for each group, and then the totals
abbrev pub listing_text : List CellGroup → List ℕ
listing_text groups = flat_map group_text groups ++ total_line (codes "containers ") (count_by holds groups) ++ total_line (codes "kilograms ") (sum_by kilograms groups)
