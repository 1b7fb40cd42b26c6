-- The bays of a picture (ISO 9711).
use Rattle.std.specs.Prelude.{ℕ, zero, suc, ◌++◌, ◌+◌, ◌-◌, ◌*◌, ◌%◌, ◌==◌, Bool, List, [], ◌∷◌, map, if◌then◌else◌}
use Rattle.std.specs.List.{list_any}
use Rattle.baplie.specs.declared.parts.CellGroup.{CellGroup}

abbrev pub has : List ℕ → ℕ → Bool
has numbers n = list_any (λ m. m == n) numbers

abbrev pub has_bay : List CellGroup → ℕ → Bool
has_bay groups bay = list_any (λ g. g.bay == bay) groups

abbrev pub number_if : Bool → ℕ → List ℕ
number_if on n = if on then n ∷ [] else []

-- of the first even numbers, so many from 0 on, those that pass
unfoldable pub evens : (ℕ → Bool) → ℕ → List ℕ
evens P zero = []
evens P (suc n) = evens P n ++ number_if (P (2 * n)) (2 * n)

-- the bays of 40 foot that the message names
abbrev pub long_bays : List CellGroup → List ℕ
long_bays groups = evens (has_bay groups) 501

-- The bay of 40 foot that a bay is drawn in. An odd bay is the fore half of the one behind it or the aft half of the one before it, whichever the message names; where it names neither, 1 and 3 are drawn in 2, 5 and 7 in 6 and so on.
abbrev pub home_of : List ℕ → ℕ → ℕ
home_of longs bay =
    if bay % 2 == 0 then bay else (if has longs (bay + 1) then bay + 1 else (if has longs (bay - 1) then bay - 1 else (if bay % 4 == 1 then bay + 1 else bay - 1)))

abbrev pub homes : List ℕ → List CellGroup → List ℕ
homes longs groups = map (λ g. home_of longs g.bay) groups

-- the bays that are drawn, from fore to aft
abbrev pub drawn_bays : List CellGroup → List ℕ
drawn_bays groups = evens (has (homes (long_bays groups) groups)) 501
