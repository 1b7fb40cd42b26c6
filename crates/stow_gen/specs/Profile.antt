-- The profile of the made ship: four bays of four rows, in the hold and on deck, and a cover for each bay.
use Rattle.std.specs.Prelude.{ℕ, codes, List, [], ◌∷◌, ◌++◌, flat_map}
use Rattle.stow_gen.specs.Words.{raw, told}

abbrev pub bays : List ℕ
bays = 2 ∷ 6 ∷ 10 ∷ 14 ∷ []

abbrev pub rows : List ℕ
rows = 1 ∷ 2 ∷ 3 ∷ 4 ∷ []

-- a stack, of which the rest is said alike in the hold or on deck
abbrev pub stack_text : List ℕ → ℕ → ℕ → List ℕ
stack_text rest bay row = told (codes "[[stack]]\nbay = ") bay ++ told (codes "\nrow = ") row ++ raw rest

-- the stacks of a bay, and of all bays
abbrev pub bay_text : List ℕ → ℕ → List ℕ
bay_text rest bay = flat_map (stack_text rest bay) rows

abbrev pub stacks_text : List ℕ → List ℕ
stacks_text rest = flat_map (bay_text rest) bays

abbrev pub in_hold : List ℕ
in_hold = codes "\ntiers = [2, 4, 6]\nlengths = \"40\"\nlimit_kg = 90000\n"

abbrev pub on_deck : List ℕ
on_deck = codes "\ntiers = [82, 84, 86]\nlengths = \"40\"\nlimit_kg = 90000\nplugs = [82]\n"

-- the four rows of a bay, as pairs
unfoldable pub pairs_text : ℕ → List ℕ
pairs_text bay = told (codes "[[") bay ++ told (codes ", 1], [") bay ++ told (codes ", 2], [") bay ++ told (codes ", 3], [") bay ++ raw (codes ", 4]]")

-- the cover of a bay: its stacks in the hold under it, those on deck on it
abbrev pub cover_text : ℕ → List ℕ
cover_text bay = raw (codes "[[cover]]\nunder = ") ++ pairs_text bay ++ raw (codes "\non = ") ++ pairs_text bay ++ raw (codes "\n")

unfoldable pub profile_text : List ℕ
profile_text = raw (codes "name = \"FEEDER\"\nweight_step = 5000\n") ++ stacks_text in_hold ++ stacks_text on_deck ++ flat_map cover_text bays
