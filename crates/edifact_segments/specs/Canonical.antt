-- Canonical form (ISO 9735): empty components at the end of an element and empty elements at the end
-- of a segment are dropped. An element without components is an empty one.
use Rattle.std.specs.Prelude.{ℕ, List, [], ◌∷◌, map}

-- a list in front of a trimmed one: an empty list in front of nothing is dropped
abbrev pub in_front : {A : Type 0} → List A → List (List A) → List (List A)
in_front [] [] = []
in_front [] (y ∷ ys) = [] ∷ y ∷ ys
in_front (b ∷ bs) ys = (b ∷ bs) ∷ ys

-- without the empty lists at the end
abbrev pub trimmed : {A : Type 0} → List (List A) → List (List A)
trimmed [] = []
trimmed (x ∷ xs) = in_front x (trimmed xs)

abbrev pub canonical : List (List (List ℕ)) → List (List (List ℕ))
canonical elements = trimmed (map trimmed elements)
