-- A list that is cut into pieces, each of which is told by the place where it begins.
use Rattle.std.specs.Prelude.{ℕ, ◌≤◌, List, [], ◌∷◌, length, slice_range}

-- where a piece ends: where the next one begins, and the last at the end n
abbrev pub first_or : List ℕ → ℕ → ℕ
first_or [] n = n
first_or (s ∷ ss) n = s

-- the places ascend, up to the end n
abbrev pub IsAscending : List ℕ → ℕ → Type 0
IsAscending [] n = Unit {0}
IsAscending (s ∷ ss) n = (s ≤ first_or ss n) × IsAscending ss n

-- the pieces that begin at these places
abbrev pub pieces : {A : Type 0} → List ℕ → List A → List (List A)
pieces [] xs = []
pieces (s ∷ ss) xs = slice_range xs s (first_or ss (length xs)) ∷ pieces ss xs

-- the list with its last item changed
abbrev pub on_last : {A : Type 0} → (A → A) → List A → List A
on_last f [] = []
on_last f (x ∷ []) = f x ∷ []
on_last f (x ∷ y ∷ ys) = x ∷ on_last f (y ∷ ys)
