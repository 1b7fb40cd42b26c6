-- Lists that lie one after the other in one.
use Rattle.std.specs.Prelude.{◌≡◌, ℕ, zero, suc, ◌≤◌, List, [], ◌∷◌, length, slice_range}

-- from where one ends to where the next one ends
abbrev pub cut : {X : Type 0} → ℕ → List ℕ → List X → List (List X)
cut from [] xs = []
cut from (e ∷ es) xs = slice_range xs from e ∷ cut e es xs

-- the lists that end there
abbrev pub lists_in : {X : Type 0} → List ℕ → List X → List (List X)
lists_in ends xs = cut 0 ends xs

-- the ends rise, the last one to this
abbrev pub Rise : ℕ → List ℕ → ℕ → Type 0
Rise from [] to = from ≡ to
Rise from (e ∷ es) to = (from ≤ e) × Rise e es to

abbrev pub IsCut : {X : Type 0} → List ℕ → List X → Type 0
IsCut ends xs = Rise 0 ends (length xs)

-- where a list begins
abbrev pub begins : ℕ → List ℕ → ℕ → ℕ
begins from ends zero = from
begins from [] (suc i) = from
begins from (e ∷ es) (suc i) = begins e es i
