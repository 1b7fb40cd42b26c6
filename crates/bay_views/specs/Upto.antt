-- Lists made of the numbers below a number.
use Rattle.std.specs.Prelude.{ℕ, List, [], ◌++◌, zero, suc}

-- what f gives for 0, 1 and so on, below n
abbrev pub upto : {A : Type 0} → (ℕ → List A) → ℕ → List A
upto f zero = []
upto f (suc n) = upto f n ++ f n
