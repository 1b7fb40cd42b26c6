-- Texts by pieces.
use Rattle.std.specs.Prelude.{ℕ, ◌/◌, List, [], ◌∷◌, ◌++◌, Bool, if◌then◌else◌}
use Rattle.std.specs.Fmt.{decimal}
use Rattle.stow_data.specs.Digits.{digit}

-- words of the text, as they are
unfoldable pub raw : List ℕ → List ℕ
raw text = text

-- words, and a number
abbrev pub told : List ℕ → ℕ → List ℕ
told text number = raw text ++ decimal number

-- a number below 10,000,000 in seven digits
abbrev pub seven_digits : ℕ → List ℕ
seven_digits n = digit (n / 1000000) ∷ digit (n / 100000) ∷ digit (n / 10000) ∷ digit (n / 1000) ∷ digit (n / 100) ∷ digit (n / 10) ∷ digit n ∷ []

-- words that stand only there
abbrev pub only_if : Bool → List ℕ → List ℕ
only_if on text = if on then raw text else []
