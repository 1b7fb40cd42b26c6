-- The size and type codes of containers (ISO 6346).
use Rattle.std.specs.Prelude.{ℕ, ◌==◌, List, [], ◌∷◌, Option, Some, None, if◌then◌else◌}
use Rattle.stow_data.specs.declared.geometry.Length.{Length}
use Rattle.stow_data.specs.declared.geometry.Length.TheVariants.{Twenty, Forty}

-- the length of a container, by the first character of its size and type code
abbrev pub length_of_type : List ℕ → Option Length
length_of_type [] = None
length_of_type (b ∷ text) = if b == 50 then Some Twenty else (if b == 52 then Some Forty else None)
