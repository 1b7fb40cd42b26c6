-- How the bytes of a text stand in a document (XML 1.0, ISO 8859-1).
use Rattle.std.specs.Prelude.{◌≡◌, ◌⊎◌, ℕ, ◌/◌, Bool, false, ◌&&◌, ◌||◌, ◌==◌, nat_le, codes, List, [], ◌∷◌, ◌++◌, flat_map, if◌then◌else◌}
use Rattle.std.specs.List.{list_any}
use Rattle.stow_data.specs.Digits.{digit}
use Rattle.bay_views.specs.declared.character_sets.CharacterSet.{CharacterSet}
use Rattle.bay_views.specs.CharacterSets.{has_byte}

-- the characters that have a meaning of their own: `"` `&` `'` `<` `>`
abbrev pub is_markup : ℕ → Bool
is_markup b = b == 34 || b == 38 || b == 39 || b == 60 || b == 62

-- the entity of such a character
abbrev pub entity : ℕ → List ℕ
entity b = if b == 38 then codes "&amp;" else (if b == 60 then codes "&lt;" else (if b == 62 then codes "&gt;" else (if b == 34 then codes "&quot;" else codes "&apos;")))

-- a byte of ISO 8859-1 by its number, which has three digits; control bytes, which no document may hold, by the replacement character
abbrev pub reference : ℕ → List ℕ
reference b = if nat_le 160 b then 38 ∷ 35 ∷ digit (b / 100) ∷ digit (b / 10) ∷ digit b ∷ 59 ∷ [] else codes "&#65533;"

abbrev pub is_printable : ℕ → Bool
is_printable b = nat_le 32 b && nat_le b 126

-- a byte of a text of the file
abbrev pub written : ℕ → List ℕ
written b = if is_markup b then entity b else (if is_printable b then b ∷ [] else reference b)

abbrev pub escaped : List ℕ → List ℕ
escaped text = flat_map written text

-- a byte of a text in this character set
abbrev pub written_in : CharacterSet → ℕ → List ℕ
written_in set b = if has_byte set b then written b else codes "&#65533;"

-- a text of the file in its character set
abbrev pub escaped_in : CharacterSet → List ℕ → List ℕ
escaped_in set text = flat_map (written_in set) text

-- a byte of a text in UTF-8, whose bytes from 128 on stay
abbrev pub written_text : ℕ → List ℕ
written_text b = if nat_le 128 b then b ∷ [] else written b

abbrev pub escaped_text : List ℕ → List ℕ
escaped_text text = flat_map written_text text

-- a character that begins or ends a tag or a quoted value
abbrev pub breaks_out : ℕ → Bool
breaks_out b = b == 34 || b == 39 || b == 60 || b == 62

-- an entity: `&`, then none of the five characters, then `;`
pub record IsEntity (text : List ℕ) : Type 0 where
  pub name : List ℕ
  pub text_is : text ≡ 38 ∷ name ++ 59 ∷ []
  pub plain : list_any is_markup name ≡ false

-- the byte itself, which is none of the five, or one entity
abbrev pub IsWritten : ℕ → List ℕ → Type 0
IsWritten b text = ((text ≡ b ∷ []) × (is_markup b ≡ false)) ⊎ IsEntity text
