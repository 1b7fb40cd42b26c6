-- One line of each kind: a number, a string, the header of a table.
use Rattle.std.proofs.Common.{◌≡◌, ℕ, ◌<◌, ◌^◌, true, false, List, [], ◌∷◌, ◌++◌, refl, sym, arith, decimal}
use Rattle.std.specs.Prelude.{codes, pos}
use Rattle.std.specs.List.{list_all}
use Rattle.toml_writer.specs.Text.{key_text}
use Rattle.toml.specs.Data.{Data, string, integer}
use Rattle.toml.specs.Tables.{Expression, key_value, array_table}
use Rattle.toml.specs.Text.{IsLineText}
use Rattle.stow_gen.proofs.PlainStrings.{is_plain_byte, plain_string}

-- a key with its value
abbrev pub pair : List ℕ → Data → Expression
pair key d = (([], key), key_value d)

-- the header of one more table of an array
abbrev pub header : List ℕ → Expression
header key = (([], key), array_table)

-- the text writes the expression on one line
abbrev pub Line : Expression → List ℕ → Type 0
Line e this = IsLineText false false e.0 e.1 this

pub number_line : (key k : List ℕ) (n : ℕ) → key_text key ≡ k → n < 2 ^ 63 → Line (pair key (integer (pos n))) (k ++ (codes " = " ++ (decimal n ++ 10 ∷ [])))
number_line key k n bare h = (decimal n, rw bare refl, (refl, omega arith))

pub text_line : (key k s : List ℕ) → key_text key ≡ k → list_all is_plain_byte s ≡ true → Line (pair key (string s)) (k ++ (codes " = " ++ ((34 ∷ (s ++ 34 ∷ [])) ++ 10 ∷ [])))
text_line key k s bare h = (34 ∷ (s ++ 34 ∷ []), rw bare refl, sym (plain_string s h))

pub header_line : (key k : List ℕ) → key_text key ≡ k → Line (header key) (codes "[[" ++ (k ++ codes "]]\n"))
header_line key k bare = rw bare refl
