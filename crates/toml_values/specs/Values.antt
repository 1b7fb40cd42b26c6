-- What a TOML value says, and what stands under a key of a table: a value of the wanted form, or the reason why there is none.
use Rattle.std.specs.Prelude.{Bool, Err, List, None, Ok, Option, Result, Some, if◌then◌else◌, int_le, length, nat_le, ok_or, pos, ℕ, ℤ, ◌&&◌, ◌||◌, ◌==◌}
use Rattle.std.specs.List.{list_all}
use Rattle.std.specs.Str.{is_utf8}
use Rattle.toml.specs.Data.{Data, string, integer, boolean, Items, array, table, Members, get_member}
use Rattle.toml.specs.Parse.{parse_document}
use Rattle.stow_data.specs.Digits.{is_digit}
use Rattle.toml_values.specs.declared.of_values.Unread.{Unread}
use Rattle.toml_values.specs.declared.of_values.Unread.TheVariants.{Missing, BadValue}

-- one step after the other: the first fault is answered
infixl 10 ◌>>=◌
abbrev pub ◌>>=◌ : {A B E : Type 0} → Result A E → (A → Result B E) → Result B E
(Ok x) >>= f = f x
(Err e) >>= f = Err e

-- the value of a result, seen by view
abbrev pub seen : {X Y E : Type 0} → (X → Y) → Result X E → Result Y E
seen view (Ok x) = Ok (view x)
seen view (Err e) = Err e

-- what passes a test
abbrev pub passing : {X : Type 0} → (X → Bool) → X → Result X Unread
passing test x = if test x then Ok x else Err BadValue

-- A to Z and 0 to 9
abbrev pub is_code_byte : ℕ → Bool
is_code_byte b = (nat_le 65 b && nat_le b 90) || is_digit b

-- a text of 1 to so many bytes of A to Z and 0 to 9
abbrev pub is_code : ℕ → List ℕ → Bool
is_code high s = (nat_le 1 (length s) && nat_le (length s) high) && list_all is_code_byte s

-- a text of so many digits
abbrev pub is_digits : ℕ → List ℕ → Bool
is_digits count s = (length s == count) && list_all is_digit s

abbrev pub text_of : Data → Result (List ℕ) Unread
text_of (string s) = Ok s
text_of _ = Err BadValue

-- a text that passes a test
abbrev pub text_that : (List ℕ → Bool) → Data → Result (List ℕ) Unread
text_that test d = text_of d >>= passing test

-- a whole number from low to high, which isn't negative
abbrev pub number_of : ℕ → ℕ → Data → Result ℕ Unread
number_of low high (integer (pos n)) = passing (λ k. nat_le low k && nat_le k high) n
number_of low high _ = Err BadValue

-- a whole number from low to high
abbrev pub signed_of : ℤ → ℤ → Data → Result ℤ Unread
signed_of low high (integer z) = passing (λ k. int_le low k && int_le k high) z
signed_of low high _ = Err BadValue

-- a truth value
abbrev pub flag_of : Data → Result Bool Unread
flag_of (boolean b) = Ok b
flag_of _ = Err BadValue

abbrev pub array_of : Data → Result Items Unread
array_of (array ds) = Ok ds
array_of _ = Err BadValue

abbrev pub table_of : Data → Result Members Unread
table_of (table ms) = Ok ms
table_of _ = Err BadValue

-- what stands under a key of a table
abbrev pub value_at : List ℕ → Members → Result Data Unread
value_at name members = ok_or (get_member name members) Missing

-- what stands under a key of a table, read
abbrev pub at_key : {X : Type 0} → (Data → Result X Unread) → List ℕ → Members → Result X Unread
at_key read name members = value_at name members >>= read

-- what was read under a key that may be missing
abbrev pub or_default : {X : Type 0} → X → Result X Unread → Result X Unread
or_default d (Ok x) = Ok x
or_default d (Err Missing) = Ok d
or_default d (Err BadValue) = Err BadValue

abbrev pub if_there : {X : Type 0} → Result X Unread → Result (Option X) Unread
if_there (Ok x) = Ok (Some x)
if_there (Err Missing) = Ok None
if_there (Err BadValue) = Err BadValue

-- the top table of a text, which is UTF-8 and TOML
abbrev pub document_of : List ℕ → Option Members
document_of bytes = if is_utf8 bytes then parse_document bytes else None
