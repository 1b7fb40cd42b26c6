-- Strings of bytes that need no escape.
use Rattle.std.proofs.Common.{◌≡◌, ℕ, Bool, true, false, ◌==◌, ◌&&◌, List, [], ◌∷◌, ◌++◌, refl, arith, nat_le}
use Rattle.std.specs.List.{list_all, list_any}
use Rattle.std.proofs.lemmas.Bool.{and_parts}
use Rattle.std.proofs.lemmas.Bool.Decides.{nat_tests}
use Rattle.toml_writer.specs.Text.{string_text, encoding_of, escaped, needs_escape, quotes_after, has, is_control}

-- a byte from 40 to 91: a capital letter, a digit, or one of the signs in between
abbrev pub is_plain_byte : ℕ → Bool
is_plain_byte c = nat_le 40 c && nat_le c 91

no_byte : (q : ℕ) (s : List ℕ) → list_all is_plain_byte s ≡ true → is_plain_byte q ≡ false → has q s ≡ false
no_byte q [] h n = refl
no_byte q (c ∷ cs) h n =
    let (here, more) = and_parts (is_plain_byte c) (list_all is_plain_byte cs) h in
    let other : (c == q) ≡ false = grind (arith, nat_tests) in
    rw (other, no_byte q cs more n) refl

no_control : (s : List ℕ) → list_all is_plain_byte s ≡ true → list_any is_control s ≡ false
no_control [] h = refl
no_control (c ∷ cs) h =
    let (here, more) = and_parts (is_plain_byte c) (list_all is_plain_byte cs) h in
    let other : is_control c ≡ false = grind (arith, nat_tests) in
    rw (other, no_control cs more) refl

as_is : (s : List ℕ) → list_all is_plain_byte s ≡ true → escaped false 0 s ≡ s
unfolding escaped needs_escape quotes_after
as_is [] h = refl
as_is (c ∷ cs) h =
    let (here, more) = and_parts (is_plain_byte c) (list_all is_plain_byte cs) h in
    let a : (c == 34) ≡ false = grind (arith, nat_tests) in
    let b : (c == 10) ≡ false = grind (arith, nat_tests) in
    let d : (c == 92) ≡ false = grind (arith, nat_tests) in
    let e : (c == 9) ≡ false = grind (arith, nat_tests) in
    let f : nat_le 32 c ≡ true = grind (arith, nat_tests) in
    let g : (c == 127) ≡ false = grind (arith, nat_tests) in
    rw (a, b, d, e, f, g, as_is cs more) refl

-- such a string is written as it is, in quotes
pub plain_string : (s : List ℕ) → list_all is_plain_byte s ≡ true → string_text s ≡ 34 ∷ (s ++ 34 ∷ [])
unfolding string_text encoding_of
plain_string s h = rw (no_control s h, no_byte 92 s h refl, no_byte 34 s h refl, no_byte 10 s h refl, as_is s h) refl
