-- The texts in departure files have no control bytes.
use Rattle.std.proofs.Common.{◌≡◌, ℕ, suc, ◌/◌, ◌^◌, ◌≤◌, ◌<◌, ◌&&◌, ◌==◌, Bool, true, false, not, List, [], ◌∷◌, length, take, drop, ℤ, pos, negsuc, ◌≤ℤ◌, refl, arith}
use borrow.Author.Differences.{ints}
use Rattle.std.proofs.lemmas.Bool.{eqb-true}
use Rattle.std.proofs.lemmas.Bool.Decides.{nat_tests}
use Rattle.std.proofs.lemmas.Fmt.{digits_decimal}
use Rattle.std.specs.Fmt.{decimal, signed_decimal}
use Rattle.std.specs.List.{list_all}
use Rattle.std.specs.Prelude.{nat_le}
use Rattle.edifact_segments.specs.Characters.{is_control}
use Rattle.edifact_segments.specs.ReadBack.{IsPrintable}
use Rattle.stow_data.specs.Profile.{is_class_byte, is_class, is_name_byte, is_name}
use Rattle.toml_values.specs.Values.{is_code_byte, is_code, is_digits}
use Rattle.stow_data.specs.Digits.{digit, is_digit}
use Rattle.plan_files.specs.DepartureSegments.{cell_text}
use Rattle.baplie.proofs.Counts.{both, numerals}

calm_by : (p : ℕ → Bool) → ((b : ℕ) → p b ≡ true → is_control b ≡ false) → (t : List ℕ) → list_all p t ≡ true → IsPrintable t
calm_by p f [] h = tt
calm_by p f (b ∷ bs) h =
    let q = both (p b) (list_all p bs) h in
    (f b q.0, calm_by p f bs q.1)

calm_byte : (b : ℕ) → not (is_control b) ≡ true → is_control b ≡ false
calm_byte b h = go (is_control b) h
  where
    go : (t : Bool) → not t ≡ true → t ≡ false
    go true e = cc
    go false e = refl

calm_code : (b : ℕ) → is_code_byte b ≡ true → is_control b ≡ false
calm_code b h = grind (arith, nat_tests)

calm_name : (b : ℕ) → is_name_byte b ≡ true → is_control b ≡ false
calm_name b h = grind (arith, nat_tests)

calm_class : (b : ℕ) → is_class_byte b ≡ true → is_control b ≡ false
calm_class b h = grind (arith, nat_tests)

calm_digit : (b : ℕ) → is_digit b ≡ true → is_control b ≡ false
calm_digit b h = grind (arith, nat_tests)

-- a text that is written out
pub closed : (t : List ℕ) → list_all (λ b. not (is_control b)) t ≡ true → IsPrintable t
closed t h = calm_by (λ b. not (is_control b)) calm_byte t h

pub printable_decimal : (n : ℕ) → n < 2 ^ 64 → IsPrintable (decimal n)
printable_decimal n h = calm_by is_digit calm_digit (decimal n) (digits_decimal numerals n h)

-- a temperature
pub printable_signed : (z : ℤ) → negsuc 98 ≤ℤ z → z ≤ℤ pos 99 → IsPrintable (signed_decimal z)
printable_signed (pos n) h k = printable_decimal n (omega (arith, ints, k))
printable_signed (negsuc n) h k = (refl, printable_decimal (suc n) (omega (arith, ints, h)))

-- a text of some bytes, but not more than so many
pub record IsText (high : ℕ) (t : List ℕ) : Type 0 where
  pub some : 0 < length t
  pub short : length t ≤ high
  pub calm : IsPrintable t

sized : (low high n : ℕ) → (nat_le low n && nat_le n high) ≡ true → (low ≤ n) × (n ≤ high)
sized low high n h = (grind (arith, nat_tests), grind (arith, nat_tests))

pub code_text : (high : ℕ) (t : List ℕ) → is_code high t ≡ true → IsText high t
code_text high t h =
    let q = both (nat_le 1 (length t) && nat_le (length t) high) (list_all is_code_byte t) h in
    let n = sized 1 high (length t) q.0 in
    record { some = n.0; short = n.1; calm = calm_by is_code_byte calm_code t q.1 }

pub name_text : (t : List ℕ) → is_name t ≡ true → IsText 35 t
name_text t h =
    let q = both (nat_le 1 (length t) && nat_le (length t) 35) (list_all is_name_byte t) h in
    let n = sized 1 35 (length t) q.0 in
    record { some = n.0; short = n.1; calm = calm_by is_name_byte calm_name t q.1 }

pub class_text : (t : List ℕ) → is_class t ≡ true → IsText 8 t
class_text t h =
    let q = both (nat_le 1 (length t) && nat_le (length t) 8) (list_all is_class_byte t) h in
    let n = sized 1 8 (length t) q.0 in
    record { some = n.0; short = n.1; calm = calm_by is_class_byte calm_class t q.1 }

-- a date has ten digits
pub record IsDate (t : List ℕ) : Type 0 where
  pub ten : length t ≡ 10
  pub calm : IsPrintable t

pub date_text : (t : List ℕ) → is_digits 10 t ≡ true → IsDate t
date_text t h =
    let q = both (length t == 10) (list_all is_digit t) h in
    record { ten = eqb-true (length t) 10 q.0; calm = calm_by is_digit calm_digit t q.1 }

pub printable-take : (n : ℕ) (t : List ℕ) → IsPrintable t → IsPrintable (take n t)
printable-take ℕ.zero t h = tt
printable-take (suc n) [] h = tt
printable-take (suc n) (b ∷ bs) h = (h.0, printable-take n bs h.1)

pub printable-drop : (n : ℕ) (t : List ℕ) → IsPrintable t → IsPrintable (drop n t)
printable-drop ℕ.zero t h = h
printable-drop (suc n) [] h = tt
printable-drop (suc n) (b ∷ bs) h = printable-drop n bs h.1

calm_last : (n : ℕ) → is_control (digit n) ≡ false
calm_last n = grind (arith, nat_tests)

pub printable_cell : (cell : ℕ × ℕ × ℕ) → IsPrintable (cell_text cell)
printable_cell cell = (calm_last (cell.0 / 100), (calm_last (cell.0 / 10), (calm_last cell.0, (calm_last (cell.1 / 10), (calm_last cell.1, (calm_last (cell.2 / 10), (calm_last cell.2, tt)))))))

pub printable_number : (n : ℕ) → IsPrintable (digit (n / 1000) ∷ digit (n / 100) ∷ digit (n / 10) ∷ digit n ∷ [])
printable_number n = (calm_last (n / 1000), (calm_last (n / 100), (calm_last (n / 10), (calm_last n, tt))))
