-- Counts in decimal.
use Rattle.std.proofs.Common.{◌≡◌, ℕ, suc, zero, ◌+◌, ◌*◌, ◌-◌, ◌/◌, ◌%◌, ◌^◌, ◌≤◌, ◌<◌, ◌==◌, Bool, true, false, ◌&&◌, cond, List, [], ◌∷◌, length, Option, Some, None, refl, ap, arith}
use Rattle.std.proofs.lemmas.Bool.{eqb-true}
use Rattle.std.proofs.lemmas.Bool.Decides.{nat_tests}
use Rattle.std.proofs.lemmas.Fmt.{length-decimal-le, digits_decimal, digits_value-decimal, decimal_nonempty}
use Rattle.std.proofs.lemmas.Str.Parse.{IsDigitsTest, FoldsDigits, IsNumeralModel, numerals_by_fold}
use Rattle.std.proofs.Math.Nat.{pow-succ'}
use Rattle.std.specs.Fmt.{digits, digits_onto, digit_glyph, decimal}
use Rattle.std.specs.Int.{IsInRange}
use Rattle.std.specs.List.{list_all}
use Rattle.std.specs.Prelude.{fold}
use Rattle.stow_data.specs.Digits.{is_digit, with_digit, value}
use Rattle.baplie.specs.Texts.{is_number, number_of}

-- one digit more in front
abbrev with_last : ℕ → List ℕ → List ℕ
with_last n acc = digit_glyph false (n % 10) ∷ acc

-- so many digits at least
longer : (k n : ℕ) (acc : List ℕ) → length acc ≤ length (digits_onto k 10 false n acc)
longer zero n acc = omega arith
longer (suc k) n acc = go (n / 10 == 0) (longer k (n / 10) (with_last n acc))
  where
    go : (t : Bool) → suc (length acc) ≤ length (digits_onto k 10 false (n / 10) (with_last n acc)) → length acc ≤ length (cond t (with_last n acc) (digits_onto k 10 false (n / 10) (with_last n acc)))
    go true h = omega arith
    go false h = omega (arith, h)

positive : (i : ℕ) → 0 < 10 ^ i
positive zero = omega arith
positive (suc i) = omega (arith, pow-succ' 10 i, positive i)

-- few digits are those of a small number
small_digits : (k j n : ℕ) (acc : List ℕ) → j < k → length (digits_onto k 10 false n acc) ≤ length acc + j → n < 10 ^ j
small_digits zero j n acc h e = absurd (omega arith)
small_digits (suc k) zero n acc h e = go (n / 10 == 0) (longer k (n / 10) (with_last n acc)) e
  where
    go : (t : Bool) → suc (length acc) ≤ length (digits_onto k 10 false (n / 10) (with_last n acc)) → length (cond t (with_last n acc) (digits_onto k 10 false (n / 10) (with_last n acc))) ≤ length acc + 0 → n < 10 ^ 0
    go true l f = absurd (omega (arith, f))
    go false l f = absurd (omega (arith, f, l))
small_digits (suc k) (suc j) n acc h e = go (n / 10 == 0) refl (λ f. small_digits k j (n / 10) (with_last n acc) (omega arith) f) e
  where
    go : (t : Bool) → (n / 10 == 0) ≡ t → (length (digits_onto k 10 false (n / 10) (with_last n acc)) ≤ suc (length acc) + j → n / 10 < 10 ^ j)
        → length (cond t (with_last n acc) (digits_onto k 10 false (n / 10) (with_last n acc))) ≤ length acc + suc j → n < 10 ^ suc j
    go true z l f = omega (arith, eqb-true (n / 10) 0 z, pow-succ' 10 j, positive j)
    go false z l f = omega (arith, pow-succ' 10 j, l (omega (arith, f)))

pub few_digits : (n : ℕ) → length (decimal n) ≤ 9 → n < 10 ^ 9
unfolding digits
few_digits n h = small_digits 64 9 n [] (omega arith) h

pub some_digits : (n : ℕ) → 0 < length (decimal n)
unfolding digits
some_digits n = go (n / 10 == 0)
  where
    go : (t : Bool) → 0 < length (cond t (with_last n []) (digits_onto 63 10 false (n / 10) (with_last n [])))
    go true = omega arith
    go false = omega (arith, longer 63 (n / 10) (with_last n []))

-- ## Read as a count

pub both : (p q : Bool) → (p && q) ≡ true → (p ≡ true) × (q ≡ true)
both true q h = (refl, h)
both false q h = cc

are_digits : IsDigitsTest (λ ds. list_all is_digit ds ≡ true)
are_digits = record {
  empty = refl;
  parts = λ c cs h. let p = both (is_digit c) (list_all is_digit cs) h in (in_range c p.0, p.1);
  more = λ c cs r h. rw (in_digits c r, h) refl;
}
  where
    in_range : (c : ℕ) → is_digit c ≡ true → IsInRange 48 57 c
    in_range c h = grind (arith, nat_tests)

    in_digits : (c : ℕ) → IsInRange 48 57 c → is_digit c ≡ true
    in_digits c h = grind (arith, nat_tests)

folds : FoldsDigits (λ n ds. fold with_digit n ds)
folds = record {
  empty = λ n. refl;
  more = λ n c cs r. ap (λ m. fold with_digit m cs) (next n c r);
}
  where
    next : (n c : ℕ) → IsInRange 48 57 c → with_digit n c ≡ n * 10 + (c - 48)
    next n c r = omega (arith, r.0, r.1)

pub numerals : IsNumeralModel (λ ds. list_all is_digit ds ≡ true) value
numerals = numerals_by_fold (λ ds. list_all is_digit ds ≡ true) are_digits (λ n ds. fold with_digit n ds) folds

-- what is written of a number reads as it
pub number_of-decimal : (n : ℕ) → n < 10 ^ 9 → number_of (decimal n) ≡ Some n
number_of-decimal n h =
    let small : n < 2 ^ 64 = omega arith in
    go (is_number (decimal n)) (is n h small) (digits_value-decimal numerals n small)
  where
    is : (n : ℕ) → n < 10 ^ 9 → n < 2 ^ 64 → is_number (decimal n) ≡ true
    is n h small =
        let long : 0 < length (decimal n) = decimal_nonempty n small in
        let short : length (decimal n) ≤ 9 = length-decimal-le 9 n (omega arith) h small in
        let all : list_all is_digit (decimal n) ≡ true = digits_decimal numerals n small in
        grind (arith, nat_tests)

    go : (t : Bool) → t ≡ true → value (decimal n) ≡ n → cond {A = Option ℕ} t (Some (value (decimal n))) None ≡ Some n
    go true e v = ap (λ m. Some m) v
    go false e v = absurd (cc)
