-- The seven digits of a cell read as it.
use Rattle.std.proofs.Common.{◌≡◌, ℕ, ◌+◌, ◌*◌, ◌/◌, ◌<◌, ◌&&◌, Bool, true, cond, Option, Some, None, refl, ap, ◌∙◌, arith}
use Rattle.std.proofs.lemmas.Bool.Decides.{nat_tests}
use Rattle.std.specs.List.{list_all}
use Rattle.stow_data.specs.Digits.{is_digit, digit_of, digit}
use Rattle.baplie.specs.Texts.{cell_of, cell_digits}

digit_is : (n : ℕ) → is_digit (digit n) ≡ true
digit_is n = grind (arith, nat_tests)

and_more : (p q : Bool) → p ≡ true → q ≡ true → (p && q) ≡ true
and_more p q e f = rw (e, f) refl

-- the seven digits of a cell read as it
pub cell-known : (bay row tier : ℕ) → bay < 1000 → row < 100 → tier < 100 → cell_of (cell_digits bay row tier) ≡ Some (bay, row, tier)
cell-known bay row tier b r t = ap (λ x. cond {A = Option (ℕ × ℕ × ℕ)} x (Some (bays, rows, tiers)) None) digits ∙ (λ i. Some (bay-is i, row-is i, tier-is i))
  where
    bays : ℕ
    bays = ((0 * 10 + digit_of (digit (bay / 100))) * 10 + digit_of (digit (bay / 10))) * 10 + digit_of (digit bay)

    rows : ℕ
    rows = (0 * 10 + digit_of (digit (row / 10))) * 10 + digit_of (digit row)

    tiers : ℕ
    tiers = (0 * 10 + digit_of (digit (tier / 10))) * 10 + digit_of (digit tier)

    bay-is : bays ≡ bay
    bay-is = omega arith

    row-is : rows ≡ row
    row-is = omega arith

    tier-is : tiers ≡ tier
    tier-is = omega arith

    digits : list_all is_digit (cell_digits bay row tier) ≡ true
    digits =
        and_more (is_digit (digit (bay / 100))) _ (digit_is (bay / 100)) (and_more (is_digit (digit (bay / 10))) _ (digit_is (bay / 10)) (and_more (is_digit (digit bay)) _ (digit_is bay)
        (and_more (is_digit (digit (row / 10))) _ (digit_is (row / 10)) (and_more (is_digit (digit row)) _ (digit_is row) (and_more (is_digit (digit (tier / 10))) _ (digit_is (tier / 10)) (and_more (is_digit (digit tier)) true (digit_is tier) refl))))))
