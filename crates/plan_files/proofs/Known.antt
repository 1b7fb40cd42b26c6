-- What the cell and the weight of a group of a departure file read as.
use Rattle.std.proofs.Common.{◌≡◌, ℕ, ◌+◌, ◌^◌, ◌≤◌, ◌<◌, Bool, true, false, not, cond, List, [], ◌∷◌, length, Option, Some, None, refl, ap, ◌∙◌, arith}
use Rattle.std.proofs.lemmas.Bool.{eq-eqb, le-leb}
use Rattle.std.proofs.lemmas.Bool.Decides.{nat_tests}
use Rattle.std.proofs.lemmas.Fmt.{digits_decimal}
use Rattle.std.specs.Fmt.{decimal}
use Rattle.std.specs.List.{list_all, position_or_len}
use Rattle.stow_data.specs.Digits.{is_digit}
use Rattle.baplie.specs.Texts.{is_mark, number_of, read_at, at_most, weight_of}
use Rattle.baplie.proofs.Counts.{both, numerals, number_of-decimal}

-- digits have no decimal mark
no_mark : (ds : List ℕ) → list_all is_digit ds ≡ true → position_or_len is_mark ds ≡ length ds
no_mark [] h = refl
no_mark (d ∷ ds) h =
    let p = both (is_digit d) (list_all is_digit ds) h in
    go (is_mark d) (plain d p.0) (no_mark ds p.1)
  where
    plain : (b : ℕ) → is_digit b ≡ true → is_mark b ≡ false
    plain b e = grind (arith, nat_tests)

    go : (t : Bool) → t ≡ false → position_or_len is_mark ds ≡ length ds → cond (not t) (1 + position_or_len is_mark ds) 0 ≡ length (d ∷ ds)
    go true e k = cc
    go false e k = omega (arith, k)

-- a weight that is written in decimal
pub weight-known : (kg : ℕ) → kg ≤ 99999 → weight_of (decimal kg) ≡ Some kg
weight-known kg h =
    let small : kg < 2 ^ 64 = omega arith in
    let mark = no_mark (decimal kg) (digits_decimal numerals kg small) in
    ap (λ n. at_most 99999 (read_at n (decimal kg))) mark ∙ whole (decimal kg) ∙ ap (at_most 99999) (number_of-decimal kg (omega arith)) ∙ ap (λ t. cond {A = Option ℕ} t (Some kg) None) (le-leb kg 99999 h)
  where
    whole : (ds : List ℕ) → at_most 99999 (read_at (length ds) ds) ≡ at_most 99999 (number_of ds)
    whole ds = rw (eq-eqb (length ds) (length ds) refl) refl
