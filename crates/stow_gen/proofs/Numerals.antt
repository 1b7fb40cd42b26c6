-- The numerals of the small numbers that the texts are made with.
use Rattle.std.proofs.Common.{◌≡◌, refl, arith, ◌∙◌}
use Rattle.std.specs.Prelude.{codes}
use Rattle.std.proofs.Common.{decimal}
use Rattle.std.proofs.lemmas.Fmt.{decimal_digit, decimal_step}

pub one : decimal 1 ≡ codes "1"
one = decimal_digit 1 (omega arith)

pub two : decimal 2 ≡ codes "2"
two = decimal_digit 2 (omega arith)

pub three : decimal 3 ≡ codes "3"
three = decimal_digit 3 (omega arith)

pub four : decimal 4 ≡ codes "4"
four = decimal_digit 4 (omega arith)

pub six : decimal 6 ≡ codes "6"
six = decimal_digit 6 (omega arith)

pub ten : decimal 10 ≡ codes "10"
ten = decimal_step 10 (omega arith) (omega arith) ∙ rw one refl

pub fourteen : decimal 14 ≡ codes "14"
fourteen = decimal_step 14 (omega arith) (omega arith) ∙ rw one refl

pub eighteen : decimal 18 ≡ codes "18"
eighteen = decimal_step 18 (omega arith) (omega arith) ∙ rw one refl
