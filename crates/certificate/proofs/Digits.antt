-- Numbers in decimal, without leading zeros.
use Rattle.std.proofs.Common.{◌≡◌, ◌<◌, ◌≤◌, true, false, ◌+◌, ◌-◌, ◌*◌, ◌^◌, ◌⊎◌, ℕ, List, [], ◌∷◌, ◌++◌, length, take, get_or, refl, sym, ◌∙◌, ap, subst, arith, ⊎_elim, length-take-le, take_all}
use Rattle.std.proofs.Math.Nat.{pow-le-pow_right}
use Rattle.std.proofs.lemmas.List.{take_more}
use Rattle.std.specs.Prelude.{◌==◌}
use Rattle.std.specs.Fmt.{decimal}
use Rattle.std.specs.Char.{digit_value}
use Rattle.std.specs.Str.Parse.{AllDigits, digits_value, digits_value_after}
use Rattle.std.proofs.lemmas.Bool.{cases_lt, eqb-true, false≢true}
use Rattle.std.proofs.lemmas.Str.{digit_value_digit}
use Rattle.std.proofs.lemmas.Str.Parse.{digit_at}
use Rattle.std.proofs.lemmas.Int.Digits.{digits_value-lt, digits_more}
use Rattle.std.proofs.lemmas.Fmt.{decimal_is_IsNumeral, decimal_nonempty, length-decimal-le, first_decimal, decimal_digit, decimal-digits_value}

value_snoc : (n : ℕ) (ds : List ℕ) (c : ℕ) → digits_value_after 10 n (ds ++ c ∷ []) ≡ digits_value_after 10 n ds * 10 + digit_value c
value_snoc n [] c = refl
value_snoc n (d ∷ ds) c = value_snoc (n * 10 + digit_value d) ds c

pub is_zero : (n : ℕ) → true ≡ (n == 0) → n ≡ 0
is_zero n e = eqb-true n 0 (sym e)

pub is_positive : (n : ℕ) → false ≡ (n == 0) → 0 < n
is_positive n e = ⊎_elim (λ (some : 0 < n). some) (λ (none : n ≤ 0). absurd (false≢true (e ∙ ap (λ (k : ℕ). k == 0) (let z : n ≡ 0 = omega arith in z)))) (cases_lt 0 n)

-- ## What no number is written as

pub no_empty : (word : List ℕ) (n : ℕ) → n < 2 ^ 63 → length word ≡ 0 → decimal n ≡ word → ⊥
no_empty word n small none same = omega (arith, decimal_nonempty n (omega arith), ap length same)

pub no_long : (word : List ℕ) (n : ℕ) → n < 2 ^ 63 → 19 < length word → decimal n ≡ word → ⊥
no_long word n small long same = omega (arith, length-decimal-le 19 n (omega arith) (omega arith) (omega arith), ap length same)

pub no_leading : (word : List ℕ) (n : ℕ) → n < 2 ^ 63 → get_or word 0 0 ≡ 48 → 1 < length word → decimal n ≡ word → ⊥
no_leading word n small lead long same = ⊎_elim
    (λ (some : 0 < n). omega (arith, first_decimal n some (omega arith), ap (λ (x : List ℕ). get_or x 0 0) same))
    (λ (none : n ≤ 0). omega (arith, ap length (decimal_digit n (omega arith)), ap length same))
    (cases_lt 0 n)

pub no_other : (word : List ℕ) (n i : ℕ) → n < 2 ^ 63 → i < length word → (get_or word i 0 < 48) ⊎ (57 < get_or word i 0) → decimal n ≡ word → ⊥
no_other word n i small within bad same =
    let d : AllDigits 10 word = subst (AllDigits 10) same (decimal_is_IsNumeral n (omega arith)).0.1 in
    let r = digit_at word i d within in
    ⊎_elim (λ (low : get_or word i 0 < 48). omega (arith, r)) (λ (high : 57 < get_or word i 0). omega (arith, r)) bad

pub no_great : (word : List ℕ) (n v : ℕ) → n < 2 ^ 63 → v ≡ digits_value 10 word → 2 ^ 63 ≤ v → decimal n ≡ word → ⊥
no_great word n v small is great same = omega (arith, (decimal_is_IsNumeral n (omega arith)).1, ap (digits_value 10) same)

-- ## Digits one by one

pub more_digits : (word : List ℕ) (i : ℕ) → i < length word → AllDigits 10 (take i word) → 48 ≤ get_or word i 0 → get_or word i 0 ≤ 57 → AllDigits 10 (take (i + 1) word)
more_digits word i within d low high = digits_more 10 word i within d (omega (arith, digit_value_digit (get_or word i 0) (low, high)))

pub more_value : (word : List ℕ) (i v : ℕ) → i < length word → v ≡ digits_value 10 (take i word) → 48 ≤ get_or word i 0 → get_or word i 0 ≤ 57 → v * 10 + (get_or word i 0 - 48) ≡ digits_value 10 (take (i + 1) word)
more_value word i v within is low high =
    let a = digit_value_digit (get_or word i 0) (low, high) in
    let b = value_snoc 0 (take i word) (get_or word i 0) in
    let e : digits_value 10 (take (i + 1) word) ≡ digits_value 10 (take i word ++ get_or word i 0 ∷ []) = ap (digits_value 10) (take_more word i 0 within) in
    omega (arith, a, b, e)

pub few_digits : (word : List ℕ) (i v : ℕ) → i < length word → length word ≤ 19 → AllDigits 10 (take i word) → v ≡ digits_value 10 (take i word) → v < 10 ^ 18
few_digits word i v within short d is =
    let a = digits_value-lt 10 (take i word) d in
    let l : length (take i word) ≡ i = length-take-le i word (omega arith) in
    let le : length (take i word) ≤ 18 = omega arith in
    let b : 10 ^ length (take i word) ≤ 10 ^ 18 = pow-le-pow_right {n = 10} (omega arith) le in
    omega (arith, a, b)

pub whole_number : (word : List ℕ) (i v : ℕ) → length word ≤ i → AllDigits 10 (take i word) → v ≡ digits_value 10 (take i word) → 0 < length word → (get_or word 0 0 ≡ 48 → length word ≤ 1) → v < 2 ^ 63 → decimal v ≡ word
whole_number word i v end d is some lead small =
    let t : take i word ≡ word = take_all i word end in
    let d' : AllDigits 10 word = subst (AllDigits 10) t d in
    let v' : v ≡ digits_value 10 word = is ∙ ap (digits_value 10) t in
    ap decimal v' ∙ decimal-digits_value (record { to = λ ds p. p; from = λ ds p. p; same = λ ds p. refl }) word d' some (λ z. let l = lead z in omega arith) (omega arith)
