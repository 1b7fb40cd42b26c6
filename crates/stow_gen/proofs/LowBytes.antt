-- The texts are UTF-8: each byte is below 128.
use Rattle.std.proofs.Common.{◌≡◌, ℕ, zero, suc, ◌+◌, ◌/◌, ◌<◌, Bool, true, false, List, [], ◌∷◌, ◌++◌, refl, arith, decimal, nat_lt}
use Rattle.std.specs.Prelude.{codes}
use Rattle.std.specs.List.{list_all}
use Rattle.std.specs.Str.{IsAscii, is_utf8}
use Rattle.std.proofs.lemmas.Bool.{and_parts}
use Rattle.std.proofs.lemmas.Bool.Decides.{nat_tests}
use Rattle.std.proofs.lemmas.List.Folds.{list_all-append}
use Rattle.std.proofs.lemmas.Str.{IsUtf8-from_ascii, is_utf8-from_IsUtf8}
use Rattle.std.proofs.lemmas.Fmt.{decimal_is_IsNumeral}
use Rattle.std.specs.Str.Parse.{AllDigits}
use Rattle.stow_data.specs.Digits.{digit}
use Rattle.stow_gen.specs.Words.{raw, told, only_if, seven_digits}
use Rattle.stow_gen.specs.Draws.{after_lot, lot}
use Rattle.stow_gen.specs.Bookings.{voyage_text, containers_text, container_text, calls_text, rest_text}
use Rattle.stow_gen.proofs.DrawnRanges.{lot_in_range}

-- a byte of seven bits
abbrev pub is_low : ℕ → Bool
is_low c = nat_lt c 128

low_ascii : (s : List ℕ) → list_all is_low s ≡ true → IsAscii s
low_ascii [] h i = omega arith
low_ascii (c ∷ cs) h zero = let (here, more) = and_parts (is_low c) (list_all is_low cs) h in grind (arith, nat_tests)
low_ascii (c ∷ cs) h (suc i) = let (here, more) = and_parts (is_low c) (list_all is_low cs) h in low_ascii cs more i

pub low_utf8 : (s : List ℕ) → list_all is_low s ≡ true → is_utf8 s ≡ true
low_utf8 s h = is_utf8-from_IsUtf8 s (IsUtf8-from_ascii s (low_ascii s h))

digits_low : (ds : List ℕ) → AllDigits 10 ds → list_all is_low ds ≡ true
digits_low [] h = refl
digits_low (d ∷ ds) h =
    let here : is_low d ≡ true = grind (arith, nat_tests) in
    rw (here, digits_low ds h.1) refl

decimal_low : (n : ℕ) → n < 100000 → list_all is_low (decimal n) ≡ true
decimal_low n h = digits_low (decimal n) (decimal_is_IsNumeral n (omega arith)).0.1

digit_low : (n : ℕ) → is_low (digit n) ≡ true
digit_low n = grind (arith, nat_tests)

only_low : (b : Bool) → list_all is_low (only_if b (codes "temperature = -18\n")) ≡ true
unfolding raw
only_low true = refl
only_low false = refl

-- a text whose bytes are all low
record Low (s : List ℕ) : Type 0 where
  all : list_all is_low s ≡ true

both_low : {a b : List ℕ} → Low a → Low b → Low (a ++ b)
both_low {a} {b} p q = record { all = rw (list_all-append, p.all, q.all) refl }

seven_low : (k : ℕ) → Low (seven_digits k)
seven_low k = record { all = rw (digit_low (k / 1000000), digit_low (k / 100000), digit_low (k / 10000), digit_low (k / 1000), digit_low (k / 100), digit_low (k / 10), digit_low k) refl }

told_low : (s : List ℕ) (n : ℕ) → list_all is_low s ≡ true → n < 100000 → Low (told s n)
unfolding raw
told_low s n h small = both_low {a = s} {b = decimal n} (record { all = h }) (record { all = decimal_low n small })

raw_low : (s : List ℕ) → list_all is_low s ≡ true → Low (raw s)
unfolding raw
raw_low s h = record { all = h }

container_low : (k state : ℕ) → Low (container_text k (lot state))
container_low k state =
    let r = lot_in_range state in
    let l = lot state in
    let calls : Low (calls_text l) = both_low (told_low (codes "\"\nfrom = ") l.load refl (omega (arith, r.load_to))) (told_low (codes "\nto = ") l.dest refl (omega (arith, r.dest_to))) in
    let rest : Low (rest_text l) = both_low (both_low (told_low (codes "\ntype = \"42G1\"\nkg = ") l.kg refl (omega (arith, r.kg_to))) (raw_low (codes "\n") refl)) (record { all = only_low l.cooled }) in
    both_low (both_low (both_low (raw_low (codes "[[container]]\nid = \"GENU") refl) (seven_low k)) calls) rest

containers_low : (left k state : ℕ) → Low (containers_text left k state)
unfolding containers_text
containers_low zero k state = record { all = refl }
containers_low (suc left) k state = both_low (container_low k state) (containers_low left (k + 1) (after_lot state))

voyage_low : list_all is_low voyage_text ≡ true
unfolding voyage_text raw
voyage_low = refl

pub bookings_utf8 : (left k state : ℕ) → is_utf8 (voyage_text ++ containers_text left k state) ≡ true
bookings_utf8 left k state = low_utf8 _ (both_low {a = voyage_text} {b = containers_text left k state} (record { all = voyage_low }) (containers_low left k state)).all
