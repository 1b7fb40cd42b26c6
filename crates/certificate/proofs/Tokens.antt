-- Words that stand for tokens.
use Rattle.std.proofs.Common.{◌≡◌, ◌<◌, ◌≤◌, ◌^◌, ℕ, Bool, true, false, List, [], ◌∷◌, drop, get_or, refl, sym, ap, arith}
use Rattle.std.specs.Prelude.{◌&&◌, ◌||◌, ◌==◌, not}
use Rattle.std.specs.Fmt.{decimal}
use Rattle.std.specs.Str.Parse.{AllDigits}
use Rattle.std.proofs.lemmas.Bool.{false≢true, false_from_ne_true, eqb-true, leb-true}
use Rattle.std.proofs.lemmas.Str.Parse.{digit_at, digit_from_value}
use Rattle.std.proofs.lemmas.Fmt.{decimal_is_IsNumeral, decimal_injective}
use Rattle.certificate.specs.declared.words.Key.{Key}
use Rattle.certificate.specs.declared.words.Key.TheVariants as key
use Rattle.certificate.specs.declared.words.Token.{Token}
use Rattle.certificate.specs.declared.words.Token.TheVariants.{Word, Number, Minus}
use Rattle.certificate.specs.Reading.{key_text, token_text, IsToken, is_break}
use Rattle.certificate.proofs.Keys.{same_key, begins}

-- a word has no separator in it
abbrev pub IsWord : List ℕ → Type 0
IsWord [] = Unit {0}
IsWord (b ∷ bs) = (is_break b ≡ false) × IsWord bs

abbrev is_word : List ℕ → Bool
is_word [] = true
is_word (b ∷ bs) = not (is_break b) && is_word bs

both : (a b : Bool) → (not a && b) ≡ true → (a ≡ false) × (b ≡ true)
both false b e = (refl, e)
both true b e = absurd (false≢true e)

word_from : (w : List ℕ) → is_word w ≡ true → IsWord w
word_from [] e = tt
word_from (b ∷ bs) e = let h = both (is_break b) (is_word bs) e in (h.0, word_from bs h.1)

key_word : (k : Key) → is_word (key_text k) ≡ true
key_word key.Step = refl
key_word key.Raise = refl
key_word key.Node = refl
key_word key.Leaf = refl
key_word key.Branch = refl
key_word key.Left = refl
key_word key.Cross = refl
key_word key.Block = refl
key_word key.Support = refl
key_word key.Cell = refl
key_word key.Flow = refl
key_word key.Weight = refl
key_word key.Hatch = refl
key_word key.Twenty = refl
key_word key.Apart = refl
key_word key.Start = refl
key_word key.Title = refl
key_word key.Outcome = refl
key_word key.Rehandles = refl
key_word key.Bound = refl
key_word key.Nodes = refl
key_word key.End = refl
key_word key.None = refl
key_word key.Optimal = refl
key_word key.Gap = refl
key_word key.NoPlan = refl
key_word key.Undecided = refl

high : (b : ℕ) → 33 ≤ b → is_break b ≡ false
high b h =
    let p : (b == 32) ≡ false = false_from_ne_true _ (λ e. let k = eqb-true b 32 e in omega arith) in
    let q : (b == 10) ≡ false = false_from_ne_true _ (λ e. let k = eqb-true b 10 e in omega arith) in
    λ i. p i || q i

digits_word : (ds : List ℕ) → AllDigits 10 ds → IsWord ds
digits_word [] d = tt
digits_word (c ∷ cs) d = let r = digit_from_value c d.0 in (high c (omega (arith, r)), digits_word cs d.1)

pub token_word : (t : Token) → IsToken t → IsWord (token_text t)
token_word (Word k) is = word_from (key_text k) (key_word k)
token_word (Number n) is = digits_word (decimal n) (decimal_is_IsNumeral n (omega arith)).0.1
token_word (Minus n) is = (refl, digits_word (decimal n) (decimal_is_IsNumeral n (omega (arith, is.1))).0.1)

-- ## Texts tell tokens apart

letter : (k : Key) → 97 ≤ get_or (key_text k) 0 0
letter k = leb-true 97 (get_or (key_text k) 0 0) (begins k)

pub first_digit : (n : ℕ) → n < 2 ^ 63 → (48 ≤ get_or (decimal n) 0 0) × (get_or (decimal n) 0 0 ≤ 57)
first_digit n small = let h = (decimal_is_IsNumeral n (omega arith)).0 in digit_at (decimal n) 0 h.1 h.0

key_number : (k : Key) (n : ℕ) → n < 2 ^ 63 → key_text k ≡ decimal n → ⊥
key_number k n small e = let d = first_digit n small in omega (arith, letter k, d.1, ap (λ (x : List ℕ). get_or x 0 0) e)

key_minus : (k : Key) (ds : List ℕ) → key_text k ≡ 45 ∷ ds → ⊥
key_minus k ds e = omega (arith, letter k, ap (λ (x : List ℕ). get_or x 0 0) e)

number_minus : (n : ℕ) (ds : List ℕ) → n < 2 ^ 63 → decimal n ≡ 45 ∷ ds → ⊥
number_minus n ds small e = let d = first_digit n small in omega (arith, d.0, ap (λ (x : List ℕ). get_or x 0 0) e)

pub same_number : (m n : ℕ) → m < 2 ^ 63 → n < 2 ^ 63 → decimal m ≡ decimal n → m ≡ n
same_number m n p q e = decimal_injective m n (omega arith) (omega arith) e

pub same_token : (t u : Token) → IsToken t → IsToken u → token_text t ≡ token_text u → t ≡ u
same_token (Word k) (Word m) p q e = ap Word (same_key k m e)
same_token (Word k) (Number n) p q e = absurd (key_number k n q e)
same_token (Word k) (Minus n) p q e = absurd (key_minus k (decimal n) e)
same_token (Number n) (Word k) p q e = absurd (key_number k n p (sym e))
same_token (Number m) (Number n) p q e = ap Number (same_number m n p q e)
same_token (Number m) (Minus n) p q e = absurd (number_minus m (decimal n) p e)
same_token (Minus n) (Word k) p q e = absurd (key_minus k (decimal n) (sym e))
same_token (Minus m) (Number n) p q e = absurd (number_minus n (decimal m) q (sym e))
same_token (Minus m) (Minus n) p q e = ap Minus (same_number m n p.1 q.1 (ap (drop 1) e))
