-- Rows and lines of words.
use Rattle.std.proofs.Common.{◌≡◌, ◌≢◌, ◌<◌, ◌≤◌, ◌^◌, ◌%◌, ℕ, zero, suc, Bool, true, List, [], ◌∷◌, length, get_or, map, Some, None, refl, sym, ◌∙◌, ap, subst, arith}
use Rattle.std.specs.Prelude.{Option, All, IfSome, MatchOption, ◌&&◌, ◌==◌, nat_le, if◌then◌else◌}
use Rattle.zero_one_rows.specs.declared.program.Row.{Row}
use Rattle.zero_one_rows.specs.declared.program.Row.TheVariants.{Flow, Start, Cell, Support, Twenty, Block, Hatch, Weight, Apart, Cross}
use Rattle.std.proofs.lemmas.Bool.{le-leb, eq-eqb}
use Rattle.certificate.specs.declared.words.Key.{Key}
use Rattle.certificate.specs.declared.words.Token.{Token}
use Rattle.certificate.specs.declared.words.Token.TheVariants.{Word, Number}
use Rattle.certificate.specs.Text.{numbers_of}
use Rattle.certificate.specs.Grammar.{IsRow, IsEven}
use Rattle.certificate.specs.Reading.{row_of_two, row_of_three, row_of_four, row_of_chain, family_key, row_words}

abbrev IsNothing : Option Row → Type 0
IsNothing None = Unit {0}
IsNothing (Some r) = ⊥

-- ## Numbers

number_at : (ns : List ℕ) (i : ℕ) (d : Token) → i < length (map Number ns) → get_or (map Number ns) i d ≡ Number (get_or ns i 0)
number_at [] i d l = absurd (omega arith)
number_at (n ∷ ns) zero d l = refl
number_at (n ∷ ns) (suc i) d l = number_at ns i d (omega arith)

pub length_numbers : (ns : List ℕ) → length (map Number ns) ≡ length ns
length_numbers [] = refl
length_numbers (n ∷ ns) = ap suc (length_numbers ns)

pub no_numbers : (words : List Token) (i : ℕ) (d : Token) → i < length words → ((n : ℕ) → n < 2 ^ 32 → Number n ≢ get_or words i d) → (ns : List ℕ) → All (λ n. n < 2 ^ 32) ns → map Number ns ≢ words
no_numbers words i d l bad ns small same =
    let low : i < length (map Number ns) = omega (arith, ap length same) in
    bad (get_or ns i 0) (small i 0 (omega (arith, length_numbers ns))) (sym (number_at ns i d low) ∙ ap (λ (x : List Token). get_or x i d) same)

-- ## Rows

even_test : (chain : List ℕ) → 4 ≤ length chain → length chain ≤ 12 → length chain % 2 ≡ 0 → (nat_le 4 (length chain) && (nat_le (length chain) 12 && (length chain % 2 == 0))) ≡ true
even_test chain a b c =
    let p : nat_le 4 (length chain) ≡ true = le-leb 4 (length chain) a in
    let q : nat_le (length chain) 12 ≡ true = le-leb (length chain) 12 b in
    let r : (length chain % 2 == 0) ≡ true = eq-eqb (length chain % 2) 0 c in
    λ i. p i && (q i && r i)

-- what the row of a family and of numbers is
pub record Makes (k : Key) (ns : List ℕ) (result : Option Row) : Type 0 where
  pub two : (a b : ℕ) → ns ≡ a ∷ b ∷ [] → result ≡ row_of_two k a b
  pub three : (a b c : ℕ) → ns ≡ a ∷ b ∷ c ∷ [] → result ≡ row_of_three k a b c
  pub four : (a b c d : ℕ) → ns ≡ a ∷ b ∷ c ∷ d ∷ [] → result ≡ row_of_four k a b c d
  pub many : (l p a b c : ℕ) (chain : List ℕ) → ns ≡ l ∷ p ∷ a ∷ b ∷ c ∷ chain → result ≡ row_of_chain k l p (a ∷ b ∷ c ∷ chain)

pub made : (r : Row) (result : Option Row) → IsEven r → Makes (family_key r) (numbers_of r) result → result ≡ Some r
made (Flow q i g) result e m = m.three q i g refl
made (Start q p) result e m = m.two q p refl
made (Cell i h) result e m = m.two i h refl
made (Support i h) result e m = m.two i h refl
made (Twenty i h) result e m = m.two i h refl
made (Block j h) result e m = m.two j h refl
made (Hatch w j h d) result e m = m.four w j h d refl
made (Weight i k) result e m = m.two i k refl
made (Apart i x p q) result e m = m.four i x p q refl
made (Cross l p []) result e m = absurd (omega (arith, e))
made (Cross l p (a ∷ [])) result e m = absurd (omega (arith, e))
made (Cross l p (a ∷ b ∷ [])) result e m = absurd (omega (arith, e))
made (Cross l p (a ∷ b ∷ c ∷ chain)) result e m =
    m.many l p a b c chain refl ∙ ap (λ (t : Bool). if t then Some (Cross l p (a ∷ b ∷ c ∷ chain)) else None) (even_test (a ∷ b ∷ c ∷ chain) e.0 e.1 e.2)

numbers_same : (ms ns : List ℕ) → map Number ms ≡ map Number ns → ms ≡ ns
numbers_same [] [] e = refl
numbers_same [] (n ∷ ns) e = absurd (omega (arith, ap length e))
numbers_same (m ∷ ms) [] e = absurd (omega (arith, ap length e))
numbers_same (m ∷ ms) (n ∷ ns) e =
    let h : m ≡ n = cc in
    let t : map Number ms ≡ map Number ns = cc in
    let k = numbers_same ms ns t in
    λ i. h i ∷ k i

pub row_answer : (k : Key) (ns : List ℕ) (rest words : List Token) (result : Option Row) → words ≡ Word k ∷ rest → map Number ns ≡ rest → All (λ n. n < 2 ^ 32) ns → Makes k ns result
    → IfSome result (λ r. (family_key r ≡ k) × (numbers_of r ≡ ns) × IsEven r)
    → MatchOption result ((r : Row) → IsRow r → row_words r ≢ words) (λ r. (row_words r ≡ words) × IsRow r)
row_answer k ns rest words None are is small m found = λ r row same.
    let first : Word (family_key r) ≡ Word k = cc in
    let fam : k ≡ family_key r = cc in
    let others : map Number (numbers_of r) ≡ map Number ns = (let e : map Number (numbers_of r) ≡ rest = cc in e) ∙ sym is in
    let num : ns ≡ numbers_of r = sym (numbers_same (numbers_of r) ns others) in
    let m' : Makes (family_key r) (numbers_of r) None = subst (λ (z : Key). Makes z (numbers_of r) None) fam (subst (λ (z : List ℕ). Makes k z None) num m) in
    let e : None ≡ Some r = made r None row.even m' in
    absurd (subst IsNothing e tt)
row_answer k ns rest words (Some r) are is small m found = (
  (let a : Word (family_key r) ≡ Word k = ap Word found.0 in let b : map Number (numbers_of r) ≡ rest = ap (λ (z : List ℕ). map Number z) found.1 ∙ is in (λ i. a i ∷ b i) ∙ sym are),
  record { small = subst (λ (z : List ℕ). All (λ n. n < 2 ^ 32) z) (sym found.1) small; even = found.2 },
)
