-- The test of rows says whether they are equal.
use Rattle.std.proofs.Common.{◌≡◌, ℕ, Bool, true, false, ◌&&◌, ◌==◌, List, [], ◌∷◌, refl, sym, arith}
use Rattle.std.specs.Prelude.{nat_eq}
use Rattle.std.specs.Cmp.Lexicographic.{pointwise}
use Rattle.std.proofs.lemmas.Bool.Decides.{nat_tests}
use Rattle.zero_one_rows.specs.declared.program.Row.{Row}
use Rattle.zero_one_rows.specs.declared.program.Row.TheVariants.{Flow, Start, Cell, Support, Twenty, Block, Hatch, Weight, Apart, Cross}
use Rattle.certificate.specs.Entries.{same_row}

both : (a b : Bool) → (a && b) ≡ true → (a ≡ true) × (b ≡ true)
both true b h = (refl, h)
both false b h = absurd (grind arith)

number : (a b : ℕ) → (a == b) ≡ true → a ≡ b
number a b h = grind (arith, nat_tests)

itself : (a : ℕ) → (a == a) ≡ true
itself a = grind (arith, nat_tests)

and_true : (a b : Bool) → a ≡ true → b ≡ true → (a && b) ≡ true
and_true a b h k = grind arith

chain : (xs ys : List ℕ) → pointwise nat_eq xs ys ≡ true → xs ≡ ys
chain [] [] h = refl
chain [] (y ∷ ys) h = absurd (grind arith)
chain (x ∷ xs) [] h = absurd (grind arith)
chain (x ∷ xs) (y ∷ ys) h = let b = both (nat_eq x y) (pointwise nat_eq xs ys) h in let e : x ≡ y = number x y b.0 in let k : xs ≡ ys = chain xs ys b.1 in cc

chain_itself : (xs : List ℕ) → pointwise nat_eq xs xs ≡ true
chain_itself [] = refl
chain_itself (x ∷ xs) = and_true _ _ (itself x) (chain_itself xs)

two : (a b c d : ℕ) → ((a == c) && (b == d)) ≡ true → (a ≡ c) × (b ≡ d)
two a b c d h = let r = both (a == c) (b == d) h in (number a c r.0, number b d r.1)

two_itself : (a b : ℕ) → ((a == a) && (b == b)) ≡ true
two_itself a b = and_true _ _ (itself a) (itself b)

pub same_equal : (r s : Row) → same_row r s ≡ true → r ≡ s
same_equal (Flow q i g) (Flow q' i' g') h = let a = both (q == q') _ h in let b = two i g i' g' a.1 in let e : q ≡ q' = number q q' a.0 in let f : i ≡ i' = b.0 in let k : g ≡ g' = b.1 in cc
same_equal (Start q p) (Start q' p') h = let b = two q p q' p' h in let f : q ≡ q' = b.0 in let k : p ≡ p' = b.1 in cc
same_equal (Cell i l) (Cell i' l') h = let b = two i l i' l' h in let f : i ≡ i' = b.0 in let k : l ≡ l' = b.1 in cc
same_equal (Support i l) (Support i' l') h = let b = two i l i' l' h in let f : i ≡ i' = b.0 in let k : l ≡ l' = b.1 in cc
same_equal (Twenty i l) (Twenty i' l') h = let b = two i l i' l' h in let f : i ≡ i' = b.0 in let k : l ≡ l' = b.1 in cc
same_equal (Block i l) (Block i' l') h = let b = two i l i' l' h in let f : i ≡ i' = b.0 in let k : l ≡ l' = b.1 in cc
same_equal (Hatch w j l d) (Hatch w' j' l' d') h =
    let a = both (w == w') _ h in let b = both (j == j') _ a.1 in let c = two l d l' d' b.1 in
    let e : w ≡ w' = number w w' a.0 in let f : j ≡ j' = number j j' b.0 in let g : l ≡ l' = c.0 in let k : d ≡ d' = c.1 in cc
same_equal (Weight i k) (Weight i' k') h = let b = two i k i' k' h in let f : i ≡ i' = b.0 in let g : k ≡ k' = b.1 in cc
same_equal (Apart i e p q) (Apart i' e' p' q') h =
    let a = both (i == i') _ h in let b = both (e == e') _ a.1 in let c = two p q p' q' b.1 in
    let l : i ≡ i' = number i i' a.0 in let f : e ≡ e' = number e e' b.0 in let g : p ≡ p' = c.0 in let k : q ≡ q' = c.1 in cc
same_equal (Cross l p c) (Cross l' p' c') h =
    let a = both (l == l') _ h in let b = both (p == p') _ a.1 in let e : l ≡ l' = number l l' a.0 in let f : p ≡ p' = number p p' b.0 in let g : c ≡ c' = chain c c' b.1 in cc
same_equal r s h = let e : false ≡ true = h in absurd (grind arith)

pub same_itself : (r : Row) → same_row r r ≡ true
same_itself (Flow q i g) = and_true _ _ (itself q) (two_itself i g)
same_itself (Start q p) = two_itself q p
same_itself (Cell i l) = two_itself i l
same_itself (Support i l) = two_itself i l
same_itself (Twenty i l) = two_itself i l
same_itself (Block i l) = two_itself i l
same_itself (Hatch w j l d) = and_true _ _ (itself w) (and_true _ _ (itself j) (two_itself l d))
same_itself (Weight i k) = two_itself i k
same_itself (Apart i e p q) = and_true _ _ (itself i) (and_true _ _ (itself e) (two_itself p q))
same_itself (Cross l p c) = and_true _ _ (itself l) (and_true _ _ (itself p) (chain_itself c))

pub bits_equal : (a b : Bool) → (a ≡ true → b ≡ true) → (b ≡ true → a ≡ true) → a ≡ b
bits_equal true b f g = sym (f refl)
bits_equal false true f g = g refl
bits_equal false false f g = refl
