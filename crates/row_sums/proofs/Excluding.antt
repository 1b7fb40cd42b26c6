-- Tests that exclude each other.
use Rattle.std.proofs.Common.{◌≡◌, ℕ, ◌-◌, Bool, true, false, ◌&&◌, ◌==◌, refl, sym, ◌∙◌, arith}
use Rattle.std.specs.Prelude.{nat_lt}
use Rattle.std.proofs.lemmas.Bool.{and_parts, eqb-true, ltb-true}

exclude : (a b : Bool) → (a ≡ true → b ≡ true → ⊥) → (a && b) ≡ false
exclude true true h = absurd (h refl refl)
exclude true false h = refl
exclude false b h = refl

pub left_true : (a b : Bool) → (a && b) ≡ true → a ≡ true
left_true a b h = (and_parts a b h).0

pub right_true : (a b : Bool) → (a && b) ≡ true → b ≡ true
right_true a b h = (and_parts a b h).1

-- put and lifted at one call
pub flow_apart : (put lifted i : ℕ) (k rest : Bool) → (nat_lt put lifted && rest) ≡ true → (((put == i) && k) && ((lifted == i) && k)) ≡ false
flow_apart put lifted i k rest h = exclude ((put == i) && k) ((lifted == i) && k) (λ a b.
    let p = eqb-true put i (left_true (put == i) k a) in
    let l = eqb-true lifted i (left_true (lifted == i) k b) in
    let lt = ltb-true put lifted (left_true (nat_lt put lifted) rest h) in omega arith)

-- in two tiers
pub tiers_apart : (t h : ℕ) (s1 s2 u1 u2 a : Bool) → nat_lt 0 h ≡ true → (((s1 && ((t == (h - 1)) && u1)) && a) && ((s2 && ((t == h) && u2)) && a)) ≡ false
tiers_apart t h s1 s2 u1 u2 a l = exclude ((s1 && ((t == (h - 1)) && u1)) && a) ((s2 && ((t == h) && u2)) && a) (λ x y.
    let p = eqb-true t (h - 1) (left_true (t == (h - 1)) u1 (right_true s1 ((t == (h - 1)) && u1) (left_true (s1 && ((t == (h - 1)) && u1)) a x))) in
    let q = eqb-true t h (left_true (t == h) u2 (right_true s2 ((t == h) && u2) (left_true (s2 && ((t == h) && u2)) a y))) in
    let lt = ltb-true 0 h l in omega arith)

pub twenty_apart : (f : Bool) (a b : Bool) → (a && b) ≡ false → ((f && a) && (f && b)) ≡ false
twenty_apart true a b h = h
twenty_apart false a b h = refl

-- lifted at a call, and lifted after it
pub ends_apart : (lifted j : ℕ) (c1 c2 b : Bool) → ((c1 && (b && (lifted == j))) && (c2 && (b && nat_lt j lifted))) ≡ false
ends_apart lifted j c1 c2 b = exclude (c1 && (b && (lifted == j))) (c2 && (b && nat_lt j lifted)) (λ x y.
    let p = eqb-true lifted j (right_true b (lifted == j) (right_true c1 (b && (lifted == j)) x)) in
    let q = ltb-true j lifted (right_true b (nat_lt j lifted) (right_true c2 (b && nat_lt j lifted) y)) in omega arith)

-- put at a call, and put before it
pub puts_apart : (put j : ℕ) (c1 c2 b : Bool) → ((c1 && (put == j)) && (c2 && (nat_lt put j && b))) ≡ false
puts_apart put j c1 c2 b = exclude (c1 && (put == j)) (c2 && (nat_lt put j && b)) (λ x y.
    let p = eqb-true put j (right_true c1 (put == j) x) in
    let q = ltb-true put j (left_true (nat_lt put j) b (right_true c2 (nat_lt put j && b) y)) in omega arith)

-- at two places
pub places_apart : (x p q : ℕ) (a b : Bool) → (p ≡ q → ⊥) → (((x == p) && a) && ((x == q) && b)) ≡ false
places_apart x p q a b h = exclude ((x == p) && a) ((x == q) && b) (λ y z.
    let e = eqb-true x p (left_true (x == p) a y) in
    let f = eqb-true x q (left_true (x == q) b z) in h (sym e ∙ f))
