-- Tests of half-cells, and terms of rows.
use Rattle.std.proofs.Common.{◌≡◌, ℕ, zero, suc, ◌<◌, Bool, true, false, pos, ◌-ℤ◌, ◌≤ℤ◌, arith, refl, sym, ◌∙◌, ap, ⊎_elim, subst}
use Rattle.std.specs.Prelude.{◌==◌, ◌&&◌}
use Rattle.std.proofs.lemmas.Bool.{cases_eq, both_ways, eqb-true, eq-eqb, and_parts, and_from, not-true, not_from_false}
use borrow.Author.Differences.{ints}
use Rattle.proof_trees.specs.Program.{sum_to, where_set}
use Rattle.stow_data.specs.declared.geometry.Span.{Span}
use Rattle.stow_data.specs.declared.geometry.Span.TheVariants.{Fore, Aft, Both}
use Rattle.stow_data.specs.declared.geometry.Place.{Place}
use Rattle.stow_data.specs.declared.geometry.Half.{Half}
use Rattle.stow_data.specs.Ship.{TakesSide, HasHalf}
use Rattle.zero_one_rows.specs.Rows.{takes, covers, bit, less}

pub takes_true : (s : Span) (b : Bool) → TakesSide s b → takes s b ≡ true
takes_true Fore b h = not_from_false b h
takes_true Aft b h = h
takes_true Both b h = refl

pub takes_from : (s : Span) (b : Bool) → takes s b ≡ true → TakesSide s b
takes_from Fore b h = not-true b h
takes_from Aft b h = h
takes_from Both b h = tt

pub covers_true : (p : Place) (h : Half) → HasHalf p h → covers p h ≡ true
covers_true p h has = and_from _ _ (eq-eqb _ _ (sym has.same_stack)) (and_from _ _ (eq-eqb _ _ (sym has.same_tier)) (takes_true p.span h.aft has.side))

pub covers_from : (p : Place) (h : Half) → covers p h ≡ true → HasHalf p h
covers_from p h t = let a = and_parts (p.stack == h.stack) _ t in let b = and_parts (p.tier == h.tier) _ a.1 in
    record { same_stack = sym (eqb-true _ _ a.0); same_tier = sym (eqb-true _ _ b.0); side = takes_from p.span h.aft b.1 }

-- a side of the place
pub some_side : (p : Place) → (side : Bool) × HasHalf p (record { stack = p.stack; tier = p.tier; aft = side })
some_side p = go p.span refl
  where
    go : (s : Span) → p.span ≡ s → (side : Bool) × HasHalf p (record { stack = p.stack; tier = p.tier; aft = side })
    go Fore e = (false, record { same_stack = refl; same_tier = refl; side = subst (λ (s : Span). TakesSide s false) (sym e) refl })
    go Aft e = (true, record { same_stack = refl; same_tier = refl; side = subst (λ (s : Span). TakesSide s true) (sym e) refl })
    go Both e = (true, record { same_stack = refl; same_tier = refl; side = subst (λ (s : Span). TakesSide s true) (sym e) tt })

-- terms
pub less_low : (t a : Bool) → where_set t (less a) ≤ℤ pos 0
less_low true true = omega (arith, ints)
less_low true false = omega (arith, ints)
less_low false a = omega (arith, ints)

pub less_is : (t a : Bool) → t ≡ true → a ≡ true → where_set t (less a) ≡ pos 0 -ℤ pos 1
less_is true true h k = refl
less_is true false h k = absurd (both_ways false refl k)
less_is false a h k = absurd (both_ways false refl h)

-- -a - b
pub two_low : (t a b : Bool) → where_set t (less a -ℤ bit b) ≤ℤ pos 0
two_low true true true = omega (arith, ints)
two_low true true false = omega (arith, ints)
two_low true false true = omega (arith, ints)
two_low true false false = omega (arith, ints)
two_low false a b = omega (arith, ints)

pub two_first : (t a b : Bool) → t ≡ true → a ≡ true → where_set t (less a -ℤ bit b) ≤ℤ (pos 0 -ℤ pos 1)
two_first true true true h k = omega (arith, ints)
two_first true true false h k = omega (arith, ints)
two_first true false b h k = absurd (both_ways false refl k)
two_first false a b h k = absurd (both_ways false refl h)

pub two_second : (t a b : Bool) → t ≡ true → b ≡ true → where_set t (less a -ℤ bit b) ≤ℤ (pos 0 -ℤ pos 1)
two_second true true true h k = omega (arith, ints)
two_second true false true h k = omega (arith, ints)
two_second true true false h k = absurd (both_ways false refl k)
two_second true false false h k = absurd (both_ways false refl k)
two_second false a b h k = absurd (both_ways false refl h)

-- a - b, where a never holds
pub gap_low : (t a b : Bool) → (t && a) ≡ false → where_set t (bit a -ℤ bit b) ≤ℤ pos 0
gap_low true true b h = absurd (both_ways true h refl)
gap_low true false true h = omega (arith, ints)
gap_low true false false h = omega (arith, ints)
gap_low false a b h = omega (arith, ints)

pub gap_is : (t a b : Bool) → (t && a) ≡ false → t ≡ true → b ≡ true → where_set t (bit a -ℤ bit b) ≤ℤ (pos 0 -ℤ pos 1)
gap_is true true b h k l = absurd (both_ways true h refl)
gap_is true false true h k l = omega (arith, ints)
gap_is true false false h k l = absurd (both_ways false refl l)
gap_is false a b h k l = absurd (both_ways false refl k)

-- one number that passes counts
pub counts_one : (n : ℕ) (t : ℕ → Bool) (a : ℕ) → a < n → t a ≡ true → pos 1 ≤ℤ sum_to n (λ v. where_set (t v) (bit (v == a)))
counts_one zero t a l h = absurd (omega arith)
counts_one (suc n) t a l h = ⊎_elim
    (λ (e : a ≡ n). let f : where_set (t n) (bit (n == a)) ≡ pos 1 = full (t n) (n == a) (ap t (sym e) ∙ h) (eq-eqb n a (sym e)) in omega (arith, ints, low n))
    (λ (ne : a ≡ n → ⊥). omega (arith, ints, counts_one n t a (omega arith) h, term (t n) (n == a)))
    (cases_eq a n)
  where
    full : (b c : Bool) → b ≡ true → c ≡ true → where_set b (bit c) ≡ pos 1
    full true true h k = refl
    full true false h k = absurd (both_ways false refl k)
    full false c h k = absurd (both_ways false refl h)

    term : (b c : Bool) → pos 0 ≤ℤ where_set b (bit c)
    term true true = omega (arith, ints)
    term true false = omega (arith, ints)
    term false c = omega (arith, ints)

    low : (n : ℕ) → pos 0 ≤ℤ sum_to n (λ v. where_set (t v) (bit (v == a)))
    low zero = omega (arith, ints)
    low (suc n) = omega (arith, ints, low n, term (t n) (n == a))
