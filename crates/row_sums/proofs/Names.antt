-- A name that is in a list stands where its number says.
use Rattle.std.proofs.Common.{◌≡◌, ℕ, zero, suc, ◌<◌, Bool, true, false, cond, ◌&&◌, List, [], ◌∷◌, length, refl, subst, arith}
use Rattle.std.specs.Prelude.{nat_eq, slice_index_or}
use Rattle.std.specs.Cmp.Lexicographic.{pointwise}
use Rattle.std.proofs.lemmas.Bool.{both_ways, and_parts, eqb-true}
use Rattle.stow_data.specs.declared.geometry.Separation.{Separation}
use Rattle.zero_one_rows.specs.Rows.{no_separation}
use Rattle.row_sums.specs.Sums.{class_names, number_in}

pub same_bytes : (xs ys : List ℕ) → pointwise nat_eq xs ys ≡ true → xs ≡ ys
same_bytes [] [] h = refl
same_bytes [] (y ∷ ys) h = absurd (both_ways false refl h)
same_bytes (x ∷ xs) [] h = absurd (both_ways false refl h)
same_bytes (x ∷ xs) (y ∷ ys) h = let b = and_parts (nat_eq x y) (pointwise nat_eq xs ys) h in let e : x ≡ y = eqb-true x y b.0 in let k : xs ≡ ys = same_bytes xs ys b.1 in cc

itself : (xs : List ℕ) → pointwise nat_eq xs xs ≡ true
itself [] = refl
itself (x ∷ xs) = go (nat_eq x x) (grind arith) (itself xs)
  where
    go : (b : Bool) → b ≡ true → pointwise nat_eq xs xs ≡ true → (b && pointwise nat_eq xs xs) ≡ true
    go true e h = h
    go false e h = absurd (both_ways false refl e)

named_here : (x : List ℕ) (xs : List (List ℕ)) (c : List ℕ) → (pointwise nat_eq x c ≡ false → slice_index_or xs (number_in xs c) [] ≡ c) → slice_index_or (x ∷ xs) (number_in (x ∷ xs) c) [] ≡ c
named_here x xs c later = go (pointwise nat_eq x c) refl later
  where
    go : (b : Bool) → pointwise nat_eq x c ≡ b → (b ≡ false → slice_index_or xs (number_in xs c) [] ≡ c) → slice_index_or (x ∷ xs) (cond b 0 (suc (number_in xs c))) [] ≡ c
    go true e later = same_bytes x c e
    go false e later = later refl

pub numbered : (xs : List (List ℕ)) (c : List ℕ) (i : ℕ) → i < length xs → slice_index_or xs i [] ≡ c → slice_index_or xs (number_in xs c) [] ≡ c
numbered [] c i l e = absurd (omega arith)
numbered (x ∷ xs) c zero l e = named_here x xs c (λ f. absurd (both_ways (pointwise nat_eq x c) f (subst (λ (y : List ℕ). pointwise nat_eq x y ≡ true) e (itself x))))
numbered (x ∷ xs) c (suc i) l e = named_here x xs c (λ f. numbered xs c i (omega arith) e)

-- both classes of a separation have a number
pub first_class : (es : List Separation) (e : ℕ) → e < length es → (i : ℕ) × (i < length (class_names es)) × (slice_index_or (class_names es) i [] ≡ (slice_index_or es e no_separation).a)
first_class [] e l = absurd (omega arith)
first_class (x ∷ xs) zero l = (0, omega arith, refl)
first_class (x ∷ xs) (suc e) l = let r = first_class xs e (omega arith) in (suc (suc r.0), omega (arith, r.1), r.2)

pub second_class : (es : List Separation) (e : ℕ) → e < length es → (i : ℕ) × (i < length (class_names es)) × (slice_index_or (class_names es) i [] ≡ (slice_index_or es e no_separation).b)
second_class [] e l = absurd (omega arith)
second_class (x ∷ xs) zero l = (1, omega arith, refl)
second_class (x ∷ xs) (suc e) l = let r = second_class xs e (omega arith) in (suc (suc r.0), omega (arith, r.1), r.2)

pub first_named : (es : List Separation) (e : ℕ) → e < length es → slice_index_or (class_names es) (number_in (class_names es) (slice_index_or es e no_separation).a) [] ≡ (slice_index_or es e no_separation).a
first_named es e l = let r = first_class es e l in numbered (class_names es) (slice_index_or es e no_separation).a r.0 r.1 r.2

pub second_named : (es : List Separation) (e : ℕ) → e < length es → slice_index_or (class_names es) (number_in (class_names es) (slice_index_or es e no_separation).b) [] ≡ (slice_index_or es e no_separation).b
second_named es e l = let r = second_class es e l in numbered (class_names es) (slice_index_or es e no_separation).b r.0 r.1 r.2
