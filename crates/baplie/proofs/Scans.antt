-- How a list of segments is scanned for the first fault, and cut at the first UNT or UNZ.
use Rattle.std.proofs.Common.{◌≡◌, ℕ, suc, ◌+◌, ◌<◌, ◌≤◌, List, [], ◌∷◌, ◌++◌, length, length-append, get_or, take, refl, ap, ◌∙◌, arith, cond, not, ◌||◌, true, false, Bool, Option, Some, None, append_assoc, add-zero}
use Rattle.std.proofs.lemmas.List.{append-nil, take_at}
use Rattle.std.specs.List.{flat_map, list_any, position_or_len}
use Rattle.edifact_segments.specs.declared.segments.Segment.{Segment}
use Rattle.baplie.specs.declared.causes.Cause.{Cause}
use Rattle.baplie.specs.Finding.{or_later, scan}
use Rattle.baplie.specs.Segments.{closes}

pub none≢some : {A : Type 0} {x : A} → Some x ≡ None → ⊥
none≢some e = cc

abbrev pub Pick : Type 0
Pick = List Segment → Segment → Option Cause

-- behind segments without a fault
pub scan-append : (pick : Pick) (n : ℕ) (before xs ys : List Segment) → scan pick n before xs ≡ None → scan pick n before (xs ++ ys) ≡ scan pick (n + length xs) (before ++ xs) ys
scan-append pick n before [] ys h = rw (add-zero, append-nil before) refl
scan-append pick n before (x ∷ xs) ys h = go (pick before x) (scan-append pick (n + 1) (before ++ x ∷ []) xs ys) h
  where
    same : scan pick ((n + 1) + length xs) ((before ++ x ∷ []) ++ xs) ys ≡ scan pick (n + suc (length xs)) (before ++ x ∷ xs) ys
    same =
        let e : (n + 1) + length xs ≡ n + suc (length xs) = omega arith in
        ap (λ k. scan pick k ((before ++ x ∷ []) ++ xs) ys) e ∙ ap (λ b. scan pick (n + suc (length xs)) b ys) (append_assoc before (x ∷ []) xs)

    go : (r : Option Cause) → (scan pick (n + 1) (before ++ x ∷ []) xs ≡ None → scan pick (n + 1) (before ++ x ∷ []) (xs ++ ys) ≡ scan pick ((n + 1) + length xs) ((before ++ x ∷ []) ++ xs) ys)
        → or_later n r (scan pick (n + 1) (before ++ x ∷ []) xs) ≡ None → or_later n r (scan pick (n + 1) (before ++ x ∷ []) (xs ++ ys)) ≡ scan pick (n + suc (length xs)) (before ++ x ∷ xs) ys
    go None f e = f e ∙ same
    go (Some c) f e = absurd (none≢some e)

-- the segments in front have no fault either
pub scan-front : (pick : Pick) (n : ℕ) (before xs ys : List Segment) → scan pick n before (xs ++ ys) ≡ None → scan pick n before xs ≡ None
scan-front pick n before [] ys h = refl
scan-front pick n before (x ∷ xs) ys h = go (pick before x) (scan-front pick (n + 1) (before ++ x ∷ []) xs ys) h
  where
    go : (r : Option Cause) → (scan pick (n + 1) (before ++ x ∷ []) (xs ++ ys) ≡ None → scan pick (n + 1) (before ++ x ∷ []) xs ≡ None)
        → or_later n r (scan pick (n + 1) (before ++ x ∷ []) (xs ++ ys)) ≡ None → or_later n r (scan pick (n + 1) (before ++ x ∷ []) xs) ≡ None
    go None f e = f e
    go (Some c) f e = absurd (none≢some e)

-- the first segment has no fault, and none has what is behind it
pub scan-first : (pick : Pick) (n : ℕ) (before ys : List Segment) (x : Segment) → scan pick n before (x ∷ ys) ≡ None → (pick before x ≡ None) × (scan pick (n + 1) (before ++ x ∷ []) ys ≡ None)
scan-first pick n before ys x h = go (pick before x) h
  where
    go : (r : Option Cause) → or_later n r (scan pick (n + 1) (before ++ x ∷ []) ys) ≡ None → (r ≡ None) × (scan pick (n + 1) (before ++ x ∷ []) ys ≡ None)
    go None e = (refl, e)
    go (Some c) e = absurd (none≢some e)

pub scan-cons : (pick : Pick) (n : ℕ) (before ys : List Segment) (x : Segment) → pick before x ≡ None → scan pick n before (x ∷ ys) ≡ scan pick (n + 1) (before ++ x ∷ []) ys
scan-cons pick n before ys x h = ap (λ r. or_later n r (scan pick (n + 1) (before ++ x ∷ []) ys)) h

-- ## Tests

pub neither : (p q : Bool) → (p || q) ≡ false → (p ≡ false) × (q ≡ false)
neither false q h = (refl, h)
neither true q h = cc

pub any-append : (test : Segment → Bool) (xs ys : List Segment) → list_any test xs ≡ false → list_any test ys ≡ false → list_any test (xs ++ ys) ≡ false
any-append test [] ys h k = k
any-append test (x ∷ xs) ys h k =
    let p = neither (test x) (list_any test xs) h in
    rw (p.0, any-append test xs ys p.1 k) refl

-- the segments up to the first UNT or UNZ
pub place-of_end : (xs ys : List Segment) (u : Segment) → list_any closes xs ≡ false → closes u ≡ true → position_or_len closes (xs ++ u ∷ ys) ≡ length xs
place-of_end [] ys u h k = rw k refl
place-of_end (x ∷ xs) ys u h k =
    let p = neither (closes x) (list_any closes xs) h in
    rw (p.0, place-of_end xs ys u p.1 k) (omega arith)

pub cut-at_end : (xs ys : List Segment) (u : Segment) → list_any closes xs ≡ false → closes u ≡ true → take (position_or_len closes (xs ++ u ∷ ys)) (xs ++ u ∷ ys) ≡ xs
cut-at_end xs ys u h k = ap (λ n. take n (xs ++ u ∷ ys)) (place-of_end xs ys u h k) ∙ take_at xs (u ∷ ys) (length xs) refl

-- none of them closes
pub open-cut : (xs : List Segment) → list_any closes (take (position_or_len closes xs) xs) ≡ false
open-cut [] = refl
open-cut (x ∷ xs) = go (closes x) refl (open-cut xs)
  where
    go : (t : Bool) → closes x ≡ t → list_any closes (take (position_or_len closes xs) xs) ≡ false → list_any closes (take (cond (not t) (1 + position_or_len closes xs) 0) (x ∷ xs)) ≡ false
    go true e h = refl
    go false e h = let k : 1 + position_or_len closes xs ≡ suc (position_or_len closes xs) = omega arith in rw (k, e, h) refl

-- ## Pieces of a joined list

-- with the next piece, what is joined isn't longer than all
pub length-pieces : {A : Type 0} (f : A → List Segment) (xs : List A) (i : ℕ) (d : A) → i < length xs → length (flat_map f (take i xs)) + length (f (get_or xs i d)) ≤ length (flat_map f xs)
length-pieces f [] i d h = absurd (omega arith)
length-pieces f (x ∷ xs) ℕ.zero d h = omega (arith, length-append (f x) (flat_map f xs))
length-pieces f (x ∷ xs) (suc i) d h = omega (arith, length-append (f x) (flat_map f xs), length-append (f x) (flat_map f (take i xs)), length-pieces f xs i d (omega arith))
