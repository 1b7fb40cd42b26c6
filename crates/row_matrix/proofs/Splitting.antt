-- Lists of which each item obeys a rule, in parts.
use Rattle.std.proofs.Common.{◌≡◌, ℕ, zero, suc, ◌<◌, List, [], ◌∷◌, ◌++◌, length, get_or, All, sym, subst, arith}
use Rattle.std.specs.Prelude.{flat_map, map}
use Rattle.std.proofs.lemmas.List.Elements.{All-cons, All-nil, All-head, All-tail}

pub all_left : {X : Type 0} (P : X → Type 0) (xs ys : List X) → All P (xs ++ ys) → All P xs
all_left P [] ys h = All-nil P
all_left P (x ∷ xs) ys h = All-cons P x xs (All-head P x (xs ++ ys) h) (all_left P xs ys (All-tail P x (xs ++ ys) h))

pub all_right : {X : Type 0} (P : X → Type 0) (xs ys : List X) → All P (xs ++ ys) → All P ys
all_right P [] ys h = h
all_right P (x ∷ xs) ys h = all_right P xs ys (All-tail P x (xs ++ ys) h)

-- of one of several lists
pub of_each : {X : Type 0} (f : ℕ → List X) (P : X → Type 0) (ns : List ℕ) (i d : ℕ) → All P (flat_map f ns) → i < length ns → All P (f (get_or ns i d))
of_each f P [] i d h lt = absurd (omega arith)
of_each f P (n ∷ ns) zero d h lt = all_left P (f n) (flat_map f ns) h
of_each f P (n ∷ ns) (suc i) d h lt = of_each f P ns i d (all_right P (f n) (flat_map f ns) h) (omega arith)

pub of_mapped : {X Y : Type 0} (f : X → Y) (P : Y → Type 0) (xs : List X) (i : ℕ) (x : X) → All P (map f xs) → i < length xs → x ≡ get_or xs i x → P (f x)
of_mapped f P [] i x h lt e = absurd (omega arith)
of_mapped {X = X} f P (y ∷ ys) zero x h lt e = subst (λ (z : X). P (f z)) (sym e) (All-head P (f y) (map f ys) h)
of_mapped f P (y ∷ ys) (suc i) x h lt e = of_mapped f P ys i x (All-tail P (f y) (map f ys) h) (omega arith) e
