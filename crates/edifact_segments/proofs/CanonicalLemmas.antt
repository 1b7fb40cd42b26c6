-- Canonical form, as a list grows.
use Rattle.std.proofs.Common.{◌≡◌, ℕ, suc, ◌+◌, ◌<◌, ◌≤◌, List, [], ◌∷◌, ◌++◌, length, take, map, get_or, refl, sym, ap, ◌∙◌, arith, length-append, true, false, ◌==◌}
use Rattle.std.proofs.lemmas.Bool.{false≢true, eqb-true}
use Rattle.std.proofs.lemmas.List.{take_more, length-take-le, get_or-map, map_more, length-map}
use Rattle.edifact_segments.specs.Canonical.{in_front, trimmed, canonical}

pub trimmed-push_empty : {A : Type 0} (xs : List (List A)) → trimmed (xs ++ [] ∷ []) ≡ trimmed xs
trimmed-push_empty [] = refl
trimmed-push_empty (x ∷ xs) = ap (in_front x) (trimmed-push_empty xs)

-- nothing is dropped in front of something
in_front-push : {A : Type 0} (x : List A) (ys : List (List A)) (y : List A) → in_front x (ys ++ y ∷ []) ≡ x ∷ (ys ++ y ∷ [])
in_front-push [] [] y = refl
in_front-push [] (z ∷ ys) y = refl
in_front-push (b ∷ bs) ys y = refl

pub trimmed-push_full : {A : Type 0} (xs : List (List A)) (b : A) (bs : List A) → trimmed (xs ++ (b ∷ bs) ∷ []) ≡ xs ++ (b ∷ bs) ∷ []
trimmed-push_full [] b bs = refl
trimmed-push_full (x ∷ xs) b bs = ap (in_front x) (trimmed-push_full xs b bs) ∙ in_front-push x xs (b ∷ bs)

-- one more item, which is empty
pub kept-empty : {A : Type 0} (xs : List (List A)) (i : ℕ) → i < length xs → get_or xs i [] ≡ [] → trimmed (take (i + 1) xs) ≡ trimmed (take i xs)
kept-empty xs i h e = ap trimmed (take_more xs i [] h ∙ ap (λ x. take i xs ++ x ∷ []) e) ∙ trimmed-push_empty (take i xs)

pub push_full : {A : Type 0} (xs : List (List A)) (x : List A) → 0 < length x → trimmed (xs ++ x ∷ []) ≡ xs ++ x ∷ []
push_full xs [] h = absurd (omega arith)
push_full xs (b ∷ bs) h = trimmed-push_full xs b bs

-- one more item, which isn't
pub kept-full : {A : Type 0} (xs : List (List A)) (i : ℕ) → i < length xs → 0 < length (get_or xs i []) → length (trimmed (take (i + 1) xs)) ≡ i + 1
kept-full xs i h e =
    ap (λ ys. length (trimmed ys)) (take_more xs i [] h) ∙ ap length (push_full (take i xs) (get_or xs i []) e) ∙ length-append (take i xs) (get_or xs i [] ∷ []) ∙ ap (λ n. n + 1) (length-take-le i xs (omega arith))

-- an item of a trimmed list
get_or-front : {A : Type 0} (x : List A) (ys zs : List (List A)) (i : ℕ) → ((j : ℕ) → j < length ys → get_or ys j [] ≡ get_or zs j []) → i < length (in_front x ys) → get_or (in_front x ys) i [] ≡ get_or (x ∷ zs) i []
get_or-front [] [] zs i h k = absurd (omega arith)
get_or-front [] (y ∷ ys) zs ℕ.zero h k = refl
get_or-front [] (y ∷ ys) zs (suc i) h k = h i (omega arith)
get_or-front (b ∷ bs) ys zs ℕ.zero h k = refl
get_or-front (b ∷ bs) ys zs (suc i) h k = h i (omega arith)

pub get_or-trimmed : {A : Type 0} (xs : List (List A)) (i : ℕ) → i < length (trimmed xs) → get_or (trimmed xs) i [] ≡ get_or xs i []
get_or-trimmed [] i h = refl
get_or-trimmed (x ∷ xs) i h = get_or-front x (trimmed xs) xs i (get_or-trimmed xs) h

length-in_front : {A : Type 0} (x : List A) (ys : List (List A)) (n : ℕ) → length ys ≤ n → length (in_front x ys) ≤ n + 1
length-in_front [] [] n h = omega arith
length-in_front [] (y ∷ ys) n h = omega arith
length-in_front (b ∷ bs) ys n h = omega arith

pub length-trimmed : {A : Type 0} (xs : List (List A)) → length (trimmed xs) ≤ length xs
length-trimmed [] = omega arith
length-trimmed (x ∷ xs) = omega (arith, length-in_front x (trimmed xs) (length xs) (length-trimmed xs))

pub get_or-canonical : (es : List (List (List ℕ))) (i : ℕ) → i < length (canonical es) → get_or (canonical es) i [] ≡ trimmed (get_or es i [])
get_or-canonical es i h =
    let le : i < length es = omega (arith, length-trimmed (map trimmed es), length-map es (trimmed {A = ℕ})) in
    get_or-trimmed (map trimmed es) i h ∙ get_or-map trimmed es i [] [] le

-- one more element, of which no component is kept, or some are
pub canonical-empty : (es : List (List (List ℕ))) (i : ℕ) → i < length es → length (trimmed (get_or es i [])) ≡ 0 → length (canonical (take (i + 1) es)) ≡ length (canonical (take i es))
canonical-empty es i h e =
    ap (λ ys. length (trimmed ys)) (map_more trimmed es i [] h) ∙ ap (λ x. length (trimmed (map trimmed (take i es) ++ x ∷ []))) (nothing (trimmed (get_or es i [])) e) ∙ ap length (trimmed-push_empty (map trimmed (take i es)))
  where
    nothing : (x : List (List ℕ)) → length x ≡ 0 → x ≡ []
    nothing [] e = refl
    nothing (b ∷ bs) e = absurd (omega arith)

pub canonical-full : (es : List (List (List ℕ))) (i : ℕ) → i < length es → 0 < length (trimmed (get_or es i [])) → length (canonical (take (i + 1) es)) ≡ i + 1
canonical-full es i h e =
    ap (λ ys. length (trimmed ys)) (map_more trimmed es i [] h) ∙ ap length (push_full (map trimmed (take i es)) (trimmed (get_or es i [])) e) ∙ length-append (map trimmed (take i es)) (trimmed (get_or es i []) ∷ []) ∙ ap (λ n. n + 1) (length-map (take i es) (trimmed {A = ℕ}) ∙ length-take-le i es (omega arith))

-- what a test for an empty text tells of it
pub nonempty_by : (x y : List ℕ) → false ≡ (length x == 0) → x ≡ y → 0 < length y
nonempty_by [] y t e = absurd (false≢true t)
nonempty_by (b ∷ bs) y t e = rw (← e) (omega arith)

pub empty_by : (x y : List ℕ) → true ≡ (length x == 0) → x ≡ y → y ≡ []
empty_by [] y t e = sym e
empty_by (b ∷ bs) y t e =
    let none : suc (length bs) ≡ 0 = eqb-true (suc (length bs)) 0 (sym t) in
    absurd (omega arith)

trimmed-in_front : {A : Type 0} (x : List A) (ys : List (List A)) → trimmed ys ≡ ys → trimmed (in_front x ys) ≡ in_front x ys
trimmed-in_front [] [] h = refl
trimmed-in_front [] (y ∷ ys) h = ap (in_front []) h
trimmed-in_front (b ∷ bs) ys h = ap (λ zs. (b ∷ bs) ∷ zs) h

pub trimmed-trimmed : {A : Type 0} (xs : List (List A)) → trimmed (trimmed xs) ≡ trimmed xs
trimmed-trimmed [] = refl
trimmed-trimmed (x ∷ xs) = trimmed-in_front x (trimmed xs) (trimmed-trimmed xs)

map-in_front : (x : List (List ℕ)) (ys : List (List (List ℕ))) → trimmed x ≡ x → map trimmed ys ≡ ys → map trimmed (in_front x ys) ≡ in_front x ys
map-in_front [] [] e h = refl
map-in_front [] (y ∷ ys) e h = ap (λ zs. [] ∷ zs) h
map-in_front (b ∷ bs) ys e h = ap (λ z. z ∷ map trimmed ys) e ∙ ap (λ zs. (b ∷ bs) ∷ zs) h

-- the elements of a canonical list are trimmed
pub map-trimmed-canonical : (es : List (List (List ℕ))) → map trimmed (canonical es) ≡ canonical es
map-trimmed-canonical [] = refl
map-trimmed-canonical (e ∷ es) = map-in_front (trimmed e) (canonical es) (trimmed-trimmed e) (map-trimmed-canonical es)

pub canonical-canonical : (es : List (List (List ℕ))) → canonical (canonical es) ≡ canonical es
canonical-canonical es = ap trimmed (map-trimmed-canonical es) ∙ trimmed-trimmed (map trimmed es)
