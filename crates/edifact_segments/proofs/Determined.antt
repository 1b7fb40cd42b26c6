-- The written form of a segment determines its canonical form.
use Rattle.std.proofs.Common.{◌≡◌, ◌≢◌, ℕ, Bool, true, false, ◌==◌, ◌||◌, cond, List, [], ◌∷◌, ◌++◌, map, length, take, drop, refl, sym, ap, ◌∙◌, append_assoc}
use Rattle.std.specs.List.{flat_map}
use Rattle.std.proofs.lemmas.List.{append_cancel_right, take_at, drop_at, append-nil}
use Rattle.std.proofs.lemmas.Bool.{true≢false, eqb-false}
use Rattle.edifact_segments.proofs.CanonicalLemmas.{map-trimmed-canonical}
use Rattle.edifact_segments.specs.Canonical.{trimmed, canonical}
use Rattle.edifact_segments.specs.Written.{is_service, released_byte, released, written_element, written_elements}
use Rattle.edifact_segments.specs.Characters.{Character, Plain, Released, spelled, spelling, with_byte, with_component, in_front_of, elements_of, default_service}

-- the character that is written for a byte of a component
abbrev pub character : ℕ → Character
character b = cond (is_service b) (Released b) (Plain b)

abbrev pub element_characters : List (List ℕ) → List Character
element_characters [] = []
element_characters (c ∷ []) = map character c
element_characters (c ∷ d ∷ cs) = map character c ++ Plain 58 ∷ element_characters (d ∷ cs)

abbrev pub characters : List (List (List ℕ)) → List Character
characters elements = flat_map (λ e. Plain 43 ∷ element_characters e) elements

spelling-append : (xs ys : List Character) → spelling default_service (xs ++ ys) ≡ spelling default_service xs ++ spelling default_service ys
spelling-append [] ys = refl
spelling-append (x ∷ xs) ys = ap (λ t. spelled default_service x ++ t) (spelling-append xs ys) ∙ sym (append_assoc (spelled default_service x) (spelling default_service xs) (spelling default_service ys))

spelled-character : (b : ℕ) → spelled default_service (character b) ≡ released_byte b
spelled-character b = go (is_service b)
  where
    go : (t : Bool) → spelled default_service (cond t (Released b) (Plain b)) ≡ cond t (63 ∷ b ∷ []) (b ∷ [])
    go true = refl
    go false = refl

spelling-text : (t : List ℕ) → spelling default_service (map character t) ≡ released t
spelling-text [] = refl
spelling-text (b ∷ bs) = ap (λ x. x ++ spelling default_service (map character bs)) (spelled-character b) ∙ ap (λ x. released_byte b ++ x) (spelling-text bs)

spelling-element : (e : List (List ℕ)) → spelling default_service (element_characters e) ≡ written_element e
spelling-element [] = refl
spelling-element (c ∷ []) = spelling-text c
spelling-element (c ∷ d ∷ cs) = spelling-append (map character c) (Plain 58 ∷ element_characters (d ∷ cs)) ∙ ap (λ x. x ++ 58 ∷ spelling default_service (element_characters (d ∷ cs))) (spelling-text c) ∙ ap (λ x. released c ++ 58 ∷ x) (spelling-element (d ∷ cs))

pub spelling-characters : (es : List (List (List ℕ))) → spelling default_service (characters es) ≡ written_elements es
spelling-characters [] = refl
spelling-characters (e ∷ es) = spelling-append (Plain 43 ∷ element_characters e) (characters es) ∙ ap (λ x. 43 ∷ x ++ spelling default_service (characters es)) (spelling-element e) ∙ ap (λ x. 43 ∷ written_element e ++ x) (spelling-characters es)

-- the text in front of the first component
abbrev with_text : List ℕ → List (List (List ℕ)) → List (List (List ℕ))
with_text [] es = es
with_text (b ∷ bs) es = with_byte b (with_text bs es)

with_text-is : (t u : List ℕ) (ts : List (List ℕ)) (es : List (List (List ℕ))) → with_text t ((u ∷ ts) ∷ es) ≡ ((t ++ u) ∷ ts) ∷ es
with_text-is [] u ts es = refl
with_text-is (b ∷ bs) u ts es = ap (with_byte b) (with_text-is bs u ts es)

pub none_of : (p q r s : Bool) → (p || q || r || s) ≡ false → (p ≡ false) × (q ≡ false) × (r ≡ false) × (s ≡ false)
none_of true q r s e = absurd (true≢false e)
none_of false true r s e = absurd (true≢false e)
none_of false false true s e = absurd (true≢false e)
none_of false false false true e = absurd (true≢false e)
none_of false false false false e = (refl, refl, refl, refl)

-- a byte of a component stands for itself
in_front_of-character : (b : ℕ) (es : List (List (List ℕ))) → in_front_of default_service (character b) es ≡ with_byte b es
in_front_of-character b es = go (is_service b) refl
  where
    go : (t : Bool) → is_service b ≡ t → in_front_of default_service (cond t (Released b) (Plain b)) es ≡ with_byte b es
    go true e = refl
    go false e =
        let no = none_of (b == 58) (b == 43) (b == 63) (b == 39) e in
        rw (no.1, no.0) refl

elements_of-text : (t : List ℕ) (cs : List Character) → elements_of default_service (map character t ++ cs) ≡ with_text t (elements_of default_service cs)
elements_of-text [] cs = refl
elements_of-text (b ∷ bs) cs = in_front_of-character b (elements_of default_service (map character bs ++ cs)) ∙ ap (with_byte b) (elements_of-text bs cs)

-- an element without components is an empty one
abbrev pub shown : List (List ℕ) → List (List ℕ)
shown [] = [] ∷ []
shown (c ∷ cs) = c ∷ cs

elements_of-element : (e : List (List ℕ)) (cs : List Character) (es : List (List (List ℕ))) → elements_of default_service cs ≡ ([] ∷ []) ∷ es → elements_of default_service (element_characters e ++ cs) ≡ shown e ∷ es
elements_of-element [] cs es h = h
elements_of-element (c ∷ []) cs es h = elements_of-text c cs ∙ ap (with_text c) h ∙ with_text-is c [] [] es ∙ ap (λ x. (x ∷ []) ∷ es) (append-nil c)
elements_of-element (c ∷ d ∷ ds) cs es h =
    let behind = Plain 58 ∷ element_characters (d ∷ ds) in
    ap (elements_of default_service) (append_assoc (map character c) behind cs) ∙ elements_of-text c (behind ++ cs) ∙ ap (λ x. with_text c (with_component x)) (elements_of-element (d ∷ ds) cs es h) ∙ with_text-is c [] (d ∷ ds) es ∙ ap (λ x. (x ∷ d ∷ ds) ∷ es) (append-nil c)

pub elements_of-characters : (es : List (List (List ℕ))) → elements_of default_service (characters es) ≡ ([] ∷ []) ∷ map shown es
elements_of-characters [] = refl
elements_of-characters (e ∷ es) = ap (λ x. ([] ∷ []) ∷ x) (elements_of-element e (characters es) (map shown es) (elements_of-characters es))

-- characters of which no plain one is the release character
abbrev AreSpelled : List Character → Type 0
AreSpelled [] = Unit {0}
AreSpelled (Plain b ∷ cs) = (b ≢ 63) × AreSpelled cs
AreSpelled (Released b ∷ cs) = AreSpelled cs

-- their spelling determines them
unspelled : (xs ys : List Character) → AreSpelled xs → AreSpelled ys → spelling default_service xs ≡ spelling default_service ys → xs ≡ ys
unspelled [] [] f g e = refl
unspelled [] (Plain b ∷ ys) f g e = cc
unspelled [] (Released b ∷ ys) f g e = cc
unspelled (Plain b ∷ xs) [] f g e = cc
unspelled (Released b ∷ xs) [] f g e = cc
unspelled (Plain b ∷ xs) (Plain c ∷ ys) f g e =
    let head : b ≡ c = cc in
    let tail : spelling default_service xs ≡ spelling default_service ys = cc in
    let rest : xs ≡ ys = unspelled xs ys f.1 g.1 tail in
    cc
unspelled (Plain b ∷ xs) (Released c ∷ ys) f g e =
    let head : b ≡ 63 = cc in
    absurd (f.0 head)
unspelled (Released b ∷ xs) (Plain c ∷ ys) f g e =
    let head : c ≡ 63 = cc in
    absurd (g.0 head)
unspelled (Released b ∷ xs) (Released c ∷ ys) f g e =
    let head : b ≡ c = cc in
    let tail : spelling default_service xs ≡ spelling default_service ys = cc in
    let rest : xs ≡ ys = unspelled xs ys f g tail in
    cc

spelled-append : (xs ys : List Character) → AreSpelled xs → AreSpelled ys → AreSpelled (xs ++ ys)
spelled-append [] ys f g = g
spelled-append (Plain b ∷ xs) ys f g = (f.0, spelled-append xs ys f.1 g)
spelled-append (Released b ∷ xs) ys f g = spelled-append xs ys f g

spelled-text : (t : List ℕ) → AreSpelled (map character t)
spelled-text [] = tt
spelled-text (b ∷ bs) = go (is_service b) refl (spelled-text bs)
  where
    go : (t : Bool) → is_service b ≡ t → AreSpelled (map character bs) → AreSpelled (cond t (Released b) (Plain b) ∷ map character bs)
    go true e rest = rest
    go false e rest = (eqb-false b 63 (none_of (b == 58) (b == 43) (b == 63) (b == 39) e).2, rest)

spelled-element : (e : List (List ℕ)) → AreSpelled (element_characters e)
spelled-element [] = tt
spelled-element (c ∷ []) = spelled-text c
spelled-element (c ∷ d ∷ cs) = spelled-append (map character c) (Plain 58 ∷ element_characters (d ∷ cs)) (spelled-text c) ((λ e. eqb-false 58 63 refl e), spelled-element (d ∷ cs))

spelled-characters : (es : List (List (List ℕ))) → AreSpelled (characters es)
spelled-characters [] = tt
spelled-characters (e ∷ es) = ((λ h. eqb-false 43 63 refl h), spelled-append (element_characters e) (characters es) (spelled-element e) (spelled-characters es))

trimmed-shown : (e : List (List ℕ)) → trimmed (shown e) ≡ trimmed e
trimmed-shown [] = refl
trimmed-shown (c ∷ cs) = refl

pub map-trimmed-shown : (es : List (List (List ℕ))) → map trimmed (map shown es) ≡ map trimmed es
map-trimmed-shown [] = refl
map-trimmed-shown (e ∷ es) = ap (λ x. x ∷ map trimmed (map shown es)) (trimmed-shown e) ∙ ap (λ x. trimmed e ∷ x) (map-trimmed-shown es)

-- the written form of elements determines their canonical form
pub elements-determined : (es fs : List (List (List ℕ))) → written_elements (canonical es) ≡ written_elements (canonical fs) → canonical es ≡ canonical fs
elements-determined es fs h =
    let spelt = spelling-characters (canonical es) ∙ h ∙ sym (spelling-characters (canonical fs)) in
    let same : characters (canonical es) ≡ characters (canonical fs) = unspelled (characters (canonical es)) (characters (canonical fs)) (spelled-characters (canonical es)) (spelled-characters (canonical fs)) spelt in
    let read = sym (elements_of-characters (canonical es)) ∙ ap (elements_of default_service) same ∙ elements_of-characters (canonical fs) in
    let shown' : map shown (canonical es) ≡ map shown (canonical fs) = ap (drop 1) read in
    sym (map-trimmed-canonical es) ∙ sym (map-trimmed-shown (canonical es)) ∙ ap (map trimmed) shown' ∙ map-trimmed-shown (canonical fs) ∙ map-trimmed-canonical fs

tag_then : (tag rest : List ℕ) → length tag ≡ 3 → (take 3 (tag ++ rest) ≡ tag) × (drop 3 (tag ++ rest) ≡ rest)
tag_then tag rest e = (take_at tag rest 3 e, drop_at tag rest 3 e)

pub segment-determined : (tag tag' : List ℕ) (es fs : List (List (List ℕ))) → length tag ≡ 3 → length tag' ≡ 3 → tag ++ written_elements (canonical es) ++ 39 ∷ 10 ∷ [] ≡ tag' ++ written_elements (canonical fs) ++ 39 ∷ 10 ∷ [] → (tag ≡ tag') × (canonical es ≡ canonical fs)
segment-determined tag tag' es fs l l' e =
    let front = append_cancel_right (tag ++ written_elements (canonical es)) (tag' ++ written_elements (canonical fs)) (39 ∷ 10 ∷ []) e in
    let s = tag_then tag (written_elements (canonical es)) l in
    let t = tag_then tag' (written_elements (canonical fs)) l' in
    (sym s.0 ∙ ap (take 3) front ∙ t.0, elements-determined es fs (sym s.1 ∙ ap (drop 3) front ∙ t.1))
