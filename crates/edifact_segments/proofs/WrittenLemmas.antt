-- The written form, as a list grows.
use Rattle.std.proofs.Common.{◌≡◌, ℕ, ◌+◌, ◌<◌, List, [], ◌∷◌, ◌++◌, length, take, get_or, refl, sym, ap, ◌∙◌, arith, append_assoc, ◌⊎◌, inl, inr}
use Rattle.std.proofs.lemmas.List.{take_more, flat_map_more, append-nil, length-take-le}
use Rattle.edifact_segments.specs.Canonical.{trimmed, canonical}
use Rattle.edifact_segments.specs.Written.{released, written_element, written_elements}
use Rattle.edifact_segments.proofs.CanonicalLemmas.{get_or-trimmed, get_or-canonical}

-- one more component, behind others
written_element-push : (x : List ℕ) (xs : List (List ℕ)) (y : List ℕ) → written_element ((x ∷ xs) ++ y ∷ []) ≡ written_element (x ∷ xs) ++ 58 ∷ released y
written_element-push x [] y = refl
written_element-push x (z ∷ xs) y = ap (λ t. released x ++ 58 ∷ t) (written_element-push z xs y) ∙ sym (append_assoc (released x) (58 ∷ written_element (z ∷ xs)) (58 ∷ released y))

behind : (xs : List (List ℕ)) (y : List ℕ) → 0 < length xs → written_element (xs ++ y ∷ []) ≡ written_element xs ++ 58 ∷ released y
behind [] y h = absurd (omega arith)
behind (x ∷ xs) y h = written_element-push x xs y

-- the next component of an element is written
pub component_more : (out out' out'' : List ℕ) (c : List (List ℕ)) (i : ℕ) → i < length (trimmed c) → out' ≡ out ++ written_element (take i (trimmed c)) → ((i ≡ 0) × (out'' ≡ out')) ⊎ ((0 < i) × (out'' ≡ out' ++ 58 ∷ [])) → out'' ++ released (get_or c i []) ≡ out ++ written_element (take (i + 1) (trimmed c))
component_more out out' out'' c i h e (inl w) =
    let one : take (i + 1) (trimmed c) ≡ take i (trimmed c) ++ get_or c i [] ∷ [] = take_more (trimmed c) i [] h ∙ ap (λ x. take i (trimmed c) ++ x ∷ []) (get_or-trimmed c i h) in
    let none : take i (trimmed c) ≡ [] = ap (λ k. take k (trimmed c)) w.0 in
    ap (λ p. p ++ released (get_or c i [])) (w.1 ∙ e ∙ ap (λ p. out ++ written_element p) none ∙ append-nil out) ∙ sym (ap (λ p. out ++ written_element p) (one ∙ ap (λ p. p ++ get_or c i [] ∷ []) none))
component_more out out' out'' c i h e (inr w) =
    let one : take (i + 1) (trimmed c) ≡ take i (trimmed c) ++ get_or c i [] ∷ [] = take_more (trimmed c) i [] h ∙ ap (λ x. take i (trimmed c) ++ x ∷ []) (get_or-trimmed c i h) in
    let some : 0 < length (take i (trimmed c)) = omega (arith, length-take-le i (trimmed c)) in
    ap (λ p. p ++ released (get_or c i [])) (w.1 ∙ ap (λ p. p ++ 58 ∷ []) e) ∙ append_assoc (out ++ written_element (take i (trimmed c))) (58 ∷ []) (released (get_or c i [])) ∙ append_assoc out (written_element (take i (trimmed c))) (58 ∷ released (get_or c i [])) ∙ sym (ap (λ p. out ++ p) (ap written_element one ∙ behind (take i (trimmed c)) (get_or c i []) some))

-- the next element of a segment is written
pub element_more : (tag out : List ℕ) (es : List (List (List ℕ))) (i : ℕ) → i < length (canonical es) → out ≡ tag ++ written_elements (take i (canonical es)) → (out ++ 43 ∷ []) ++ written_element (trimmed (get_or es i [])) ≡ tag ++ written_elements (take (i + 1) (canonical es))
element_more tag out es i h e =
    let one : take (i + 1) (canonical es) ≡ take i (canonical es) ++ trimmed (get_or es i []) ∷ [] = take_more (canonical es) i [] h ∙ ap (λ x. take i (canonical es) ++ x ∷ []) (get_or-canonical es i h) in
    append_assoc out (43 ∷ []) (written_element (trimmed (get_or es i []))) ∙ ap (λ p. p ++ 43 ∷ written_element (trimmed (get_or es i []))) e ∙ flat_map_more (λ x. 43 ∷ written_element x) tag (take i (canonical es)) (trimmed (get_or es i [])) ∙ sym (ap (λ p. tag ++ written_elements p) one)
