-- Elements and components from one on, copied one after the other.
use Rattle.std.proofs.Common.{◌≡◌, ℕ, zero, suc, ◌+◌, ◌<◌, ◌≤◌, List, [], ◌∷◌, ◌++◌, length, get_or, take, drop, refl, sym, ◌∙◌, ap, arith}
use Rattle.std.proofs.lemmas.List.{append_assoc, take_all}
use Rattle.edifact_segments.specs.Pieces.{on_last}
use Rattle.edifact_segments.proofs.PieceLemmas.{on_last-push}

pub none_yet : {X : Type 0} (n : ℕ) (xs : List X) → drop n (take n xs) ≡ []
none_yet zero xs = refl
none_yet (suc n) [] = refl
none_yet (suc n) (x ∷ xs) = none_yet n xs

one_suc : {X : Type 0} (n k : ℕ) (xs : List X) (d : X) → n ≤ k → k < length xs → drop n (take (suc k) xs) ≡ drop n (take k xs) ++ get_or xs k d ∷ []
one_suc n k [] d l h = absurd (omega arith)
one_suc zero zero (x ∷ xs) d l h = refl
one_suc (suc n) zero (x ∷ xs) d l h = absurd (omega arith)
one_suc zero (suc k) (x ∷ xs) d l h = ap (λ zs. x ∷ zs) (one_suc zero k xs d (omega arith) (omega arith))
one_suc (suc n) (suc k) (x ∷ xs) d l h = one_suc n k xs d (omega arith) (omega arith)

pub one_more : {X : Type 0} (n k : ℕ) (xs : List X) (d : X) → n ≤ k → k < length xs → drop n (take (k + 1) xs) ≡ drop n (take k xs) ++ get_or xs k d ∷ []
one_more n k xs d l h = let e : k + 1 ≡ suc k = omega arith in ap (λ (j : ℕ). drop n (take j xs)) e ∙ one_suc n k xs d l h

pub all_there : {X : Type 0} (n k : ℕ) (xs : List X) → length xs ≤ k → drop n (take k xs) ≡ drop n xs
all_there n k xs l = ap (drop n) (take_all k xs l)

-- one component more
pub component_more : (front list new : List (List (List ℕ))) (lead e : List (List ℕ)) (from k : ℕ) (text : List ℕ) → from ≤ k → k < length e → list ≡ front ++ (lead ++ drop from (take k e)) ∷ [] → text ≡ get_or e k [] → new ≡ on_last (λ z. z ++ text ∷ []) list → new ≡ front ++ (lead ++ drop from (take (k + 1) e)) ∷ []
component_more front list new lead e from k text l h so_far is more =
    more ∙ ap (on_last (λ z. z ++ text ∷ [])) so_far ∙ on_last-push (λ z. z ++ text ∷ []) front (lead ++ drop from (take k e))
    ∙ ap (λ z. front ++ z ∷ []) (append_assoc lead (drop from (take k e)) (text ∷ []) ∙ ap (λ z. lead ++ z) (ap (λ t. drop from (take k e) ++ t ∷ []) is ∙ sym (one_more from k e [] l h)))

-- one element more
pub element_more : (front list new es : List (List (List ℕ))) (from k : ℕ) (e : List (List ℕ)) → from ≤ k → k < length es → list ≡ front ++ drop from (take k es) → e ≡ get_or es k [] → new ≡ list ++ e ∷ [] → new ≡ front ++ drop from (take (k + 1) es)
element_more front list new es from k e l h so_far is more =
    more ∙ ap (λ z. z ++ e ∷ []) so_far ∙ append_assoc front (drop from (take k es)) (e ∷ []) ∙ ap (λ z. front ++ z) (ap (λ t. drop from (take k es) ++ t ∷ []) is ∙ sym (one_more from k es [] l h))
