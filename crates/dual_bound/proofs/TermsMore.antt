-- Terms listed one after the other.
use Rattle.std.proofs.Common.{◌≡◌, ℕ, zero, suc, ◌+◌, ◌<◌, List, [], ◌∷◌, ◌++◌, length, map, take, get_or, arith, refl, sym, ◌∙◌, ap, add-one}
use Rattle.std.proofs.lemmas.List.{map-append}
use Rattle.row_matrix.specs.declared.entries.Term.{Term}

take_one : (xs : List ℕ) (i : ℕ) → i < length xs → take (suc i) xs ≡ take i xs ++ get_or xs i 0 ∷ []
take_one [] i lt = absurd (omega arith)
take_one (x ∷ xs) zero lt = refl
take_one (x ∷ xs) (suc i) lt = ap (λ (ys : List ℕ). x ∷ ys) (take_one xs i (omega arith))

pub vars_more : (ts : List Term) (t : Term) (xs : List ℕ) (i : ℕ) → map (λ t. t.at) ts ≡ take i xs → i < length xs → t.at ≡ get_or xs i 0 → map (λ t. t.at) (ts ++ t ∷ []) ≡ take (i + 1) xs
vars_more ts t xs i e lt here =
    map-append (λ (t : Term). t.at) ts (t ∷ []) ∙ ap (λ (ys : List ℕ). ys ++ t.at ∷ []) e ∙ ap (λ (v : ℕ). take i xs ++ v ∷ []) here
    ∙ rw add-one (sym (take_one xs i lt))

pub read_there : (xs : List ℕ) (i x : ℕ) → i < length xs → x ≡ get_or xs i x → x ≡ get_or xs i 0
read_there [] i x lt e = absurd (omega arith)
read_there (y ∷ xs) zero x lt e = e
read_there (y ∷ xs) (suc i) x lt e = read_there xs i x (omega arith) e
