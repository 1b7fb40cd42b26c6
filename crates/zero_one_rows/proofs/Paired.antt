-- Lists of what is wanted, one more.
use Rattle.std.proofs.Common.{◌≡◌, ℕ, ◌+◌, Bool, true, false, cond, List, [], ◌∷◌, ◌++◌, arith, refl, sym, ◌∙◌, ap, append_assoc}
use Rattle.std.specs.Prelude.{filter, flat_map, map}
use Rattle.std.specs.List.{range_with_len}
use Rattle.std.proofs.lemmas.Grind.{flat_map-append}
use Rattle.std.proofs.lemmas.List.{append-nil, map-append}
use Rattle.stow_data.proofs.Members.{range-more}
use Rattle.zero_one_rows.proofs.Filters.{filter_more}

pub wanted_more : (t : ℕ → Bool) (n : ℕ) (wanted : Bool) (old new : List ℕ) → wanted ≡ t n → new ≡ old ++ cond wanted (n ∷ []) [] → old ≡ filter t (range_with_len 0 n) → new ≡ filter t (range_with_len 0 (n + 1))
wanted_more t n wanted old new w e h =
    e ∙ ap (λ (xs : List ℕ). xs ++ cond wanted (n ∷ []) []) h ∙ ap (λ (b : Bool). filter t (range_with_len 0 n) ++ cond b (n ∷ []) []) w ∙ sym (filter_more t n)

pub mapped_more : {X : Type 0} (mk : ℕ → X) (t : ℕ → Bool) (n : ℕ) (wanted : Bool) (front old new : List X) → wanted ≡ t n → new ≡ old ++ cond wanted (mk n ∷ []) [] → old ≡ front ++ map mk (filter t (range_with_len 0 n)) → new ≡ front ++ map mk (filter t (range_with_len 0 (n + 1)))
mapped_more {X} mk t n wanted front old new w e h =
    e ∙ ap (λ (xs : List X). xs ++ cond wanted (mk n ∷ []) []) h
    ∙ ap (λ (b : Bool). (front ++ map mk (filter t (range_with_len 0 n))) ++ cond b (mk n ∷ []) []) w
    ∙ append_assoc front (map mk (filter t (range_with_len 0 n))) (cond (t n) (mk n ∷ []) [])
    ∙ ap (λ (xs : List X). front ++ xs) (go (t n) ∙ sym (map-append mk (filter t (range_with_len 0 n)) (cond (t n) (n ∷ []) [])) ∙ ap (map mk) (sym (filter_more t n)))
  where
    go : (b : Bool) → map mk (filter t (range_with_len 0 n)) ++ cond b (mk n ∷ []) [] ≡ map mk (filter t (range_with_len 0 n)) ++ map mk (cond b (n ∷ []) [])
    go true = refl
    go false = refl

pub flat_from_one : {Y : Type 0} (f : ℕ → List Y) (n : ℕ) (old new : List Y) → old ≡ flat_map f (range_with_len 1 n) → new ≡ old ++ f (n + 1) → new ≡ flat_map f (range_with_len 1 (n + 1))
flat_from_one {Y} f n old new h e =
    let last : n + 1 ≡ 1 + n = omega arith in
    e ∙ ap (λ (xs : List Y). xs ++ f (n + 1)) h ∙ ap (λ (k : ℕ). flat_map f (range_with_len 1 n) ++ f k) last
    ∙ ap (λ (ys : List Y). flat_map f (range_with_len 1 n) ++ ys) (sym (append-nil (f (1 + n)))) ∙ sym (flat_map-append f (range_with_len 1 n) ((1 + n) ∷ [])) ∙ ap (flat_map f) (sym (range-more 1 n))
