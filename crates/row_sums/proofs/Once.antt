-- Lists of rising numbers, one number more.
use Rattle.std.proofs.Common.{◌≡◌, ℕ, ◌<◌, ◌+◌, Bool, cond, List, [], ◌∷◌, ◌++◌, ◌∙◌, ap, sym, subst, arith}
use Rattle.std.specs.Prelude.{All, filter}
use Rattle.std.specs.List.{range_with_len}
use Rattle.std.proofs.lemmas.List.Elements.{All-filter, filter-append}
use Rattle.std.proofs.lemmas.List.FromFn.{get_or-range_with_len, length-range_with_len}
use Rattle.stow_data.proofs.Members.{range-more}

-- the numbers below i that pass a test are below i
pub all_below : (t : ℕ → Bool) (i : ℕ) → All (λ w. w < i) (filter t (range_with_len 0 i))
all_below t i = All-filter t (λ w. w < i) (range_with_len 0 i) (λ k d l. let n = length-range_with_len 0 i in let e = get_or-range_with_len 0 i k d (omega (arith, l, n)) in omega (arith, e, l, n))

pub filter_next : (t : ℕ → Bool) (i : ℕ) → filter t (range_with_len 0 (i + 1)) ≡ filter t (range_with_len 0 i) ++ cond (t i) (i ∷ []) []
filter_next t i =
    let last : 0 + i ≡ i = omega arith in
    ap (filter t) (range-more 0 i ∙ ap (λ (k : ℕ). range_with_len 0 i ++ k ∷ []) last) ∙ filter-append t (range_with_len 0 i) (i ∷ [])

-- a list that is known, with one number more
pub next : (t : ℕ → Bool) (i : ℕ) (old new : List ℕ) → old ≡ filter t (range_with_len 0 i) → (All (λ w. w < i) old → new ≡ old ++ cond (t i) (i ∷ []) []) → new ≡ filter t (range_with_len 0 (i + 1))
next t i old new e h =
    h (subst (All (λ w. w < i)) (sym e) (all_below t i)) ∙ ap (λ (xs : List ℕ). xs ++ cond (t i) (i ∷ []) []) e ∙ sym (filter_next t i)
