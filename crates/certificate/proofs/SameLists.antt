-- Lists of one length of which each item is the same.
use Rattle.std.proofs.Common.{◌≡◌, ℕ, suc, List, [], ◌∷◌, Bool, true, false, length, arith, refl}
use Rattle.std.specs.Bool.{MatchBool}
use Rattle.std.specs.List.{AllWithin, zip}
use Rattle.std.proofs.lemmas.Bool.{both_ways}

same_items : {X : Type 0} (xs ys : List X) → length xs ≡ length ys → AllWithin (λ (p : X × X). p.0 ≡ p.1) (zip xs ys) 0 (length (zip xs ys)) → xs ≡ ys
same_items [] [] e h = refl
same_items [] (y ∷ ys) e h = absurd (omega arith)
same_items (x ∷ xs) [] e h = absurd (omega arith)
same_items (x ∷ xs) (y ∷ ys) e h =
    let first : x ≡ y = h 0 (x, y) (omega arith) (omega arith) in
    let rest : xs ≡ ys = same_items xs ys (omega arith) (λ k d l m. h (suc k) d (omega arith) (omega arith)) in
    λ i. first i ∷ rest i

pub same_from_zip : {X : Type 0} (xs ys : List X) (r : Bool) (No : Type 0) → length xs ≡ length ys → MatchBool r (AllWithin (λ (p : X × X). p.0 ≡ p.1) (zip xs ys) 0 (length (zip xs ys))) No → r ≡ true → xs ≡ ys
same_from_zip xs ys true No e h yes_it_is = same_items xs ys e h
same_from_zip xs ys false No e h yes_it_is = absurd (both_ways false refl yes_it_is)
