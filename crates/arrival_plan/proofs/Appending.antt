-- One item more of a list that is appended.
use Rattle.std.proofs.Common.{◌≡◌, ℕ, ◌+◌, List, [], ◌∷◌, ◌++◌, take, Some, sym, ap, ◌∙◌, append_assoc}
use Rattle.std.specs.Prelude.{slice_get}
use Rattle.std.proofs.lemmas.List.{take_more}
use Rattle.std.proofs.lemmas.Option.{get_or_from_slice_get, slice_get_within}

pub one_more : {X : Type 0} (old before after xs : List X) (k : ℕ) (x y : X) → before ≡ old ++ take k xs → after ≡ before ++ y ∷ [] → y ≡ x → slice_get xs k ≡ Some x → after ≡ old ++ take (k + 1) xs
one_more {X} old before after xs k x y so_far more same at =
    let next : take (k + 1) xs ≡ take k xs ++ x ∷ [] = take_more xs k x (slice_get_within xs k x at) ∙ ap (λ (z : X). take k xs ++ z ∷ []) (get_or_from_slice_get xs k x x at) in
    more ∙ (ap (λ (z : X). before ++ z ∷ []) same ∙ (ap (λ (zs : List X). zs ++ x ∷ []) so_far ∙ (append_assoc old (take k xs) (x ∷ []) ∙ ap (λ (zs : List X). old ++ zs) (sym next))))
