-- The pairs of a chain, by number.
use Rattle.std.proofs.Common.{◌≡◌, ℕ, ◌-◌, ◌<◌, ◌/◌, List, length, take, drop, ◌+◌, arith, refl, ◌∙◌, ap, get_or}
use Rattle.std.specs.Prelude.{slice_get, Some}
use Rattle.std.proofs.lemmas.Slice.Zip.{length-zip, get_or-zip}
use Rattle.std.proofs.lemmas.Option.{slice_get-get_or}
use Rattle.std.proofs.lemmas.List.{length-take, length-drop, get_or-take, get_or-drop}
use Rattle.zero_one_rows.specs.Chains.{pairs_of}

first_long : (c : List ℕ) → length (take (length c / 2) c) ≡ length c / 2
first_long c = let a = length-take (length c / 2) c in grind (arith, a)

second_long : (c : List ℕ) → length (drop (length c / 2) c) ≡ length c - length c / 2
second_long c = length-drop (length c / 2) c

pub pairs_long : (c : List ℕ) → length (pairs_of c) ≡ length c / 2
pairs_long c =
    let z = length-zip (take (length c / 2) c) (drop (length c / 2) c) in
    grind (arith, z, first_long c, second_long c)

pub nth_pair : (c : List ℕ) (k : ℕ) → k < length (pairs_of c) → slice_get (pairs_of c) k ≡ Some (get_or c k 0, get_or c (length c / 2 + k) 0)
nth_pair c k l =
    let few : k < length c / 2 = omega (arith, l, pairs_long c) in
    let a : get_or (take (length c / 2) c) k 0 ≡ get_or c k 0 = get_or-take (length c / 2) c k 0 few in
    let b : get_or (drop (length c / 2) c) k 0 ≡ get_or c (length c / 2 + k) 0 = get_or-drop (length c / 2) c k 0 in
    slice_get-get_or (pairs_of c) k (0, 0) l ∙ ap (λ p. Some p) (get_or-zip (take (length c / 2) c) (drop (length c / 2) c) k (0, 0) (omega (arith, few, first_long c)) (omega (arith, few, second_long c)) ∙ rw (a, b) refl)
