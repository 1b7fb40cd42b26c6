-- The number of places of stacks.
use Rattle.std.proofs.Common.{◌≡◌, ℕ, suc, ◌+◌, ◌*◌, ◌<◌, ◌≤◌, List, [], ◌∷◌, ◌++◌, length, get_or, drop, refl, ap, ◌∙◌, arith, length-append}
use Rattle.std.specs.Prelude.{All, false, flat_map, slice_index_or}
use Rattle.std.specs.List.{enumerate_from, range_with_len}
use Rattle.std.proofs.lemmas.List.{length-map}
use Rattle.std.proofs.lemmas.List.FromFn.{length-range_with_len}
use Rattle.std.proofs.Math.Nat.{mul-le-mul}
use Rattle.stow_data.specs.declared.geometry.Stack.{Stack}
use Rattle.stow_data.specs.declared.geometry.Lengths.{Lengths}
use Rattle.stow_data.specs.declared.geometry.Lengths.TheVariants.{Forty, Twenty, Mixed, ForeOnly, AftOnly}
use Rattle.stow_data.specs.declared.geometry.Place.{Place}
use Rattle.stow_data.specs.Ship.{spans, tier_places, stack_places}
use Rattle.ship_profile.proofs.Rising.{front_is}

same_lengths : (f : ℕ → List Place) (n : ℕ) → ((t : ℕ) → length (f t) ≡ n) → (ts : List ℕ) → length (flat_map f ts) ≡ length ts * n
same_lengths f n each [] = omega arith
same_lengths f n each (t ∷ ts) = let more = same_lengths f n each ts in let now = each t in simp length-append (omega arith)

pub stack_count : (number : ℕ) (s : Stack) → length (stack_places (number, s)) ≡ s.tiers * length (spans s.lengths)
stack_count number s =
    same_lengths (tier_places number s) (length (spans s.lengths)) (λ t. length-map (spans s.lengths) (λ span. record { stack = number; tier = t; span = span; plug = slice_index_or s.plugs t false })) (range_with_len 0 s.tiers)
    ∙ ap (λ n. n * length (spans s.lengths)) (length-range_with_len 0 s.tiers)

pub count_on : (ss : List Stack) (i : ℕ) (s : Stack) → i < length ss → s ≡ get_or ss i s
    → length (flat_map stack_places (enumerate_from i (drop i ss))) ≡ s.tiers * length (spans s.lengths) + length (flat_map stack_places (enumerate_from (i + 1) (drop (i + 1) ss)))
count_on ss i s lt is =
    let one : length (flat_map stack_places (enumerate_from i (drop i ss))) ≡ length (stack_places (i, s) ++ flat_map stack_places (enumerate_from (i + 1) (drop (i + 1) ss))) = rw (front_is ss i s lt is) refl in
    one ∙ length-append (stack_places (i, s)) (flat_map stack_places (enumerate_from (i + 1) (drop (i + 1) ss))) ∙ ap (λ n. n + length (flat_map stack_places (enumerate_from (i + 1) (drop (i + 1) ss)))) (stack_count i s)

pub at_most : (a b : ℕ) → a ≤ 98 → b ≤ 3 → a * b ≤ 294
at_most a b h k = let m = mul-le-mul h k in m

some_span : (l : Lengths) → 1 ≤ length (spans l)
some_span Forty = omega arith
some_span Twenty = omega arith
some_span Mixed = omega arith
some_span ForeOnly = omega arith
some_span AftOnly = omega arith

-- each stack with a tier has a place
pub few_stacks : (n : ℕ) (ss : List Stack) → All (λ s. 1 ≤ s.tiers) ss → length ss ≤ length (flat_map stack_places (enumerate_from n ss))
few_stacks n [] h = omega arith
few_stacks n (s ∷ ss) h =
    let more = few_stacks (n + 1) ss (λ k d lt. h (suc k) d (omega arith)) in
    let here : 1 * 1 ≤ s.tiers * length (spans s.lengths) = mul-le-mul (h 0 s (omega arith)) (some_span s.lengths) in
    omega (arith, here, more, stack_count n s, length-append (stack_places (n, s)) (flat_map stack_places (enumerate_from (n + 1) ss)))
