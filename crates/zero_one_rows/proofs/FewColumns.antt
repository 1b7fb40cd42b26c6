-- The columns of a ship are at most its places, and no stack has more than 39 tiers.
use Rattle.std.proofs.Common.{◌≡◌, ℕ, suc, ◌+◌, ◌*◌, ◌≤◌, List, [], ◌∷◌, length, ap, ◌∙◌, arith, length-append, ⊎_elim}
use Rattle.std.specs.Prelude.{All, false, flat_map, slice_index_or}
use Rattle.std.specs.List.{enumerate_from, range_with_len, sum_by}
use Rattle.std.proofs.lemmas.List.{length-map}
use Rattle.std.proofs.lemmas.List.FromFn.{length-range_with_len}
use Rattle.std.proofs.lemmas.List.Sums.{sum_by-cons, count_by-le-length}
use Rattle.std.proofs.Math.Nat.{mul-le-mul}
use Rattle.stow_data.specs.declared.geometry.Length.{Length}
use Rattle.stow_data.specs.declared.geometry.Stack.{Stack}
use Rattle.stow_data.specs.declared.geometry.Place.{Place}
use Rattle.stow_data.specs.Ship.{Ship, places, spans, length_in, same_length, tier_places, stack_places}
use Rattle.stow_data.specs.Profile.{IsShip, IsStack, IsInHold, IsOnDeck}
use Rattle.zero_one_rows.specs.Crossing.{columns_in, columns}

same_lengths : (f : ℕ → List Place) (n : ℕ) → ((t : ℕ) → length (f t) ≡ n) → (ts : List ℕ) → length (flat_map f ts) ≡ length ts * n
same_lengths f n each [] = omega arith
same_lengths f n each (t ∷ ts) = let more = same_lengths f n each ts in let now = each t in simp length-append (omega arith)

stack_count : (number : ℕ) (s : Stack) → length (stack_places (number, s)) ≡ s.tiers * length (spans s.lengths)
stack_count number s =
    same_lengths (tier_places number s) (length (spans s.lengths)) (λ t. length-map (spans s.lengths) (λ span. record { stack = number; tier = t; span = span; plug = slice_index_or s.plugs t false })) (range_with_len 0 s.tiers)
    ∙ ap (λ n. n * length (spans s.lengths)) (length-range_with_len 0 s.tiers)

-- a stack with a tier has a place for each of its columns
few_columns : (long : Length) (n : ℕ) (ss : List Stack) → All (λ s. 1 ≤ s.tiers) ss → sum_by (λ s. columns_in long s.lengths) ss ≤ length (flat_map stack_places (enumerate_from n ss))
few_columns long n [] h = omega arith
few_columns long n (s ∷ ss) h =
    let more = few_columns long (n + 1) ss (λ k d lt. h (suc k) d (omega arith)) in
    let some : columns_in long s.lengths ≤ length (spans s.lengths) = count_by-le-length (λ span. same_length long (length_in span)) (spans s.lengths) in
    let here : 1 * columns_in long s.lengths ≤ s.tiers * length (spans s.lengths) = mul-le-mul (h 0 s (omega arith)) some in
    omega (arith, here, more, stack_count n s, sum_by-cons (λ (t : Stack). columns_in long t.lengths) s ss, length-append (stack_places (n, s)) (flat_map stack_places (enumerate_from (n + 1) ss)))

pub columns_few : (ship : Ship) (long : Length) → IsShip ship → columns ship long ≤ 3000
unfolding places
columns_few ship long rules = let few = few_columns long 0 ship.stacks (λ k d lt. (rules.each_stack k d lt).has_tiers) in omega (arith, few, rules.few_places)

pub few_tiers : (s : Stack) → IsStack s → s.tiers ≤ 39
few_tiers s r = ⊎_elim (λ (h : IsInHold s). omega (arith, h.0, h.1)) (λ (d : IsOnDeck s). omega (arith, d.0, d.1)) r.part
