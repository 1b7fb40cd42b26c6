-- The program of a made voyage has few variables.
use Rattle.std.proofs.Common.{◌≡◌, ℕ, zero, suc, ◌+◌, ◌*◌, ◌≤◌, Bool, true, false, cond, ◌&&◌, List, [], ◌∷◌, ◌++◌, length, refl, ap, ◌∙◌, subst, arith, None, nat_lt, inl, inr, le_trans}
use Rattle.std.specs.Prelude.{map, flat_map, filter, slice_index_or}
use Rattle.std.specs.List.{range_with_len}
use Rattle.std.proofs.lemmas.Bool.{cases_Bool}
use Rattle.std.proofs.lemmas.Bool.Decides.{nat_tests}
use Rattle.stow_data.specs.Ship.{places}
use Rattle.zero_one_rows.specs.declared.program.Var.{Var}
use Rattle.zero_one_rows.specs.Variables.{Voyage, calls, all_kinds, is_var, variables}

-- a sum over the items
abbrev total : {X : Type 0} → (X → ℕ) → List X → ℕ
total b [] = 0
total b (x ∷ xs) = b x + total b xs

-- ## Filtered lists

filter_front : {X : Type 0} (p : X → Bool) (xs ys : List X) → length (filter p (xs ++ ys)) ≡ length (filter p xs) + length (filter p ys)
filter_front p [] ys = omega arith
filter_front p (x ∷ xs) ys =
    elim (cases_Bool (p x)) [
      | inl so ↦ rw so (omega (arith, filter_front p xs ys))
      | inr other ↦ rw other (filter_front p xs ys)
    ]

filter_total : {X Y : Type 0} (p : Y → Bool) (f : X → List Y) (b : X → ℕ) → ((x : X) → length (filter p (f x)) ≤ b x) → (xs : List X) → length (filter p (flat_map f xs)) ≤ total b xs
filter_total p f b h [] = omega arith
filter_total p f b h (x ∷ xs) = omega (arith, filter_front p (f x) (flat_map f xs), h x, filter_total p f b h xs)

succ_times : (n k : ℕ) → (n + 1) * k ≡ k + n * k
succ_times n k = omega arith

total_same : {X : Type 0} (k : ℕ) (xs : List X) → total (λ x. k) xs ≡ length xs * k
total_same k [] = omega arith
total_same k (x ∷ xs) = let more = total_same k xs in omega (arith, more, succ_times (length xs) k)

few_left : {X Y : Type 0} (p : Y → Bool) (f : X → Y) (xs : List X) → length (filter p (map f xs)) ≤ length xs
few_left p f [] = omega arith
few_left p f (x ∷ xs) =
    elim (cases_Bool (p (f x))) [
      | inl so ↦ rw so (omega (arith, few_left p f xs))
      | inr other ↦ rw other (omega (arith, few_left p f xs))
    ]

none_left : {X Y : Type 0} (p : Y → Bool) (f : X → Y) (xs : List X) → ((x : X) → p (f x) ≡ false) → length (filter p (map f xs)) ≤ 0
none_left p f [] h = omega arith
none_left p f (x ∷ xs) h = rw (h x) (none_left p f xs h)

-- ## Variables

-- at most so many variables of a kind are put at call i and lifted at call v
abbrev at_most : ℕ → ℕ → ℕ → ℕ
at_most n i v = cond (nat_lt 0 i && nat_lt i v) n 0

-- nothing stands on the ship as it comes in
pub record IsEmpty (m : Voyage) : Type 0 where
  pub empty : (p : ℕ) → slice_index_or m.cargo.arrival p None ≡ None

-- those of a kind that are put at call i and lifted at call v, one for each place
abbrev of_lift : Voyage → ℕ → ℕ → ℕ → List Var
of_lift m i g v = map (λ s. record { put = i; kind = g; lifted = v; place = s }) (range_with_len 0 (length (places m.ship)))

no_third : (a b : Bool) → (a && (b && false)) ≡ false
no_third true true = refl
no_third true false = refl
no_third false b = refl

not_put : (m : Voyage) (i g v s : ℕ) → IsEmpty m → (nat_lt 0 i && nat_lt i v) ≡ false → is_var m (record { put = i; kind = g; lifted = v; place = s }) ≡ false
not_put m zero g v s e h = rw (e.empty s) (no_third _ _)
not_put m (suc i) g v s e h = let late : nat_lt (suc i) v ≡ false = grind (arith, nat_tests) in rw late refl

lift_few : (m : Voyage) (i g v n : ℕ) → IsEmpty m → length (range_with_len 0 (length (places m.ship))) ≤ n → length (filter (is_var m) (of_lift m i g v)) ≤ at_most n i v
lift_few m i g v n e h =
    elim (cases_Bool (nat_lt 0 i && nat_lt i v)) [
      | inl so ↦ rw so (le_trans (few_left (is_var m) (λ s. record { put = i; kind = g; lifted = v; place = s }) (range_with_len 0 (length (places m.ship)))) h)
      | inr other ↦ rw other (none_left (is_var m) (λ s. record { put = i; kind = g; lifted = v; place = s }) (range_with_len 0 (length (places m.ship))) (λ s. not_put m i g v s e other))
    ]

-- at most so many of a kind that are put at call i
abbrev a_kind : ℕ → ℕ → ℕ
a_kind n i = total (at_most n i) (range_with_len 0 7)

kind_few : (m : Voyage) (i g n : ℕ) → IsEmpty m → length (range_with_len 0 (length (places m.ship))) ≤ n → length (filter (is_var m) (flat_map (of_lift m i g) (range_with_len 0 7))) ≤ a_kind n i
kind_few m i g n e h = filter_total (is_var m) (of_lift m i g) (at_most n i) (λ v. lift_few m i g v n e h) (range_with_len 0 7)

put_few : (m : Voyage) (i k n : ℕ) → IsEmpty m → length (range_with_len 0 (length (places m.ship))) ≤ n → length (range_with_len 0 (length (all_kinds m))) ≡ k
    → length (filter (is_var m) (flat_map (λ g. flat_map (of_lift m i g) (range_with_len 0 7)) (range_with_len 0 (length (all_kinds m))))) ≤ k * a_kind n i
put_few m i k n e h same =
    let all = filter_total (is_var m) (λ g. flat_map (of_lift m i g) (range_with_len 0 7)) (λ g. a_kind n i) (λ g. kind_few m i g n e h) (range_with_len 0 (length (all_kinds m))) in
    subst (λ t. length (filter (is_var m) (flat_map (λ g. flat_map (of_lift m i g) (range_with_len 0 7)) (range_with_len 0 (length (all_kinds m))))) ≤ t) (total_same (a_kind n i) (range_with_len 0 (length (all_kinds m))) ∙ ap (λ t. t * a_kind n i) same) all

-- 15 pairs of calls for each kind and place
pub variables_few : (m : Voyage) → IsEmpty m → calls m ≡ 6 → length (range_with_len 0 (length (places m.ship))) ≤ 96 → length (range_with_len 0 (length (all_kinds m))) ≤ 120 → length (variables m) ≤ 172800
unfolding variables
variables_few m e six places_to kinds_to =
    let k = length (range_with_len 0 (length (all_kinds m))) in
    let f = λ (i : ℕ). flat_map (λ g. flat_map (of_lift m i g) (range_with_len 0 7)) (range_with_len 0 (length (all_kinds m))) in
    let all : length (filter (is_var m) (flat_map f (range_with_len 0 6))) ≤ total (λ i. k * a_kind 96 i) (range_with_len 0 6) = filter_total (is_var m) f (λ i. k * a_kind 96 i) (λ i. put_few m i k 96 e places_to refl) (range_with_len 0 6) in
    rw six (omega (arith, all, kinds_to))
