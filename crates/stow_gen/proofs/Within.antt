-- Each made voyage is within the limits.
use Rattle.std.proofs.Common.{◌≡◌, ℕ, zero, suc, ◌+◌, ◌≤◌, List, [], ◌∷◌, length, refl, ap, ◌∙◌, arith, Option, None}
use Rattle.std.specs.Prelude.{map, replicate, slice_index_or}
use Rattle.std.specs.List.{range_with_len, enumerate_from}
use Rattle.stow_data.specs.Ship.{places}
use Rattle.stow_data.proofs.KindLemmas.{kinds_few}
use Rattle.bookings.specs.BookedCargo.{container_of}
use Rattle.zero_one_rows.specs.Variables.{all_kinds, variables}
use Rattle.zero_one_rows.specs.Counted.{all_rows}
use Rattle.stow_gen.specs.Draws.{after_lot}
use Rattle.stow_gen.specs.MadeShip.{made_ship}
use Rattle.stow_gen.specs.MadeBookings.{bookings_from}
use Rattle.stow_gen.specs.MadeVoyage.{made_voyage}
use Rattle.stow_gen.proofs.FewVariables.{IsEmpty, variables_few}
use Rattle.stow_gen.proofs.FewRows.{rows_few, places_are}

-- ## Lengths

ranged : (low n : ℕ) → length (range_with_len low n) ≡ n
ranged low zero = refl
ranged low (suc n) = ap suc (ranged (low + 1) n)

numbered : {X Y : Type 0} (f : ℕ × X → Y) (i : ℕ) (xs : List X) → length (map f (enumerate_from i xs)) ≡ length xs
numbered f i [] = refl
numbered f i (x ∷ xs) = ap suc (numbered f (i + 1) xs)

counted : (left k state : ℕ) → length (bookings_from left k state) ≡ left
counted zero k state = refl
counted (suc left) k state = ap suc (counted left (k + 1) (after_lot state))

nothing_at : (k p : ℕ) → slice_index_or (replicate {A = Option ℕ} k None) p None ≡ None
nothing_at zero p = refl
nothing_at (suc k) zero = refl
nothing_at (suc k) (suc p) = nothing_at k p

as_long : {X : Type 0} (k : ℕ) (x : X) → length (replicate k x) ≡ k
as_long zero x = refl
as_long (suc k) x = ap suc (as_long k x)

-- ## Limits

is_empty : (n : ℕ) → IsEmpty (made_voyage n)
is_empty n = record { empty = λ p. nothing_at (length (places made_ship)) p }

pub containers_are : (n : ℕ) → length (made_voyage n).cargo.containers ≡ 120
containers_are n = numbered container_of 0 (bookings_from 120 1 n) ∙ counted 120 1 n

kinds_to : (n : ℕ) → length (range_with_len 0 (length (all_kinds (made_voyage n)))) ≤ 120
kinds_to n =
    let v = made_voyage n in
    let range = ranged 0 (length (all_kinds v)) in
    let few = kinds_few v.ship.weight_step v.cargo.containers in
    let all : length v.cargo.containers ≡ 120 = containers_are n in
    omega (arith, range, few, all)

pub vars_within : (n : ℕ) → length (variables (made_voyage n)) ≤ 172800
vars_within n =
    let placed : length (range_with_len 0 (length (places made_ship))) ≡ 96 = ranged 0 _ ∙ places_are in
    let few = variables_few (made_voyage n) (is_empty n) refl (omega (arith, placed)) (kinds_to n) in
    omega (arith, few)

pub rows_within : (n : ℕ) → length (all_rows (made_voyage n)) ≤ 12238
rows_within n =
    let v = made_voyage n in
    let long : length (range_with_len 0 (length v.cargo.arrival)) ≡ 96 = ranged 0 _ ∙ as_long (length (places made_ship)) None ∙ places_are in
    let few = rows_few v.cargo refl (kinds_to n) (omega (arith, long)) in
    omega (arith, few)
