-- Near pairs by level: what stands for a level, and the pairs of a separation from those of its level.
use Rattle.std.proofs.Common.{◌≡◌, ℕ, ◌<◌, ◌≤◌, ◌==◌, true, List, [], ◌∷◌, ◌++◌, arith, refl, sym, ◌∙◌, ap, subst, length, ⊎_elim}
use Rattle.std.specs.Prelude.{flat_map, map, filter}
use Rattle.std.specs.List.{range_with_len}
use Rattle.std.proofs.lemmas.Bool.{cases_eq, eq-eqb}
use Rattle.std.proofs.lemmas.List.{length-map, map-append}
use Rattle.std.proofs.lemmas.List.Folds.{list_any_at}
use Rattle.stow_data.specs.declared.geometry.Separation.{Separation}
use Rattle.stow_data.specs.Ship.{places}
use Rattle.stow_data.specs.Profile.{IsShip, IsSeparation}
use Rattle.zero_one_rows.specs.Variables.{Voyage}
use Rattle.zero_one_rows.specs.Rows.{separation, no_separation}
use Rattle.zero_one_rows.specs.declared.row_lists.NearPair.{NearPair}
use Rattle.zero_one_rows.specs.declared.levels.PlacePair.{PlacePair}
use Rattle.zero_one_rows.specs.declared.levels.LevelCounts.{LevelCounts}
use Rattle.zero_one_rows.specs.declared.levels.LevelPairs.{LevelPairs}
use Rattle.zero_one_rows.specs.Counted.{near_by, near_to}
use Rattle.zero_one_rows.specs.Levels.{has_level, near_at, pairs_with, pairs_at_level, count_for, pairs_for, AreCounts, ArePairs}
use Rattle.zero_one_rows.proofs.Filters.{flat_same}

map_twice : {X Y Z : Type 0} (f : Y → Z) (g : X → Y) (xs : List X) → map f (map g xs) ≡ map (λ x. f (g x)) xs
map_twice f g [] = refl
map_twice {X} {Y} {Z} f g (x ∷ xs) = ap (λ (zs : List Z). f (g x) ∷ zs) (map_twice f g xs)

map_flat : {X Y Z : Type 0} (f : Y → Z) (g : X → List Y) (xs : List X) → map f (flat_map g xs) ≡ flat_map (λ x. map f (g x)) xs
map_flat f g [] = refl
map_flat {X} {Y} {Z} f g (x ∷ xs) = map-append f (g x) (flat_map g xs) ∙ ap (λ (zs : List Z). map f (g x) ++ zs) (map_flat f g xs)

abbrev pub with_index : ℕ → PlacePair → NearPair
with_index e p = record { index = e; first = p.first; second = p.second }

pub pairs_of_separation : (m : Voyage) (e : ℕ) → near_by m e ≡ map (with_index e) (pairs_at_level m (separation m e).level)
pairs_of_separation m e =
    flat_same (near_to m e) (λ p. map (with_index e) (pairs_with m (separation m e).level p)) (range_with_len 0 (length (places m.ship)))
    (λ p _. sym (map_twice (with_index e) (λ (q : ℕ). record { first = p; second = q }) (filter (near_at m (separation m e).level p) (range_with_len 0 (length (places m.ship))))))
    ∙ sym (map_flat (with_index e) (pairs_with m (separation m e).level) (range_with_len 0 (length (places m.ship))))

pub count_of_separation : (m : Voyage) (e : ℕ) → length (near_by m e) ≡ length (pairs_at_level m (separation m e).level)
count_of_separation m e = ap length (pairs_of_separation m e) ∙ length-map (pairs_at_level m (separation m e).level) (with_index e)

of_three : (P : ℕ → Type 0) → P 1 → P 2 → P 3 → (n : ℕ) → 1 ≤ n → n ≤ 3 → P n
of_three P a b d n low high = ⊎_elim
    (λ (e : n ≡ 1). subst P (sym e) a)
    (λ (no_one : n ≡ 1 → ⊥). ⊎_elim
    (λ (e : n ≡ 2). subst P (sym e) b)
    (λ (no_two : n ≡ 2 → ⊥). let e : n ≡ 3 = omega (arith, low, high, no_one, no_two) in subst P (sym e) d)
    (cases_eq n 2))
    (cases_eq n 1)

is_had : (m : Voyage) (e : ℕ) → e < length m.ship.separations → has_level m.ship.separations (separation m e).level ≡ true
is_had m e l = list_any_at (λ (s : Separation). s.level == (separation m e).level) m.ship.separations e no_separation l (eq-eqb (separation m e).level (separation m e).level refl)

pub counts_hold : (m : Voyage) (c : LevelCounts) → IsShip m.ship
    → (has_level m.ship.separations 1 ≡ true → c.one ≡ length (pairs_at_level m 1))
    → (has_level m.ship.separations 2 ≡ true → c.two ≡ length (pairs_at_level m 2))
    → (has_level m.ship.separations 3 ≡ true → c.three ≡ length (pairs_at_level m 3))
    → AreCounts m c
counts_hold m c rules one two three e l =
    let is : IsSeparation (separation m e) = rules.each_separation e no_separation l in
    of_three (λ n. has_level m.ship.separations n ≡ true → count_for c n ≡ length (pairs_at_level m n)) one two three (separation m e).level is.level_from is.level_to (is_had m e l)

pub pairs_hold : (m : Voyage) (c : LevelPairs) → IsShip m.ship
    → (has_level m.ship.separations 1 ≡ true → c.one ≡ pairs_at_level m 1)
    → (has_level m.ship.separations 2 ≡ true → c.two ≡ pairs_at_level m 2)
    → (has_level m.ship.separations 3 ≡ true → c.three ≡ pairs_at_level m 3)
    → ArePairs m c
pairs_hold m c rules one two three e l =
    let is : IsSeparation (separation m e) = rules.each_separation e no_separation l in
    of_three (λ n. has_level m.ship.separations n ≡ true → pairs_for c n ≡ pairs_at_level m n) one two three (separation m e).level is.level_from is.level_to (is_had m e l)
