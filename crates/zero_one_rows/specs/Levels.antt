-- Pairs of places that are near by a level; separations of one level share them.
use Rattle.std.specs.Prelude.{◌≡◌, ℕ, ◌<◌, Bool, ◌==◌, cond, List, length, map, flat_map, filter}
use Rattle.std.specs.List.{list_any, range_with_len}
use Rattle.stow_data.specs.declared.geometry.Separation.{Separation}
use Rattle.stow_data.specs.Ship.{places}
use Rattle.stow_data.specs.Near.{near}
use Rattle.zero_one_rows.specs.Variables.{Voyage, place}
use Rattle.zero_one_rows.specs.Rows.{separation}
use Rattle.zero_one_rows.specs.declared.levels.PlacePair.{PlacePair}
use Rattle.zero_one_rows.specs.declared.levels.LevelCounts.{LevelCounts}
use Rattle.zero_one_rows.specs.declared.levels.LevelPairs.{LevelPairs}

-- some separation has this level
abbrev pub has_level : List Separation → ℕ → Bool
has_level es level = list_any (λ (e : Separation). e.level == level) es

module _ (m : Voyage) where
  abbrev pub near_at : ℕ → ℕ → ℕ → Bool
  near_at level p q = near m.ship level (place m p) (place m q)

  -- the places near one by a level; all pairs that are near by it
  abbrev pub pairs_with : ℕ → ℕ → List PlacePair
  pairs_with level p = map (λ q. record { first = p; second = q }) (filter (near_at level p) (range_with_len 0 (length (places m.ship))))

  abbrev pub pairs_at_level : ℕ → List PlacePair
  pairs_at_level level = flat_map (pairs_with level) (range_with_len 0 (length (places m.ship)))

-- what stands for a level from 1 to 3
abbrev pub count_for : LevelCounts → ℕ → ℕ
count_for c level = cond (level == 1) c.one (cond (level == 2) c.two c.three)

abbrev pub pairs_for : LevelPairs → ℕ → List PlacePair
pairs_for c level = cond (level == 1) c.one (cond (level == 2) c.two c.three)

-- it is right for each level that a separation has
abbrev pub AreCounts : Voyage → LevelCounts → Type 0
AreCounts m c = (e : ℕ) → e < length m.ship.separations → count_for c (separation m e).level ≡ length (pairs_at_level m (separation m e).level)

abbrev pub ArePairs : Voyage → LevelPairs → Type 0
ArePairs m c = (e : ℕ) → e < length m.ship.separations → pairs_for c (separation m e).level ≡ pairs_at_level m (separation m e).level
