-- The shapes of a crane list: one for each move, where it stands.
use Rattle.std.specs.Prelude.{ℕ, ◌+◌, Bool, List, [], ◌∷◌, ◌++◌}
use Rattle.stow_report.specs.declared.crane_lists.CraneMove.{CraneMove}
use Rattle.crane_pictures.specs.declared.purposes.Purpose.{Purpose}
use Rattle.crane_pictures.specs.declared.shapes.Shape.{Shape}
use Rattle.crane_pictures.specs.Purposes.{is_same, purpose}

-- a move of these rounds, in a round and of a crane
abbrev pub shape_at : List (List CraneMove) → ℕ → ℕ → CraneMove → Shape
shape_at all round crane step = record { round = round; crane = crane; purpose = purpose all step; step = step }

-- those of a round: one for each crane, from this one on
unfoldable pub round_shapes : List (List CraneMove) → ℕ → ℕ → List CraneMove → List Shape
round_shapes all round crane [] = []
round_shapes all round crane (step ∷ moves) = shape_at all round crane step ∷ round_shapes all round (crane + 1) moves

-- those of all rounds, from this one on; cranes count from 1
unfoldable pub shapes_from : List (List CraneMove) → ℕ → List (List CraneMove) → List Shape
shapes_from all round [] = []
shapes_from all round (moves ∷ rounds) = round_shapes all round 1 moves ++ shapes_from all (round + 1) rounds

-- those of a list, whose rounds count from 1
abbrev pub shapes_of : List (List CraneMove) → List Shape
shapes_of rounds = shapes_from rounds 1 rounds

abbrev pub has_purpose : Purpose → Shape → Bool
has_purpose p s = is_same s.purpose p
