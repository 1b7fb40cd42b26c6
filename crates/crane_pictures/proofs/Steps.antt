-- The shapes of rounds, made one after the other.
use Rattle.std.proofs.Common.{◌≡◌, ℕ, ◌+◌, ◌<◌, ◌≤◌, List, [], ◌∷◌, ◌++◌, length, get_or, drop, sym, ◌∙◌, ap, append_assoc}
use Rattle.std.proofs.lemmas.List.{append-nil, drop_all, drop_more}
use Rattle.stow_report.specs.declared.crane_lists.CraneMove.{CraneMove}
use Rattle.crane_pictures.specs.declared.shapes.Shape.{Shape}
use Rattle.crane_pictures.specs.Shapes.{shape_at, round_shapes, shapes_from}

module _ (all : List (List CraneMove)) (front total : List Shape) (round : ℕ) where
  pub move_more : (crane : ℕ) (moves : List CraneMove) (i : ℕ) (step : CraneMove) → i < length moves → step ≡ get_or moves i step → front ++ round_shapes all round crane (drop i moves) ≡ total → (front ++ shape_at all round crane step ∷ []) ++ round_shapes all round (crane + 1) (drop (i + 1) moves) ≡ total
  unfolding round_shapes
  move_more crane moves i step l is e =
      let s : drop i moves ≡ step ∷ drop (i + 1) moves = drop_more moves i step l ∙ ap (λ (z : CraneMove). z ∷ drop (i + 1) moves) (sym is) in
      append_assoc front (shape_at all round crane step ∷ []) (round_shapes all round (crane + 1) (drop (i + 1) moves)) ∙ ap (λ (z : List CraneMove). front ++ round_shapes all round crane z) (sym s) ∙ e

  pub moves_done : (crane : ℕ) (moves : List CraneMove) (i : ℕ) → length moves ≤ i → front ++ round_shapes all round crane (drop i moves) ≡ total → front ≡ total
  unfolding round_shapes
  moves_done crane moves i l e = sym (append-nil front) ∙ ap (λ (z : List CraneMove). front ++ round_shapes all round crane z) (sym (drop_all i moves l)) ∙ e

  pub round_more : (rounds : List (List CraneMove)) (i : ℕ) (moves : List CraneMove) → i < length rounds → moves ≡ get_or rounds i moves → front ++ shapes_from all round (drop i rounds) ≡ total → (front ++ round_shapes all round 1 moves) ++ shapes_from all (round + 1) (drop (i + 1) rounds) ≡ total
  unfolding shapes_from
  round_more rounds i moves l is e =
      let s : drop i rounds ≡ moves ∷ drop (i + 1) rounds = drop_more rounds i moves l ∙ ap (λ (z : List CraneMove). z ∷ drop (i + 1) rounds) (sym is) in
      append_assoc front (round_shapes all round 1 moves) (shapes_from all (round + 1) (drop (i + 1) rounds)) ∙ ap (λ (z : List (List CraneMove)). front ++ shapes_from all round z) (sym s) ∙ e

  pub rounds_done : (rounds : List (List CraneMove)) (i : ℕ) → length rounds ≤ i → front ++ shapes_from all round (drop i rounds) ≡ total → front ≡ total
  unfolding shapes_from
  rounds_done rounds i l e = sym (append-nil front) ∙ ap (λ (z : List (List CraneMove)). front ++ shapes_from all round z) (sym (drop_all i rounds l)) ∙ e
