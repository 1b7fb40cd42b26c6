-- Each move has a shape, and each shape one purpose.
use Rattle.std.proofs.Common.{◌≡◌, ℕ, ◌+◌, List, [], ◌∷◌, ◌++◌, length, refl, ap, sym, ◌∙◌, cond, arith, suc}
use Rattle.std.proofs.lemmas.List.{length-append}
use Rattle.std.proofs.lemmas.List.Sums.{sum_by-cons}
use Rattle.std.specs.Prelude.{count_by}
use Rattle.std.specs.List.{sum_by}
use Rattle.stow_report.specs.declared.crane_lists.CraneMove.{CraneMove}
use Rattle.crane_pictures.specs.declared.purposes.Purpose.{Purpose}
use Rattle.crane_pictures.specs.declared.purposes.Purpose.TheVariants.{Discharge, Load, MoveAside, PutBack, CoverOff, CoverOn}
use Rattle.crane_pictures.specs.declared.shapes.Shape.{Shape}
use Rattle.crane_pictures.specs.Purposes.{is_same}
use Rattle.crane_pictures.specs.Shapes.{has_purpose, round_shapes, shapes_from}

round_each : (all : List (List CraneMove)) (round crane : ℕ) (moves : List CraneMove) → length (round_shapes all round crane moves) ≡ length moves
unfolding round_shapes
round_each all round crane [] = refl
round_each all round crane (step ∷ moves) = ap suc (round_each all round (crane + 1) moves)

pub each : (all : List (List CraneMove)) (round : ℕ) (rounds : List (List CraneMove)) → length (shapes_from all round rounds) ≡ sum_by length rounds
unfolding shapes_from
each all round [] = refl
each all round (moves ∷ rounds) =
    length-append (round_shapes all round 1 moves) (shapes_from all (round + 1) rounds)
    ∙ ap (λ n. n + length (shapes_from all (round + 1) rounds)) (round_each all round 1 moves)
    ∙ ap (λ n. length moves + n) (each all (round + 1) rounds)
    ∙ sym (sum_by-cons length moves rounds)

abbrev bit : Purpose → Purpose → ℕ
bit p q = cond (is_same q p) 1 0

one : (q : Purpose) → bit Discharge q + bit Load q + bit MoveAside q + bit PutBack q + bit CoverOff q + bit CoverOn q ≡ 1
one Discharge = refl
one Load = refl
one MoveAside = refl
one PutBack = refl
one CoverOff = refl
one CoverOn = refl

step_of : (p : Purpose) (s : Shape) (shapes : List Shape) → count_by (has_purpose p) (s ∷ shapes) ≡ bit p s.purpose + count_by (has_purpose p) shapes
step_of p s shapes = sum_by-cons (λ x. cond (has_purpose p x) 1 0) s shapes

regroup : (a b c d e f m n o p q r k : ℕ) → a + b + c + d + e + f ≡ 1 → m + n + o + p + q + r ≡ k → (a + m) + (b + n) + (c + o) + (d + p) + (e + q) + (f + r) ≡ suc k
regroup a b c d e f m n o p q r k h g = omega arith

pub counted : (shapes : List Shape) → count_by (has_purpose Discharge) shapes + count_by (has_purpose Load) shapes + count_by (has_purpose MoveAside) shapes + count_by (has_purpose PutBack) shapes + count_by (has_purpose CoverOff) shapes + count_by (has_purpose CoverOn) shapes ≡ length shapes
counted [] = refl
counted (s ∷ shapes) = rw (step_of Discharge s shapes, step_of Load s shapes, step_of MoveAside s shapes, step_of PutBack s shapes, step_of CoverOff s shapes, step_of CoverOn s shapes) (regroup (bit Discharge s.purpose) (bit Load s.purpose) (bit MoveAside s.purpose) (bit PutBack s.purpose) (bit CoverOff s.purpose) (bit CoverOn s.purpose) (count_by (has_purpose Discharge) shapes) (count_by (has_purpose Load) shapes) (count_by (has_purpose MoveAside) shapes) (count_by (has_purpose PutBack) shapes) (count_by (has_purpose CoverOff) shapes) (count_by (has_purpose CoverOn) shapes) (length shapes) (one s.purpose) (counted shapes))
