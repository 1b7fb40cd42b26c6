-- No bay is above 998.
use Rattle.std.specs.Prelude.{◌≡◌, ℕ, ◌+◌, ◌≤◌, ◌<◌, Bool, true, false, ◌&&◌, cond, nat_le, List, [], ◌∷◌, ◌++◌, Option, Some, None, length, fold, slice_get}
use Rattle.std.proofs.Common.{refl, ap, arith, ⊎_elim}
use Rattle.std.proofs.lemmas.List.{get_or_past}
use Rattle.std.proofs.lemmas.Bool.{leb-true, cases_lt}
use Rattle.stow_data.specs.declared.geometry.Cover.{Cover}
use Rattle.stow_data.specs.declared.geometry.Stack.{Stack}
use Rattle.stow_data.specs.Ship.{Ship}
use Rattle.stow_data.specs.Profile.{IsShip}
use Rattle.stow_data.specs.Plans.{no_stack}
use Rattle.voyage_meaning.specs.declared.moves.Move.{Move}
use Rattle.voyage_meaning.specs.declared.moves.Move.TheVariants.{OffCover, OnCover, Lift, Put}
use Rattle.crane_lists.specs.Tasks.{stack_of}
use Rattle.crane_lists.specs.Bays.{bay_of_move, bay_of_stack, cover_bay, lesser_bay, or_zero}
use Rattle.crane_lists.specs.Least.{is_in_window, window_count}

stack_small : (ship : Ship) (s : ℕ) → IsShip ship → bay_of_stack ship s ≤ 998
stack_small ship s rules = ⊎_elim
    (λ (low : s < length ship.stacks). (rules.each_stack s no_stack low).bay_to)
    (λ (past : length ship.stacks ≤ s). let e : bay_of_stack ship s ≡ 0 = ap (λ (t : Stack). t.bay) (get_or_past ship.stacks s no_stack past) in omega (arith, e))
    (cases_lt s (length ship.stacks))

abbrev IsSmall : Option ℕ → Type 0
IsSmall o = or_zero o ≤ 998

lesser_small : (ship : Ship) (o : Option ℕ) (s : ℕ) → IsShip ship → IsSmall o → IsSmall (lesser_bay ship o s)
lesser_small ship None s rules h = stack_small ship s rules
lesser_small ship (Some b) s rules h = omega (arith, h)

fold_small : (ship : Ship) (stacks : List ℕ) (o : Option ℕ) → IsShip ship → IsSmall o → IsSmall (fold (lesser_bay ship) o stacks)
fold_small ship [] o rules h = h
fold_small ship (s ∷ ss) o rules h = fold_small ship ss (lesser_bay ship o s) rules (lesser_small ship o s rules h)

cover_small : (ship : Ship) (o : Option Cover) → IsShip ship → cover_bay ship o ≤ 998
cover_small ship None rules = omega arith
cover_small ship (Some cover) rules = fold_small ship (cover.under ++ cover.on) None rules (omega arith)

bay_small : (ship : Ship) (m : Move) → IsShip ship → bay_of_move ship m ≤ 998
bay_small ship (Lift p) rules = stack_small ship (stack_of ship p) rules
bay_small ship (Put c p) rules = stack_small ship (stack_of ship p) rules
bay_small ship (OffCover k) rules = cover_small ship (slice_get ship.covers k) rules
bay_small ship (OnCover k) rules = cover_small ship (slice_get ship.covers k) rules

abbrev IsZero : Bool → Type 0
IsZero t = let n : ℕ = cond t 1 0 in n ≡ 0

not_past : (ship : Ship) (b : ℕ) (m : Move) → IsShip ship → 998 < b → IsZero (is_in_window ship b m)
not_past ship b m rules past = by (nat_le b (bay_of_move ship m)) refl
  where
    by : (t : Bool) → nat_le b (bay_of_move ship m) ≡ t → IsZero (t && nat_le (bay_of_move ship m) (b + 7))
    by true e = let le : b ≤ bay_of_move ship m = leb-true b (bay_of_move ship m) e in let small : bay_of_move ship m ≤ 998 = bay_small ship m rules in absurd (omega (arith, le, small, past))
    by false e = refl

none_past : (ship : Ship) (b : ℕ) (moves : List Move) → IsShip ship → 998 < b → window_count ship b moves ≡ 0
none_past ship b [] rules past = refl
none_past ship b (m ∷ ms) rules past = let head = not_past ship b m rules past in let rest = none_past ship b ms rules past in omega (arith, head, rest)

pub fullest : (ship : Ship) (moves : List Move) (most : ℕ) → IsShip ship → ((b : ℕ) → b < 999 → window_count ship b moves ≤ most) → (b : ℕ) → window_count ship b moves ≤ most
fullest ship moves most rules all b = ⊎_elim
    (λ (low : b < 999). all b low)
    (λ (past : 999 ≤ b). let none : window_count ship b moves ≡ 0 = none_past ship b moves rules (omega (arith, past)) in omega (arith, none))
    (cases_lt b 999)
