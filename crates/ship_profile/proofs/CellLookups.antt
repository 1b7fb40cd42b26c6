-- The half-cells of one stack more.
use Rattle.std.proofs.Common.{◌≡◌, ℕ, Bool, true, false, cond, ◌||◌, ◌&&◌, List, [], ◌∷◌, ◌++◌, refl, sym, ap, ◌∙◌}
use Rattle.std.specs.Prelude.{find, ◌==◌}
use Rattle.std.specs.List.{list_any}
use Rattle.std.specs.BTreeMap.{is_at}
use Rattle.std.specs.BTreeSet.{BTreeSet, contains}
use Rattle.std.proofs.lemmas.List.Folds.{list_any-append}
use Rattle.stow_data.specs.declared.geometry.Stack.{Stack}
use Rattle.ship_profile.specs.declared.position.Position.{Position}
use Rattle.ship_profile.specs.Stacks.{has_cell_of, is_among, odd_bays, same_part, shared_bay}
use Rattle.ship_profile.specs.Positions.{AreCells, position_order, position_in}
use Rattle.ship_profile.proofs.PositionLookups.{at_cell}

or_found : (b old : Bool) → cond b true old ≡ (b || old)
or_found true old = refl
or_found false old = refl

pub side_entered : (t s : Stack) (odd o : ℕ) (old : Bool) → cond (is_at (position_order (position_in odd t)) (position_in o s)) true old ≡ ((((t.row == s.row) && same_part t s) && (odd == o)) || old)
side_entered t s odd o old = ap (λ r. cond r true old) (at_cell t s odd o) ∙ or_found (((t.row == s.row) && same_part t s) && (odd == o)) old

-- a stack has a cell in one of these bays
abbrev has_bay_of : Stack → ℕ → Stack → List ℕ → Bool
has_bay_of s o t bays = ((t.row == s.row) && same_part t s) && is_among bays o

one_side : (x y old : Bool) → ((x && y) || old) ≡ ((x && (y || false)) || old)
one_side true true old = refl
one_side true false old = refl
one_side false y old = refl

two_sides : (x f a old : Bool) → ((x && a) || ((x && f) || old)) ≡ ((x && (f || (a || false))) || old)
two_sides true true true old = refl
two_sides true true false old = refl
two_sides true false true old = refl
two_sides true false false old = refl
two_sides false f a old = refl

pub one_bay : (s t : Stack) (o bay : ℕ) (old : Bool) → ((((t.row == s.row) && same_part t s) && (bay == o)) || old) ≡ (has_bay_of s o t (bay ∷ []) || old)
one_bay s t o bay old = one_side ((t.row == s.row) && same_part t s) (bay == o) old

pub two_bays : (s t : Stack) (o fore aft : ℕ) (old : Bool) → ((((t.row == s.row) && same_part t s) && (aft == o)) || ((((t.row == s.row) && same_part t s) && (fore == o)) || old)) ≡ (has_bay_of s o t (fore ∷ aft ∷ []) || old)
two_bays s t o fore aft old = two_sides ((t.row == s.row) && same_part t s) (fore == o) (aft == o) old

last_first : (a b : Bool) → (a || b) ≡ (b || (a || false))
last_first true true = refl
last_first true false = refl
last_first false true = refl
last_first false false = refl

pub one_stack_more : (old new : BTreeSet Position) (before : List Stack) (t : Stack) → ((s : Stack) (o : ℕ) → contains position_order new (position_in o s) ≡ (has_cell_of s o t || contains position_order old (position_in o s))) → AreCells old before → AreCells new (before ++ t ∷ [])
one_stack_more old new before t more cells = record {
  same = λ s o. more s o ∙ ap (λ r. has_cell_of s o t || r) (cells.same s o) ∙ last_first (has_cell_of s o t) (list_any (has_cell_of s o) before) ∙ sym (list_any-append (has_cell_of s o) before (t ∷ []));
}

-- the bay that a look-up finds is the one that is shared
pub taken_is_shared : (cells : BTreeSet Position) (earlier : List Stack) (s : Stack) → AreCells cells earlier → find (λ odd. contains position_order cells (position_in odd s)) (odd_bays s) ≡ shared_bay earlier s
taken_is_shared cells earlier s h = ap (λ p. find p (odd_bays s)) (λ i odd. h.same s odd i)
