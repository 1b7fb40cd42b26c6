-- Two tasks are independent where what they reach is apart and they name no common container.
use Rattle.std.specs.Prelude.{◌≡◌, ℕ, ◌+◌, ◌-◌, ◌*◌, ◌≤◌, List, Some, All, slice_get}
use Rattle.std.proofs.Common.{refl, sym, ◌∙◌, ap, arith, subst, inl, inr}
use Rattle.std.proofs.lemmas.Option.{get_or_from_slice_get, slice_get_within}
use Rattle.stow_data.specs.Ship.{Ship, LiesUnder, StandsOn}
use Rattle.stow_data.specs.Profile.{IsShip, IsCover, IsInHold, IsOnDeck}
use Rattle.stow_data.proofs.OneCover.{one_over, one_under}
use Rattle.voyage_meaning.specs.declared.moves.Move.{Move}
use Rattle.voyage_meaning.specs.declared.moves.Move.TheVariants.{OffCover, OnCover, Lift, Put}
use Rattle.crane_lists.specs.declared.tasks.Task.{Task}
use Rattle.crane_lists.specs.declared.pairs.Reach.{Reach}
use Rattle.crane_lists.specs.declared.pairs.Reach.TheVariants.{OneStack, AllOf}
use Rattle.crane_lists.specs.Tasks.{AreIndependent, IsCoverOf, Touches, cover_of}
use Rattle.crane_lists.specs.Reaches.{AreApart, SharesContainer, reach_of}

all_at : {X : Type 0} (P : X → Type 0) (xs : List X) (k : ℕ) (x : X) → All P xs → slice_get xs k ≡ Some x → P x
all_at P xs k x all is = subst P (get_or_from_slice_get xs k x x is) (all k x (slice_get_within xs k x is))

-- a stack lies in the hold or stands on deck
not_both : (ship : Ship) (s j k : ℕ) → IsShip ship → LiesUnder ship s j → StandsOn ship s k → ⊥
not_both ship s j k rules a b =
    let low = (all_at (IsCover ship) ship.covers j a.cover rules.each_cover a.is_cover).under s a.named in
    let high = (all_at (IsCover ship) ship.covers k b.cover rules.each_cover b.is_cover).on s b.named in
    let same : low.0 ≡ high.0 = sym (get_or_from_slice_get ship.stacks s low.0 low.0 low.1) ∙ get_or_from_slice_get ship.stacks s high.0 low.0 high.1 in
    let in_hold : IsInHold high.0 = subst IsInHold same low.2 in
    let on_deck : IsOnDeck high.0 = high.2 in
    let up : high.0.lowest + 2 * (high.0.tiers - 1) ≤ 78 = in_hold.1 in
    let from : 80 ≤ high.0.lowest = on_deck.0 in
    omega (arith, up, from)

-- a stack is of one cover
one_cover : (ship : Ship) (s j k : ℕ) → IsShip ship → IsCoverOf ship s j → IsCoverOf ship s k → j ≡ k
one_cover ship s j k rules (inl a) (inl b) = one_over ship s j k rules a b
one_cover ship s j k rules (inl a) (inr b) = absurd (not_both ship s j k rules a b)
one_cover ship s j k rules (inr a) (inl b) = absurd (not_both ship s k j rules b a)
one_cover ship s j k rules (inr a) (inr b) = one_under ship s j k rules a b

-- the stack is reached; the cover is the reached one
IsReached : Ship → Reach → ℕ → Type 0
IsReached ship (OneStack t) s = s ≡ t
IsReached ship (AllOf k) s = IsCoverOf ship s k

IsOwn : Reach → ℕ → Type 0
IsOwn (OneStack t) k = ⊥
IsOwn (AllOf j) k = j ≡ k

to_reached : (ship : Ship) (m : Move) (s : ℕ) → Touches ship m s → IsReached ship (reach_of ship m) s
unfolding IsReached
to_reached ship (Lift p) s h = h
to_reached ship (Put c p) s h = h
to_reached ship (OffCover k) s h = h
to_reached ship (OnCover k) s h = h

from_reached : (ship : Ship) (m : Move) (s : ℕ) → IsReached ship (reach_of ship m) s → Touches ship m s
unfolding IsReached
from_reached ship (Lift p) s h = h
from_reached ship (Put c p) s h = h
from_reached ship (OffCover k) s h = h
from_reached ship (OnCover k) s h = h

to_own : (ship : Ship) (m : Move) (k : ℕ) → cover_of m ≡ Some k → IsOwn (reach_of ship m) k
unfolding IsOwn
to_own ship (Lift p) k h = cc
to_own ship (Put c p) k h = cc
to_own ship (OffCover j) k h = cc
to_own ship (OnCover j) k h = cc

from_own : (ship : Ship) (m : Move) (k : ℕ) → IsOwn (reach_of ship m) k → cover_of m ≡ Some k
unfolding IsOwn
from_own ship (Lift p) k h = absurd h
from_own ship (Put c p) k h = absurd h
from_own ship (OffCover j) k h = ap Some h
from_own ship (OnCover j) k h = ap Some h

apart_stacks : (ship : Ship) (a b : Reach) (s : ℕ) → IsShip ship → AreApart ship a b → IsReached ship a s → IsReached ship b s → ⊥
unfolding IsReached
apart_stacks ship (OneStack s') (OneStack t) s rules apart h g = apart (sym h ∙ g)
apart_stacks ship (OneStack s') (AllOf k) s rules apart h g = apart (subst (λ (x : ℕ). IsCoverOf ship x k) h g)
apart_stacks ship (AllOf k) (OneStack t) s rules apart h g = apart (subst (λ (x : ℕ). IsCoverOf ship x k) g h)
apart_stacks ship (AllOf j) (AllOf k) s rules apart h g = apart (one_cover ship s j k rules h g)

apart_covers : (ship : Ship) (a b : Reach) (k : ℕ) → AreApart ship a b → IsOwn a k → IsOwn b k → ⊥
unfolding IsOwn
apart_covers ship (OneStack s) b k apart h g = h
apart_covers ship (AllOf j) (OneStack t) k apart h g = g
apart_covers ship (AllOf j) (AllOf l) k apart h g = apart (h ∙ sym g)

apart_from : (ship : Ship) (a b : Reach) → ((s : ℕ) → IsReached ship a s → IsReached ship b s → ⊥) → ((k : ℕ) → IsOwn a k → IsOwn b k → ⊥) → AreApart ship a b
unfolding IsReached IsOwn
apart_from ship (OneStack s) (OneStack t) stacks covers = λ e. stacks s refl e
apart_from ship (OneStack s) (AllOf k) stacks covers = λ h. stacks s refl h
apart_from ship (AllOf k) (OneStack s) stacks covers = λ h. stacks s h refl
apart_from ship (AllOf j) (AllOf k) stacks covers = λ e. covers k e refl

pub independent_from : (ship : Ship) (t u : Task) → IsShip ship → AreApart ship (reach_of ship t.step) (reach_of ship u.step) → (SharesContainer t.container u.container → ⊥) → AreIndependent ship t u
independent_from ship t u rules apart other = record {
  no_stack = λ s a b. apart_stacks ship (reach_of ship t.step) (reach_of ship u.step) s rules apart (to_reached ship t.step s a) (to_reached ship u.step s b);
  no_container = λ c a b. other (c, a, b);
  no_cover = λ k a b. apart_covers ship (reach_of ship t.step) (reach_of ship u.step) k apart (to_own ship t.step k a) (to_own ship u.step k b);
}

pub independent_apart : (ship : Ship) (t u : Task) → AreIndependent ship t u → AreApart ship (reach_of ship t.step) (reach_of ship u.step)
independent_apart ship t u i = apart_from ship (reach_of ship t.step) (reach_of ship u.step)
    (λ s a b. i.no_stack s (from_reached ship t.step s a) (from_reached ship u.step s b))
    (λ k a b. i.no_cover k (from_own ship t.step k a) (from_own ship u.step k b))

pub independent_other : (ship : Ship) (t u : Task) → AreIndependent ship t u → SharesContainer t.container u.container → ⊥
independent_other ship t u i (c, a, b) = i.no_container c a b
