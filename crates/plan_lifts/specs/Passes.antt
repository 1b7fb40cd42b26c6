-- The passes of a call: lifts from above, covers, puts from below.
use Rattle.std.specs.Prelude.{◌≡◌, ◌↔◌, ◌⊎◌, ℕ, Bool, true, not, ◌&&◌, List, [], ◌∷◌, ◌++◌, Option, Some, None, length, slice_get, suc, zero, cond, Contains}
use Rattle.stow_data.specs.declared.geometry.Place.{Place}
use Rattle.stow_data.specs.Ship.{Ship, places, StandsOn}
use Rattle.stow_data.specs.Plans.{Plan}
use Rattle.voyage_meaning.specs.declared.moves.Move.{Move}
use Rattle.voyage_meaning.specs.declared.moves.Move.TheVariants.{OffCover, OnCover, Lift, Put}
use Rattle.stowage_rules.specs.Plan.{Holds}
use Rattle.plan_lifts.specs.Spread.{IsHeldIn, IsOpened}

-- lifts from the places of a set below n, from the greatest number down
abbrev pub lifts_down : (ℕ → Bool) → ℕ → List Move
lifts_down f zero = []
lifts_down f (suc n) = cond (f n) (Lift n ∷ lifts_down f n) (lifts_down f n)

-- a put of what a place holds
abbrev pub put_of : ℕ → Option (Option ℕ) → List Move
put_of p (Some (Some c)) = Put c p ∷ []
put_of p (Some None) = []
put_of p None = []

-- puts at the places of a set from p up, over so many places
abbrev pub puts_from : (ℕ → Bool) → Plan → ℕ → ℕ → List Move
puts_from f plan p zero = []
puts_from f plan p (suc k) = cond (f p) (put_of p (slice_get plan p)) [] ++ puts_from f plan (suc p) k

-- a cover move for each cover of the set below n
abbrev pub covers_down : (ℕ → Move) → (ℕ → Bool) → ℕ → List Move
covers_down make f zero = []
covers_down make f (suc k) = cond (f k) (make k ∷ covers_down make f k) (covers_down make f k)

-- place p stands on a cover
pub record IsOnCover (ship : Ship) (p : ℕ) : Type 0 where
  pub place : Place
  pub is_place : slice_get (places ship) p ≡ Some place
  pub cover : ℕ
  pub on : StandsOn ship place.stack cover

-- a listed container stands at place p
pub record IsListedAt (plan : Plan) (list : List ℕ) (p : ℕ) : Type 0 where
  pub container : ℕ
  pub holds : Holds plan p container
  pub named : Contains list container

-- a container that is flagged stands at place p
pub record IsFlaggedAt (plan : Plan) (flags : ℕ → Bool) (p : ℕ) : Type 0 where
  pub container : ℕ
  pub holds : Holds plan p container
  pub flagged : flags container ≡ true

-- the sets that a call's moves go by: what is lifted or changes, what stands on covers, the covers that must open, what is put
pub record Sets (ship : Ship) (old new : Plan) (lifted moved deck opened due : ℕ → Bool) : Type 0 where
  pub moves : (p : ℕ) → (moved p ≡ true) ↔ ((lifted p ≡ true) ⊎ (slice_get old p ≡ slice_get new p → ⊥))
  pub decks : (p : ℕ) → (deck p ≡ true) ↔ IsOnCover ship p
  pub opens : (k : ℕ) → (opened k ≡ true) ↔ IsOpened ship moved k
  pub dues : (p : ℕ) → (due p ≡ true) ↔ IsHeldIn new moved p

-- the moves of a call in their passes: lifts on deck, covers off, lifts in the hold, puts in the hold, covers on, puts on deck
abbrev pub passes : Ship → Plan → (ℕ → Bool) → (ℕ → Bool) → (ℕ → Bool) → (ℕ → Bool) → List Move
passes ship new lifted deck opened due = lifts_down (λ p. lifted p && deck p) (length (places ship)) ++ (covers_down OffCover opened (length ship.covers) ++ (lifts_down (λ p. lifted p && not (deck p)) (length (places ship)) ++ (puts_from (λ p. due p && not (deck p)) new 0 (length (places ship)) ++ (covers_down OnCover opened (length ship.covers) ++ puts_from (λ p. due p && deck p) new 0 (length (places ship))))))

-- a call's moves are the passes of such sets, where what is lifted is listed
pub record IsCallMoves (ship : Ship) (old new : Plan) (list : List ℕ) (moves : List Move) : Type 0 where
  pub lifted : ℕ → Bool
  pub moved : ℕ → Bool
  pub deck : ℕ → Bool
  pub opened : ℕ → Bool
  pub due : ℕ → Bool
  pub listed : (p : ℕ) → (lifted p ≡ true) ↔ IsListedAt old list p
  pub sets : Sets ship old new lifted moved deck opened due
  pub made : moves ≡ passes ship new lifted deck opened due
