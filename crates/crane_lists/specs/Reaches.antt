-- What a move reaches, and when two reach nothing in common.
use Rattle.std.specs.Prelude.{◌≡◌, ℕ, Option, Some}
use Rattle.stow_data.specs.Ship.{Ship}
use Rattle.voyage_meaning.specs.declared.moves.Move.{Move}
use Rattle.voyage_meaning.specs.declared.moves.Move.TheVariants.{OffCover, OnCover, Lift, Put}
use Rattle.crane_lists.specs.declared.pairs.Reach.{Reach}
use Rattle.crane_lists.specs.declared.pairs.Reach.TheVariants.{OneStack, AllOf}
use Rattle.crane_lists.specs.Tasks.{IsCoverOf, stack_of}

-- a lift or put reaches its stack, a cover move the stacks of its cover
abbrev pub reach_of : Ship → Move → Reach
reach_of ship (Lift p) = OneStack (stack_of ship p)
reach_of ship (Put c p) = OneStack (stack_of ship p)
reach_of ship (OffCover k) = AllOf k
reach_of ship (OnCover k) = AllOf k

-- they reach no common stack, and are not of one cover
abbrev pub AreApart : Ship → Reach → Reach → Type 0
AreApart ship (OneStack s) (OneStack t) = s ≡ t → ⊥
AreApart ship (OneStack s) (AllOf k) = IsCoverOf ship s k → ⊥
AreApart ship (AllOf k) (OneStack s) = IsCoverOf ship s k → ⊥
AreApart ship (AllOf j) (AllOf k) = j ≡ k → ⊥

-- both name a common container
abbrev pub SharesContainer : Option ℕ → Option ℕ → Type 0
SharesContainer a b = (c : ℕ) × (a ≡ Some c) × (b ≡ Some c)
