-- The first stack that shares a cell with an earlier one.
use Rattle.std.specs.Prelude.{◌≡◌, ◌≤◌, ℕ, List, ◌∷◌, ◌++◌, [], AllPairs, All, Contains, Err}
use Rattle.stow_data.specs.declared.geometry.Stack.{Stack}
use Rattle.stow_data.specs.Profile.{IsStack, SharesCell}
use Rattle.ship_profile.specs.declared.faults.ProfileFault.TheVariants.{DuplicateCell}
use Rattle.ship_profile.specs.Stacks.{apart_after}

-- a stack shares a cell with one of these in this odd bay
pub record SharesIn (earlier : List Stack) (s : Stack) (odd : ℕ) : Type 0 where
  pub other : Stack
  pub is_earlier : Contains earlier other
  pub shared : SharesCell other s
  pub in_bay : shared.odd ≡ odd

-- of these stacks it is the first that shares a cell with an earlier one: the lowest odd bay in which it does, its row and its lowest tier
pub record IsFirstShared (stacks : List Stack) (bay row tier : ℕ) : Type 0 where
  pub before : List Stack
  pub stack : Stack
  pub after : List Stack
  pub split : stacks ≡ before ++ stack ∷ after
  pub apart : AllPairs (λ s t. SharesCell s t → ⊥) before
  pub shares : SharesIn before stack bay
  pub lowest : (odd : ℕ) → SharesIn before stack odd → bay ≤ odd
  pub row_is : stack.row ≡ row
  pub tier_is : stack.lowest ≡ tier

-- the refusal of stacks names the first one that shares a cell with an earlier one
abbrev pub NamesFirstShared : Type 0
NamesFirstShared = (stacks : List Stack) (bay row tier : ℕ) → All IsStack stacks → apart_after [] stacks ≡ Err (DuplicateCell bay row tier) → IsFirstShared stacks bay row tier
