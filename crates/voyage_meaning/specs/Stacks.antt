-- Filled half-cells stack by stack.
use Rattle.std.specs.Prelude.{◌≡◌, ℕ, List, Option, Some, None, cond, nat_le, Contains}
use Rattle.stow_data.specs.declared.geometry.Half.{Half}
use Rattle.stow_data.specs.Ship.{Ship}
use Rattle.stow_data.specs.Plans.{Plan}
use Rattle.stowage_rules.specs.Places.{IsTaken}

-- a filled half-cell of the stack; of one of the stacks
pub record IsFilledOn (ship : Ship) (plan : Plan) (stack : ℕ) (half : Half) : Type 0 where
  pub same_stack : half.stack ≡ stack
  pub taken : IsTaken ship plan half

pub record IsFilledOnAny (ship : Ship) (plan : Plan) (stacks : List ℕ) (half : Half) : Type 0 where
  pub listed : Contains stacks half.stack
  pub taken : IsTaken ship plan half

-- the lesser of two numbers, where there are two
abbrev pub lesser : Option ℕ → Option ℕ → Option ℕ
lesser None b = b
lesser (Some x) None = Some x
lesser (Some x) (Some y) = Some (cond (nat_le x y) x y)
