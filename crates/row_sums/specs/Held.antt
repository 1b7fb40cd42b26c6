-- The sums that hold a variable, by number.
use Rattle.std.specs.Prelude.{◌≡◌, ℕ, ◌<◌, Bool, true, List, [], AllPairs, filter, length, nat_eq, slice_index_or}
use Rattle.std.specs.List.{list_any, range_with_len}
use Rattle.row_sums.specs.Transposed.{IsTransposed}
use Rattle.zero_one_rows.specs.declared.program.Var.{Var}
use Rattle.zero_one_rows.specs.Variables.{Voyage, variables, var}
use Rattle.row_sums.specs.declared.sums.Sum.{Sum}
use Rattle.row_sums.specs.Sums.{holds}
use Rattle.row_sums.specs.declared.numbering.Numbering.{Numbering}
use Rattle.row_sums.specs.Numbers.{number, numbers, IsThere}

-- the number stands in a list
abbrev pub stands : ℕ → List ℕ → Bool
stands n ns = list_any (nat_eq n) ns

-- the variables of a sum, rising
abbrev pub variables_of : Voyage → Sum → List ℕ
variables_of m s = filter (λ v. holds m s (var m v)) (range_with_len 0 (length (variables m)))

-- the number of a sum that holds the variable
pub record IsHeldBy (m : Voyage) (z : Numbering) (x : Var) (n : ℕ) : Type 0 where
  pub sum : Sum
  pub there : IsThere m sum
  pub is_number : number z sum ≡ n
  pub holds_it : holds m sum x ≡ true

-- exactly the numbers of the sums that hold the variable
pub record AreSumsOf (m : Voyage) (z : Numbering) (x : Var) (ns : List ℕ) : Type 0 where
  pub only : (n : ℕ) → stands n ns ≡ true → IsHeldBy m z x n
  pub all : (s : Sum) → IsThere m s → holds m s x ≡ true → stands (number z s) ns ≡ true

-- the variables of each sum, gathered from the sums of each variable
pub record AreTurned (m : Voyage) (z : Numbering) (turned : List (List ℕ)) : Type 0 where
  pub of_each : List (List ℕ)
  pub each : length of_each ≡ length (variables m)
  pub of : (v : ℕ) → v < length (variables m) → AreSumsOf m z (var m v) (slice_index_or of_each v [])
  pub are_turned : IsTransposed of_each (numbers z) turned

abbrev pub IsRising : List ℕ → Type 0
IsRising ns = AllPairs (λ a b. a < b) ns
