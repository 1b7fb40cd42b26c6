-- Which sums of a row lose where a variable gets a value.
use Rattle.std.specs.Prelude.{◌≡◌, ◌⊎◌, ℕ, ◌<◌, Bool, true, not, cond, List, [], ◌∷◌, ◌++◌, Option, Some, None, length, slice_index_or}
use Rattle.stow_data.specs.Ship.{Ship, places}
use Rattle.zero_one_rows.specs.declared.program.Row.{Row}
use Rattle.zero_one_rows.specs.declared.program.Row.TheVariants.{Flow, Start, Cell, Support, Twenty, Block, Hatch, Weight, Apart, Cross}
use Rattle.zero_one_rows.specs.Variables.{Voyage}
use Rattle.row_sums.specs.declared.sums.Sign.{Sign}
use Rattle.row_sums.specs.declared.sums.Sign.TheVariants.{Plus, Minus}
use Rattle.row_sums.specs.declared.sums.Part.{Part}
use Rattle.row_sums.specs.declared.sums.Parts.{Parts}
use Rattle.row_sums.specs.Sums.{parts}
use Rattle.row_sums.specs.declared.numbering.Numbering.{Numbering}
use Rattle.row_sums.specs.Numbers.{number, IsLow, IsThere}
use Rattle.row_sums.specs.Held.{stands}
use Rattle.row_matrix.specs.Terms.{row_at}

-- a sum with this sign loses greatest value where one of its variables gets this value
abbrev pub loses_at : Sign → Bool → Bool
loses_at Plus y = not y
loses_at Minus y = y

-- one of the row's signed sums
pub record IsPart (m : Voyage) (r : Row) (q : Part) : Type 0 where
  pub all : Parts
  pub are : parts m r ≡ Some all
  pub which : (q ≡ all.first) ⊎ (all.second ≡ Some q)

-- a place of a row of arrivals is the ship's
abbrev pub NamesPlace : Ship → Row → Type 0
NamesPlace ship (Flow q i g) = Unit {0}
NamesPlace ship (Start q p) = p < length (places ship)
NamesPlace ship (Cell i h) = Unit {0}
NamesPlace ship (Support i h) = Unit {0}
NamesPlace ship (Twenty i h) = Unit {0}
NamesPlace ship (Block j h) = Unit {0}
NamesPlace ship (Hatch w j h d) = Unit {0}
NamesPlace ship (Weight i k) = Unit {0}
NamesPlace ship (Apart i e p q) = Unit {0}
NamesPlace ship (Cross l p c) = Unit {0}

-- there is room for the sums
abbrev pub SecondLow : Numbering → Option Part → Type 0
SecondLow z None = Unit {0}
SecondLow z (Some q) = IsLow z q.sum

abbrev pub PartsLow : Numbering → Parts → Type 0
PartsLow z ps = IsLow z ps.first.sum × SecondLow z ps.second

-- the numbers of those that lose at the value
abbrev pub number_of : Numbering → Bool → Part → List ℕ
number_of z y q = cond (loses_at q.sign y) (number z q.sum ∷ []) []

abbrev pub number_of_second : Numbering → Bool → Option Part → List ℕ
number_of_second z y None = []
number_of_second z y (Some q) = number_of z y q

abbrev pub numbers_of : Numbering → Bool → Parts → List ℕ
numbers_of z y ps = number_of z y ps.first ++ number_of_second z y ps.second

-- the number of one of the row's sums that lose at the value
pub record IsSumOf (m : Voyage) (z : Numbering) (y : Bool) (r : Row) (n : ℕ) : Type 0 where
  pub part : Part
  pub is_part : IsPart m r part
  pub loses : loses_at part.sign y ≡ true
  pub there : IsThere m part.sum
  pub is_number : number z part.sum ≡ n

-- the numbers of those of a row whose sums are all there, the first sum's before the second's
pub record AreInOrder (m : Voyage) (z : Numbering) (y : Bool) (r : Row) (ns : List ℕ) : Type 0 where
  pub all : Parts
  pub are : parts m r ≡ Some all
  pub there : (q : Part) → IsPart m r q → IsThere m q.sum
  pub order : ns ≡ numbers_of z y all

-- exactly their numbers: none, or all in order
pub record AreSumsOf (m : Voyage) (z : Numbering) (y : Bool) (r : Row) (ns : List ℕ) : Type 0 where
  pub only : (n : ℕ) → stands n ns ≡ true → IsSumOf m z y r n
  pub all : (q : Part) → IsPart m r q → loses_at q.sign y ≡ true → IsThere m q.sum → stands (number z q.sum) ns ≡ true
  pub order : (ns ≡ []) ⊎ AreInOrder m z y r ns

-- of the first n base rows
pub record AreRowSums (m : Voyage) (z : Numbering) (y : Bool) (lists : List (List ℕ)) (n : ℕ) : Type 0 where
  pub each : length lists ≡ n
  pub of : (k : ℕ) → k < n → AreSumsOf m z y (row_at m k) (slice_index_or lists k [])
