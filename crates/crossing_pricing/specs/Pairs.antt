-- What is kept of pairs of calls, for the crossing rows.
use Rattle.std.specs.Prelude.{◌≡◌, ℕ, ◌+◌, ◌*◌, ◌<◌, ◌≤◌, ◌^◌, ◌==◌, List, [], ◌∷◌, length, slice_index_or, ℤ, pos, ◌+ℤ◌, unsigned_abs}
use Rattle.proof_trees.specs.Program.{sum_to, where_set}
use Rattle.proof_trees.specs.Boxes.{Box, at}
use Rattle.stow_data.specs.declared.geometry.Length.{Length}
use Rattle.stow_data.specs.declared.geometry.Length.TheVariants.{Twenty, Forty}
use Rattle.zero_one_rows.specs.declared.program.Var.{Var}
use Rattle.zero_one_rows.specs.Variables.{Voyage, variables, var}
use Rattle.zero_one_rows.specs.Crossing.{columns, tallest, length_of, crosses, crossing_side}
use Rattle.crossing_pricing.specs.declared.pairs.PairSides.{PairSides}
use Rattle.crossing_pricing.specs.declared.pairs.PairTable.{PairTable}
use Rattle.crossing_pricing.specs.Gaps.{number_at, gap}

-- the price of all columns of a length
abbrev pub price_of_all : Voyage → ℕ → ℕ → ℤ
price_of_all m l price = pos (price * columns m.ship (length_of l))

-- what a pair brings at a price, but for variables
abbrev pub own_part : Voyage → ℕ → ℕ → ℕ → ℕ → ℤ
own_part m l price i d = crossing_side m l price (i ∷ d ∷ []) +ℤ price_of_all m l price

-- of each pair of the calls 0 to 12
pub record AreParts (m : Voyage) (l price : ℕ) (xs : List ℤ) : Type 0 where
  pub len : length xs ≡ 169
  pub each : (i d : ℕ) → i ≤ 12 → d ≤ 12 → number_at xs (13 * i + d) ≡ own_part m l price i d
  pub low : (k : ℕ) → k < length xs → unsigned_abs (number_at xs k) ≤ 2 ^ 37

-- at each price of a length
pub record AreSides (m : Voyage) (l : ℕ) (s : PairSides) : Type 0 where
  pub columns : s.columns ≡ columns m.ship (length_of l)
  pub few : s.columns ≤ 3000
  pub tallest : length s.prices ≡ tallest m.ship (length_of l)
  pub low : length s.prices ≤ 39
  pub each : (q : ℕ) → q < length s.prices → AreParts m l (q + 1) (slice_index_or s.prices q [])

-- the number of the pair of a variable that is lifted before its destination: of 20-foot kinds from 0, of 40-foot kinds from 169
pub record IsKey (m : Voyage) (x : Var) (key : ℕ) : Type 0 where
  pub short : (i d : ℕ) → i ≤ 12 → d ≤ 12 → (key == 0 + (13 * i + d)) ≡ crosses m 20 (i ∷ d ∷ []) x
  pub long : (i d : ℕ) → i ≤ 12 → d ≤ 12 → (key == 169 + (13 * i + d)) ≡ crosses m 40 (i ∷ d ∷ []) x

-- the same of its length, put, destination and lifting; 338 where it is of no pair
abbrev pub first_key : Length → ℕ
first_key Twenty = 0
first_key Forty = 169

pub record IsKeyOf (long : Length) (put dest lifted key : ℕ) : Type 0 where
  pub late : dest ≤ lifted → key ≡ 338
  pub put_out : 12 < put → key ≡ 338
  pub dest_out : 12 < dest → key ≡ 338
  pub inside : lifted < dest → put ≤ 12 → dest ≤ 12 → key ≡ first_key long + (13 * put + dest)

pub record AreKeys (m : Voyage) (keys : List ℕ) : Type 0 where
  pub len : length keys ≡ length (variables m)
  pub each : (v : ℕ) → v < length keys → IsKey m (var m v) (slice_index_or keys v 0)

pub record ArePairs (m : Voyage) (t : PairTable) : Type 0 where
  pub short : AreSides m 20 t.short
  pub long : AreSides m 40 t.long
  pub keys : AreKeys m t.keys

-- what the first n variables of each pair gain where their reduced costs fall by 1
abbrev pub gained : Box → List ℤ → List ℕ → ℕ → ℕ → ℤ
gained b ds keys n j = sum_to n (λ v. where_set (slice_index_or keys v 0 == j) (gap (at b v) (number_at ds v) (pos 1)))

pub record AreGained (b : Box) (ds : List ℤ) (keys : List ℕ) (n : ℕ) (gaps : List ℤ) : Type 0 where
  pub len : length gaps ≡ 338
  pub each : (j : ℕ) → j < 338 → number_at gaps j ≡ gained b ds keys n j
  pub low : (j : ℕ) → j < length gaps → unsigned_abs (number_at gaps j) ≤ n
