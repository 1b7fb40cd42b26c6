-- Variables that are 1, the rows of one column of half-cells, and the pairs of a chain.
use Rattle.std.specs.Prelude.{◌≡◌, ℕ, zero, suc, ◌+◌, ◌<◌, ◌≤◌, Bool, true, ◌&&◌, ◌==◌, cond, nat_lt}
use Rattle.zero_one_rows.specs.declared.program.Var.{Var}
use Rattle.zero_one_rows.specs.Rows.{active, stays, ends}

-- f 0 + .. + f (n - 1), and how many of the numbers below n pass
abbrev pub total_to : ℕ → (ℕ → ℕ) → ℕ
total_to zero f = 0
total_to (suc n) f = total_to n f + f n

abbrev pub one_if : Bool → ℕ
one_if b = cond b 1 0

abbrev pub count_to : ℕ → (ℕ → Bool) → ℕ
count_to n p = total_to n (λ v. one_if (p v))

-- the variables, by number, with those that are 1, and the half-cells of each place
pub record World (H : Type 0) : Type 0 where
  pub vars : ℕ
  pub var : ℕ → Var
  pub is_set : ℕ → Bool
  pub has_half : ℕ → H → Bool

-- how many set variables pass
abbrev pub many : {H : Type 0} → World H → (ℕ → Bool) → ℕ
many w p = count_to w.vars (λ v. w.is_set v && p v)

abbrev pub occ : {H : Type 0} → World H → ℕ → H → ℕ → Bool
occ w i h v = w.has_half (w.var v).place h && active i (w.var v)

abbrev pub stay : {H : Type 0} → World H → ℕ → H → ℕ → Bool
stay w j h v = w.has_half (w.var v).place h && stays j (w.var v)

abbrev pub out : {H : Type 0} → World H → ℕ → H → ℕ → Bool
out w j h v = w.has_half (w.var v).place h && ends j (w.var v)

-- the rows of one column of half-cells, bottom first, at the calls below `last`; departure 0 is the arrival
pub record ColumnRows {H : Type 0} (w : World H) (last : ℕ) (half : ℕ → H) (height : ℕ) : Type 0 where
  pub cell : (i t : ℕ) → 0 < i → i < last → t < height → many w (occ w i (half t)) ≤ 1
  pub support : (i t : ℕ) → i < last → suc t < height → 0 < many w (occ w i (half (suc t))) → 0 < many w (occ w i (half t))
  pub block : (j t : ℕ) → 0 < j → j < last → suc t < height → many w (out w j (half t)) + many w (stay w j (half (suc t))) ≤ 1

-- a pair of a call of loading and a destination
pub record Pair : Type 0 where
  pub load : ℕ
  pub dest : ℕ

-- of the kinds of which a pair speaks: loaded for the pair; lifted before the destination; kept until then
abbrev pub loaded : {H : Type 0} → World H → (ℕ → ℕ → Bool) → Pair → ℕ → Bool
loaded w speaks p v = ((w.var v).put == p.load) && speaks (w.var v).kind p.dest

abbrev pub lifted_early : {H : Type 0} → World H → (ℕ → ℕ → Bool) → Pair → ℕ → Bool
lifted_early w speaks p v = loaded w speaks p v && nat_lt (w.var v).lifted p.dest

abbrev pub kept : {H : Type 0} → World H → (ℕ → ℕ → Bool) → Pair → ℕ → Bool
kept w speaks p v = loaded w speaks p v && ((w.var v).lifted == p.dest)

-- the pairs of a chain: loads before all destinations, both rising
pub record IsChainOf (last m : ℕ) (pair : ℕ → Pair) : Type 0 where
  pub two : 1 < m
  pub loads : (k l : ℕ) → k < l → l < m → (pair k).load < (pair l).load
  pub dests : (k l : ℕ) → k < l → l < m → (pair k).dest < (pair l).dest
  pub between : (k l : ℕ) → k < m → l < m → (pair k).load < (pair l).dest
  pub within : (k : ℕ) → k < m → (pair k).dest ≤ last

-- the columns out of n slots where one may be; the column and tier of each place that such a variable may take
pub record Columns {H : Type 0} (w : World H) (last : ℕ) (speaks : ℕ → ℕ → Bool) (n : ℕ) (offers : ℕ → Bool) (height : ℕ) : Type 0 where
  pub half : ℕ → ℕ → H
  pub tall : ℕ → ℕ
  pub rows : (c : ℕ) → c < n → offers c ≡ true → ColumnRows w last (half c) (tall c)
  pub highest : (c : ℕ) → c < n → offers c ≡ true → tall c ≤ height
  pub column_of : ℕ → ℕ
  pub tier_of : ℕ → ℕ
  pub column : (v d : ℕ) → v < w.vars → speaks (w.var v).kind d ≡ true → column_of (w.var v).place < n
  pub offered : (v d : ℕ) → v < w.vars → speaks (w.var v).kind d ≡ true → offers (column_of (w.var v).place) ≡ true
  pub tier : (v d : ℕ) → v < w.vars → speaks (w.var v).kind d ≡ true → tier_of (w.var v).place < tall (column_of (w.var v).place)
  pub stands : (v d : ℕ) → v < w.vars → speaks (w.var v).kind d ≡ true → w.has_half (w.var v).place (half (column_of (w.var v).place) (tier_of (w.var v).place)) ≡ true
