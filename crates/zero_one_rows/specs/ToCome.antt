-- How the chains that are still to come are kept: by the number of the calls, and the place of a row among all rising rows.
use Rattle.std.specs.Prelude.{ℕ, zero, suc, ◌+◌, ◌-◌, ◌^◌, ◌≤◌, List, [], ◌∷◌, length, cond, ◌==◌, nat_le}
use Rattle.zero_one_rows.specs.declared.all_chains.Chains.TheInside.{Inside}
use Rattle.zero_one_rows.specs.Chains.{is_length}

-- the rising row of the numbers k to k + n - 1 that has i such rows before it; the empty row has none
abbrev pub row_at : ℕ → ℕ → ℕ → List ℕ
row_at k zero i = []
row_at k (suc n) i = cond (i == 0) [] (cond (nat_le i (2 ^ n)) (k ∷ row_at (k + 1) n (i - 1)) (row_at (k + 1) n (i - 2 ^ n)))

-- the chains among the r rows from i on, of numbers below n
abbrev pub chains_of : ℕ → ℕ → ℕ → List (List ℕ)
chains_of n zero i = []
chains_of n (suc r) i = cond (is_length (length (row_at 0 n i))) (row_at 0 n i ∷ chains_of n r (suc i)) (chains_of n r (suc i))

abbrev pub to_come : Inside → List (List ℕ)
to_come s = chains_of (s.calls + 1) (2 ^ (s.calls + 1) - s.place) s.place

pub record IsWithin (s : Inside) : Type 0 where
  pub calls : s.calls ≤ 12
  pub place : s.place ≤ 2 ^ (s.calls + 1)
