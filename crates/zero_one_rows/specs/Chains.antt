-- Chains of calls, and a list that has each once, in their order.
use Rattle.std.specs.Prelude.{◌≡◌, ℕ, suc, ◌+◌, ◌/◌, ◌%◌, ◌<◌, ◌≤◌, Bool, true, ◌==◌, ◌&&◌, nat_lt, nat_le, List, [], ◌∷◌, length, take, drop, All, AllPairs, Contains, ◌⊎◌}
use Rattle.std.specs.List.{zip, list_any}

-- each number is at least `low`, below `end`, and above the one before it
abbrev pub Rises : ℕ → ℕ → List ℕ → Type 0
Rises low end [] = Unit {0}
Rises low end (x ∷ xs) = (low ≤ x) × (x < end) × Rises (suc x) end xs

-- an even number, at least 4
abbrev pub is_length : ℕ → Bool
is_length n = (n % 2 == 0) && nat_le 4 n

-- a rising row of an even number, at least 4, of the numbers 0 to calls
pub record IsChain (calls : ℕ) (c : List ℕ) : Type 0 where
  pub rises : Rises 0 (calls + 1) c
  pub long : is_length (length c) ≡ true

-- the same as a truth value
abbrev pub rises : ℕ → ℕ → List ℕ → Bool
rises low end [] = true
rises low end (x ∷ xs) = nat_le low x && (nat_lt x end && rises (suc x) end xs)

abbrev pub is_chain : ℕ → List ℕ → Bool
is_chain calls c = rises 0 (calls + 1) c && is_length (length c)

-- the pairs of a chain: calls of its first half beside calls of its second half
abbrev pub pairs_of : List ℕ → List (ℕ × ℕ)
pairs_of c = zip (take (length c / 2) c) (drop (length c / 2) c)

abbrev pub is_pair : List ℕ → ℕ → ℕ → Bool
is_pair c load dest = list_any (λ p. (p.0 == load) && (p.1 == dest)) (pairs_of c)

-- lexical order, a prefix first
abbrev pub IsBefore : List ℕ → List ℕ → Type 0
IsBefore [] [] = ⊥
IsBefore [] (y ∷ ys) = Unit {0}
IsBefore (x ∷ xs) [] = ⊥
IsBefore (x ∷ xs) (y ∷ ys) = (x < y) ⊎ ((x ≡ y) × IsBefore xs ys)

-- every chain, in their order; so each once
pub record EachOnce (calls : ℕ) (xs : List (List ℕ)) : Type 0 where
  pub only : All (IsChain calls) xs
  pub every : (c : List ℕ) → IsChain calls c → Contains xs c
  pub in_order : AllPairs IsBefore xs
