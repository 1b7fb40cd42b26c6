-- How great the number of so many digits can be.
use Rattle.std.proofs.Common.{◌≡◌, ℕ, suc, zero, ◌+◌, ◌*◌, ◌-◌, ◌≤◌, arith}
use native.Mathlib.Numerals.{unary_clauses}

-- the greatest number of so many digits
abbrev pub nines : ℕ → ℕ
nines zero = 0
nines (suc n) = nines n * 10 + 9

nines_rise : (k n : ℕ) → nines n ≤ nines (n + k)
nines_rise zero n = simp unary_clauses (omega arith)
nines_rise (suc k) n = simp unary_clauses (omega (arith, nines_rise k n))

pub nines_small : (n : ℕ) → n ≤ 10 → nines n ≤ 9999999999
nines_small n h =
    let e : n + (10 - n) ≡ 10 = omega arith in
    rw e at (nines_rise (10 - n) n)

pub nine_nines : (n : ℕ) → n ≤ 9 → nines n ≤ 999999999
nine_nines n h =
    let e : n + (9 - n) ≡ 9 = omega arith in
    rw e at (nines_rise (9 - n) n)
