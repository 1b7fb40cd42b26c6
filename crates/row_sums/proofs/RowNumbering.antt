-- The name of a class's number.
use Rattle.std.proofs.Common.{◌≡◌, ℕ, zero, suc, ◌≤◌, ◌+◌, ◌*◌, List, [], ◌∷◌, length, refl, arith}
use Rattle.std.specs.Prelude.{slice_index_or}
use Rattle.stow_data.specs.declared.geometry.Separation.{Separation}
use Rattle.zero_one_rows.specs.Rows.{no_separation}
use Rattle.row_sums.specs.Sums.{class_names}

-- an even number
pub named_first : (es : List Separation) (e c : ℕ) → c ≡ 2 * e → slice_index_or (class_names es) c [] ≡ (slice_index_or es e no_separation).a
named_first [] e c h = refl
named_first (x ∷ xs) zero zero h = refl
named_first (x ∷ xs) zero (suc c) h = absurd (omega arith)
named_first (x ∷ xs) (suc e) zero h = absurd (omega arith)
named_first (x ∷ xs) (suc e) (suc zero) h = absurd (omega arith)
named_first (x ∷ xs) (suc e) (suc (suc c)) h = named_first xs e c (omega arith)

-- an odd one
pub named_second : (es : List Separation) (e c : ℕ) → c ≡ 2 * e + 1 → slice_index_or (class_names es) c [] ≡ (slice_index_or es e no_separation).b
named_second [] e c h = refl
named_second (x ∷ xs) zero zero h = absurd (omega arith)
named_second (x ∷ xs) zero (suc zero) h = refl
named_second (x ∷ xs) zero (suc (suc c)) h = absurd (omega arith)
named_second (x ∷ xs) (suc e) zero h = absurd (omega arith)
named_second (x ∷ xs) (suc e) (suc zero) h = absurd (omega arith)
named_second (x ∷ xs) (suc e) (suc (suc c)) h = named_second xs e c (omega arith)

-- one that no class has
pub named_past : (es : List Separation) (c : ℕ) → 2 * length es ≤ c → slice_index_or (class_names es) c [] ≡ []
named_past [] c l = refl
named_past (x ∷ xs) zero l = absurd (omega arith)
named_past (x ∷ xs) (suc zero) l = absurd (omega arith)
named_past (x ∷ xs) (suc (suc c)) l = named_past xs c (omega arith)
