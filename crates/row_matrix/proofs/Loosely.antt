-- Boxes whose variables are set in any order, and where reduced costs are least.
use Rattle.std.proofs.Common.{◌≡◌, ◌≢◌, ℕ, zero, suc, ◌+◌, ◌<◌, ◌⊎◌, inl, inr, Bool, true, false, List, [], ◌∷◌, Option, Some, None, length, set, get_or, ℤ, pos, ◌-ℤ◌, arith, refl, sym, ◌∙◌, ap, subst}
use Rattle.std.specs.Prelude.{slice_get, int_lt, not}
use lib.Signed.{le_z}
use borrow.Author.Differences.{ints}
use Rattle.std.proofs.lemmas.List.{get_or-set_same, get_or-set_other}
use Rattle.proof_trees.specs.Boxes.{Box, at, most, violated}
use Rattle.zero_one_rows.specs.declared.program.Row.{Row}
use Rattle.zero_one_rows.specs.Variables.{Voyage}
use Rattle.zero_one_rows.specs.Rows.{whole}
use Rattle.zero_one_rows.specs.Counted.{base_rows}
use Rattle.row_matrix.proofs.Summing.{same_or_other}
use Rattle.row_matrix.specs.declared.slacks.Slacks.{Slacks}
use Rattle.row_matrix.specs.Terms.{row_at}
use Rattle.row_matrix.specs.Waiting.{number_at}
use Rattle.row_matrix.specs.Following.{Holds}
use Rattle.row_matrix.specs.Leaning.{cheaper, reduced_at}

pub set_again : (b : Box) (v : ℕ) (x y : Option Bool) → set (set b v x) v y ≡ set b v y
set_again [] v x y = refl
set_again (z ∷ b) zero x y = refl
set_again (z ∷ b) (suc v) x y = ap (λ c. z ∷ c) (set_again b v x y)

pub set_alike : (b : Box) (v : ℕ) (o : Option Bool) → at b v ≡ o → v < length b → set b v o ≡ b
set_alike [] v o e lt = refl
set_alike (z ∷ b) zero o e lt = ap (λ (x : Option Bool). x ∷ b) (sym e)
set_alike (z ∷ b) (suc v) o e lt = ap (λ c. z ∷ c) (set_alike b v o e (omega arith))

-- one more variable leans
pub leans_more : (minimizer b : Box) (ds : List ℤ) (v : ℕ) → v < length minimizer → ((u : ℕ) → u < v → at minimizer u ≡ cheaper (at b u) (reduced_at ds u)) → (u : ℕ) → u < v + 1 → at (set minimizer v (cheaper (at b v) (reduced_at ds v))) u ≡ cheaper (at b u) (reduced_at ds u)
leans_more minimizer b ds v lt before u u_lt = by (same_or_other u v)
  where
    by : (u ≡ v) ⊎ (u ≢ v) → at (set minimizer v (cheaper (at b v) (reduced_at ds v))) u ≡ cheaper (at b u) (reduced_at ds u)
    by (inl same) = subst (λ (k : ℕ). at (set minimizer v (cheaper (at b v) (reduced_at ds v))) k ≡ cheaper (at b k) (reduced_at ds k)) (sym same) (get_or-set_same minimizer v (cheaper (at b v) (reduced_at ds v)) None lt)
    by (inr other) = get_or-set_other minimizer v u (cheaper (at b v) (reduced_at ds v)) None other ∙ before u (omega arith)

row_is : (rows : List Row) (k : ℕ) (r d : Row) → slice_get rows k ≡ Some r → get_or rows k d ≡ r
row_is [] k r d e = absurd (let bad : ⊥ = cc in bad)
row_is (x ∷ rows) zero r d e = cc
row_is (x ∷ rows) (suc k) r d e = row_is rows k r d e

tells : (s top rhs : ℤ) (met : Bool) → s ≡ top -ℤ rhs → le_z (pos 0) s ≡ met → int_lt top rhs ≡ not met
tells s top rhs true e h = grind (arith, ints)
tells s top rhs false e h = grind (arith, ints)

pub met_tells : (m : Voyage) (b : Box) (s : Slacks) (k : ℕ) (r : Row) (met : Bool) → Holds m b s → k < length (base_rows m) → slice_get (base_rows m) k ≡ Some r → le_z (pos 0) (number_at s.slack.items k) ≡ met → violated (whole m) b r ≡ not met
met_tells m b s k r met holds lt is h =
    let e : row_at m k ≡ r = row_is (base_rows m) k r _ is in
    subst (λ (q : Row). violated (whole m) b q ≡ not met) e (tells (number_at s.slack.items k) (most (whole m) b (row_at m k)) ((whole m).rhs (row_at m k)) met (holds.slack k lt) h)
