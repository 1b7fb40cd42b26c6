-- Which path comes first in preorder: as their common length says, taken the other way round, else the shorter one.
use Rattle.std.proofs.Common.{◌≡◌, ◌<◌, ◌∙◌, ℕ, suc, true, false, [], ◌∷◌, length, take, min, refl, sym, ap, arith}
use native.Mathlib.Numerals.{unary_clauses}
use Rattle.std.specs.declared.cmp.Ordering.{Ordering}
use Rattle.std.specs.declared.cmp.Ordering.TheVariants.{Less, Equal, Greater}
use Rattle.std.specs.Ordering.{MatchOrdering, bool_cmp, nat_cmp, ordering_then}
use Rattle.std.specs.Cmp.{nat_cmp_is, ranks}
use Rattle.std.specs.Cmp.Lexicographic.{slice_cmp}
use Rattle.search_core.specs.Journals.{Path}
use Rattle.node_ledger.specs.Preorder.{by_preorder}

longer : (m n : ℕ) (o : Ordering) → MatchOrdering o (m < n) (m ≡ n) (n < m) → MatchOrdering o (suc m < suc n) (suc m ≡ suc n) (suc n < suc m)
longer m n Less h = omega (arith, h)
longer m n Equal h = omega (arith, h)
longer m n Greater h = omega (arith, h)

both_longer : (m n : ℕ) → nat_cmp (suc m) (suc n) ≡ nat_cmp m n
both_longer m n = sym (nat_cmp_is (suc m) (suc n) (nat_cmp m n) (longer m n (nat_cmp m n) (ranks m n)))

abbrev common : Path → Path → ℕ
common a b = min (length a) (length b)

abbrev parted : Path → Path → Ordering
parted a b = slice_cmp bool_cmp (take (common a b) b) (take (common a b) a)

pub by_parting : (a b : Path) → ordering_then (parted a b) (nat_cmp (length a) (length b)) ≡ by_preorder a b
by_parting [] [] = refl
by_parting [] (y ∷ b) = simp unary_clauses (sym (nat_cmp_is 0 (suc (length b)) Less (omega arith)))
by_parting (x ∷ a) [] = simp unary_clauses (sym (nat_cmp_is (suc (length a)) 0 Greater (omega arith)))
by_parting (true ∷ a) (true ∷ b) = simp unary_clauses (ap (ordering_then (parted a b)) (both_longer (length a) (length b)) ∙ by_parting a b)
by_parting (true ∷ a) (false ∷ b) = simp unary_clauses refl
by_parting (false ∷ a) (true ∷ b) = simp unary_clauses refl
by_parting (false ∷ a) (false ∷ b) = simp unary_clauses (ap (ordering_then (parted a b)) (both_longer (length a) (length b)) ∙ by_parting a b)
