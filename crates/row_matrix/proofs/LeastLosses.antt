-- What rows lose is at least 0.
use Rattle.std.proofs.Common.{ℕ, Bool, true, false, List, [], ◌∷◌, get_or, pos, ◌≤ℤ◌, arith}
use Rattle.std.specs.Prelude.{nat_eq}
use borrow.Author.Differences.{ints}
use Rattle.proof_trees.specs.Program.{where_set}
use Rattle.row_matrix.specs.declared.entries.Loss.{Loss}
use Rattle.row_matrix.specs.declared.entries.Share.{Share}
use Rattle.row_matrix.specs.Terms.{loses, lost, lost_by}

pub where_least : (b : Bool) (n : ℕ) → pos 0 ≤ℤ where_set b (pos n)
where_least true n = omega (arith, ints)
where_least false n = omega (arith, ints)

pub by_least : (by : ℕ) (rs : List ℕ) (k : ℕ) → pos 0 ≤ℤ lost_by by rs k
by_least by [] k = omega (arith, ints)
by_least by (r ∷ rs) k = omega (arith, ints, by_least by rs k, where_least (nat_eq r k) by)

pub lost_least : (ss : List Share) (rows : List (List ℕ)) (k : ℕ) → pos 0 ≤ℤ lost ss rows k
lost_least [] rows k = omega (arith, ints)
lost_least (s ∷ ss) rows k = omega (arith, ints, lost_least ss rows k, by_least s.by (get_or rows s.sum []) k)

pub loses_least : (ls : List Loss) (k : ℕ) → pos 0 ≤ℤ loses ls k
loses_least [] k = omega (arith, ints)
loses_least (l ∷ ls) k = omega (arith, ints, loses_least ls k, where_least (nat_eq l.row k) l.by)
