-- What rows lose by the next of several rows or sums, and by none.
use Rattle.std.proofs.Common.{◌≡◌, ℕ, ◌+◌, ◌<◌, ◌≤◌, List, [], ◌∷◌, ◌++◌, length, get_or, drop, pos, ◌+ℤ◌, arith, ◌∙◌, ap, add-one, drop-cons}
use Rattle.std.specs.Prelude.{nat_eq}
use borrow.Author.Differences.{ints}
use Rattle.std.proofs.lemmas.Grind.{common_steps}
use Rattle.proof_trees.specs.Program.{where_set}
use Rattle.row_matrix.specs.declared.entries.Loss.{Loss}
use Rattle.row_matrix.specs.declared.entries.Share.{Share}
use Rattle.row_matrix.specs.Terms.{loses, lost, lost_by}

abbrev pub no_share : Share
no_share = record { sum = 0; by = 0 }

abbrev pub no_loss : Loss
no_loss = record { row = 0; by = 0 }

pub drop_at : {X : Type 0} (xs : List X) (i : ℕ) (d : X) → i < length xs → drop i xs ≡ get_or xs i d ∷ drop (i + 1) xs
drop_at xs i d lt = rw add-one (drop-cons xs i d lt)

pub drop_over : {X : Type 0} (xs : List X) (i : ℕ) → length xs ≤ i → drop i xs ≡ []
drop_over xs i le = grind (arith, common_steps)

-- what the next row loses, and what the next sum takes
pub by_next : (by : ℕ) (rs : List ℕ) (i x k : ℕ) → i < length rs → get_or rs i x ≡ x → lost_by by (drop i rs) k ≡ where_set (nat_eq x k) (pos by) +ℤ lost_by by (drop (i + 1) rs) k
by_next by rs i x k lt is = ap (λ (xs : List ℕ). lost_by by xs k) (drop_at rs i x lt) ∙ ap (λ (r : ℕ). where_set (nat_eq r k) (pos by) +ℤ lost_by by (drop (i + 1) rs) k) is

pub lost_next : (ss : List Share) (rows : List (List ℕ)) (i : ℕ) (s : Share) (k : ℕ) → i < length ss → get_or ss i s ≡ s → lost (drop i ss) rows k ≡ lost_by s.by (get_or rows s.sum []) k +ℤ lost (drop (i + 1) ss) rows k
lost_next ss rows i s k lt is = ap (λ (xs : List Share). lost xs rows k) (drop_at ss i s lt) ∙ ap (λ (t : Share). lost_by t.by (get_or rows t.sum []) k +ℤ lost (drop (i + 1) ss) rows k) is

pub by_over : (by : ℕ) (rs : List ℕ) (i k : ℕ) → length rs ≤ i → lost_by by (drop i rs) k ≡ pos 0
by_over by rs i k le = ap (λ (xs : List ℕ). lost_by by xs k) (drop_over rs i le)

pub lost_over : (ss : List Share) (rows : List (List ℕ)) (i k : ℕ) → length ss ≤ i → lost (drop i ss) rows k ≡ pos 0
lost_over ss rows i k le = ap (λ (xs : List Share). lost xs rows k) (drop_over ss i le)

pub loses_next : (ls : List Loss) (i : ℕ) (l : Loss) (k : ℕ) → i < length ls → get_or ls i l ≡ l → loses (drop i ls) k ≡ where_set (nat_eq l.row k) (pos l.by) +ℤ loses (drop (i + 1) ls) k
loses_next ls i l k lt is = ap (λ (xs : List Loss). loses xs k) (drop_at ls i l lt) ∙ ap (λ (x : Loss). where_set (nat_eq x.row k) (pos x.by) +ℤ loses (drop (i + 1) ls) k) is

pub loses_over : (ls : List Loss) (i k : ℕ) → length ls ≤ i → loses (drop i ls) k ≡ pos 0
loses_over ls i k le = ap (λ (xs : List Loss). loses xs k) (drop_over ls i le)

-- one more row
pub loses_more : (ls : List Loss) (l : Loss) (k : ℕ) → loses (ls ++ l ∷ []) k ≡ loses ls k +ℤ where_set (nat_eq l.row k) (pos l.by)
loses_more [] l k = omega (arith, ints)
loses_more (x ∷ xs) l k = omega (arith, ints, loses_more xs l k)
