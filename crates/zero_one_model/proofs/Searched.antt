-- A binary search among the variables.
use Rattle.std.proofs.Common.{◌≡◌, ℕ, ◌<◌, ◌≤◌, ◌+◌, List, arith, refl, sym, ◌∙◌, ap, length, subst, ⊎_elim, Err}
use Rattle.std.specs.Prelude.{slice_index_or}
use Rattle.std.specs.List.Sorted.{IsBinarySearchResult, IsSortedBy}
use Rattle.std.specs.Cmp.{IsTotalOrder, then_total, on_total}
use Rattle.std.proofs.lemmas.Cmp.{nat_cmp_total, tied_itself}
use Rattle.std.proofs.lemmas.List.Sorted.{searchable_from_sorted}
use Rattle.std.proofs.lemmas.Bool.{cases_lt, lt-ltb}
use Rattle.zero_one_rows.specs.Variables.{no_var}
use Rattle.std.specs.Ordering.{nat_cmp, ordering_then, ordering_reverse, is_lt}
use Rattle.std.specs.declared.cmp.Ordering.{Ordering}
use Rattle.std.specs.declared.cmp.Ordering.TheVariants.{Less, Equal, Greater}
use Rattle.zero_one_rows.specs.declared.program.Var.{Var}
use Rattle.zero_one_model.proofs.Rising.{Precedes, by_put, by_kind, by_lifted, by_place}
use Rattle.zero_one_rows.proofs.Rising.{Rising, rising_get}

abbrev pub var_cmp : Var → Var → Ordering
var_cmp a b = ordering_then (nat_cmp a.put b.put) (ordering_then (nat_cmp a.kind b.kind) (ordering_then (nat_cmp a.lifted b.lifted) (nat_cmp a.place b.place)))

less_nat : (x y : ℕ) → x < y → nat_cmp x y ≡ Less
less_nat x y l = rw (lt-ltb x y l) refl

same_nat : (x y : ℕ) → x ≡ y → nat_cmp x y ≡ Equal
same_nat x y e = rw (tied (nat_cmp_total) x y e) refl
  where
    tied : IsTotalOrder nat_cmp → (x y : ℕ) → x ≡ y → nat_cmp x y ≡ Equal
    tied o x y e = subst (λ (z : ℕ). nat_cmp x z ≡ Equal) e (tied_itself o x)

pub precedes_less : (a b : Var) → Precedes a b → var_cmp a b ≡ Less
precedes_less a b (by_put l) = rw (less_nat a.put b.put l) refl
precedes_less a b (by_kind e l) = rw (same_nat a.put b.put e, less_nat a.kind b.kind l) refl
precedes_less a b (by_lifted e f l) = rw (same_nat a.put b.put e, same_nat a.kind b.kind f, less_nat a.lifted b.lifted l) refl
precedes_less a b (by_place e f g l) = rw (same_nat a.put b.put e, same_nat a.kind b.kind f, same_nat a.lifted b.lifted g, less_nat a.place b.place l) refl

-- what a search that finds no place says
pub not_listed : (o : IsTotalOrder var_cmp) (xs : List Var) (v : Var) (i : ℕ) → Rising Precedes xs → IsBinarySearchResult (λ y. var_cmp y v) xs (Err i) → (x : ℕ) → x < length xs → slice_index_or xs x no_var ≡ v → ⊥
not_listed o xs v i up found x l e =
    let sorted : IsSortedBy (λ a b. is_lt (var_cmp a b)) xs = λ k d _ m. ap is_lt (o.antisymm (slice_index_or xs (k + 1) d) (slice_index_or xs k d) ∙ ap ordering_reverse (precedes_less _ _ (rising_get Precedes xs k (k + 1) d up (omega arith) m))) in
    let parts = found (searchable_from_sorted o (λ (a : Var). a) xs v sorted) in
    let tied : var_cmp (slice_index_or xs x no_var) v ≡ Equal = subst (λ (z : Var). var_cmp z v ≡ Equal) (sym e) (tied_itself o v) in
    ⊎_elim
    (λ (low : x < i). let less : var_cmp (slice_index_or xs x no_var) v ≡ Less = parts.0 x no_var (omega arith) low in absurd (Less-not (sym less ∙ tied)))
    (λ (high : i ≤ x). let more : var_cmp (slice_index_or xs x no_var) v ≡ Greater = parts.1 x no_var high l in absurd (Greater-not (sym more ∙ tied)))
    (cases_lt x i)
  where
    Less-not : Less ≡ Equal → ⊥
    Less-not e = cc

    Greater-not : Greater ≡ Equal → ⊥
    Greater-not e = cc

pub var_total : IsTotalOrder var_cmp
var_total = then_total (on_total (λ (a : Var). a.put) nat_cmp_total) (then_total (on_total (λ (a : Var). a.kind) nat_cmp_total) (then_total (on_total (λ (a : Var). a.lifted) nat_cmp_total) (on_total (λ (a : Var). a.place) nat_cmp_total)))
