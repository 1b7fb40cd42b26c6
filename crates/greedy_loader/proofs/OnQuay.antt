-- What waits on the quay: listed by number, then put in order.
use Rattle.std.proofs.Common.{◌≡◌, ℕ, zero, suc, ◌+◌, ◌<◌, ◌≤◌, Bool, true, false, cond, List, [], ◌∷◌, ◌++◌, length, get_or, Some, refl, sym, ◌∙◌, ap, subst, arith, ◌⊎◌, inl, inr, ⊎_elim}
use Rattle.std.specs.Prelude.{◌==◌, ◌↔◌, IsTrue, slice_get, sum_by, AllPairs, Contains, if◌then◌else◌}
use Rattle.std.specs.List.Sorted.{IsPermutation}
use Rattle.std.proofs.lemmas.Bool.{both_ways, cases_eq, cases_order, cond-true, cond-false, eq-eqb, ne_eqb}
use Rattle.std.proofs.lemmas.Option.{none-some, same_Some, slice_get_within, get_or_from_slice_get, slice_get-get_or}
use Rattle.std.proofs.lemmas.List.Elements.{Contains-get_or, Contains-append_left, Contains-push, Contains-push_cases}
use Rattle.std.proofs.lemmas.List.Quantifiers.{all_pairs_push}
use Rattle.std.proofs.lemmas.List.Sums.{sum_by-cons}
use Rattle.std.proofs.lemmas.List.Sorted.{IsPermutation-sym, Contains-permutation, sum_by-IsPermutation}
use Rattle.stow_data.specs.Shipment.{Cargo}
use Rattle.stow_data.specs.Plans.{Plan}
use Rattle.plan_lifts.specs.Spread.{has}
use Rattle.greedy_loader.specs.Turns.{IsInOrder}
use Rattle.greedy_loader.specs.Calls.{GoesBack, LoadsAt, IsQuay}

-- the numbers below n of which P holds, listed
pub record ListedTo (P : ℕ → Type 0) (list : List ℕ) (n : ℕ) : Type 0 where
  pub rising : AllPairs (λ a b. a < b) list
  pub from : (c : ℕ) → Contains list c → (c < n) × P c
  pub each : (c : ℕ) → c < n → P c → Contains list c

pub listed_none : (P : ℕ → Type 0) (list : List ℕ) → list ≡ [] → ListedTo P list 0
listed_none P list is = subst (λ (x : List ℕ). ListedTo P x 0) (sym is) (record { rising = λ i j d l within. absurd (omega arith); from = λ c x. let l : x.0 < 0 = x.1 in absurd (omega arith); each = λ c l. absurd (omega arith) })

pub listed_more : (P : ℕ → Type 0) (list new : List ℕ) (n : ℕ) (b : Bool) → ListedTo P list n → (IsTrue b ↔ P n) → new ≡ (if b then list ++ n ∷ [] else list) → ListedTo P new (n + 1)
listed_more P list new n true before is made = subst (λ (x : List ℕ). ListedTo P x (n + 1)) (sym made) (record {
  rising = all_pairs_push (λ a b. a < b) list n before.rising (λ k d l. (before.from (get_or list k d) (Contains-get_or list k d l)).0);
  from = λ c x. ⊎_elim
      (λ (y : Contains list c). let r = before.from c y in (omega (arith, r.0), r.1))
      (λ (e : n ≡ c). (omega (arith, e), subst P e (is.0 refl)))
      (Contains-push_cases list n c x);
  each = λ c l m. ⊎_elim
      (λ (e : c ≡ n). subst (λ (x : ℕ). Contains (list ++ n ∷ []) x) (sym e) (Contains-push list n))
      (λ (ne : c ≡ n → ⊥). Contains-append_left list (n ∷ []) c (before.each c (omega (arith, ne)) m))
      (cases_eq c n);
})
listed_more P list new n false before is made = subst (λ (x : List ℕ). ListedTo P x (n + 1)) (sym made) (record {
  rising = before.rising;
  from = λ c x. let r = before.from c x in (omega (arith, r.0), r.1);
  each = λ c l m. ⊎_elim
      (λ (e : c ≡ n). absurd (both_ways false refl (is.1 (subst P e m))))
      (λ (ne : c ≡ n → ⊥). before.each c (omega (arith, ne)) m)
      (cases_eq c n);
})

pub waits_inside : (cargo : Cargo) (call : ℕ) (marked : List Bool) (c : ℕ) → length marked ≡ length cargo.containers → (has marked c ≡ true) ⊎ LoadsAt cargo call c → c < length cargo.containers
waits_inside cargo call marked c same w = ⊎_elim
    (λ (h : has marked c ≡ true). let l = has_inside marked c h in omega (arith, l, same))
    (λ (h : LoadsAt cargo call c). slice_get_within cargo.containers c h.container h.is_container)
    w
  where
    has_inside : (flags : List Bool) (k : ℕ) → has flags k ≡ true → k < length flags
    has_inside [] k h = absurd (both_ways false refl h)
    has_inside (b ∷ bs) zero h = omega arith
    has_inside (b ∷ bs) (suc k) h = omega (arith, has_inside bs k h)

pub listed_all : (P : ℕ → Type 0) (list : List ℕ) (n : ℕ) → ((c : ℕ) → P c → c < n) → ListedTo P list n → (c : ℕ) → Contains list c ↔ P c
listed_all P list n inside to c = (λ x. (to.from c x).1, λ m. to.each c (inside c m) m)

-- ## Each once, in any order

pub contains_at : (xs : List ℕ) (k c : ℕ) → slice_get xs k ≡ Some c → Contains xs c
contains_at xs k c h = (k, slice_get_within xs k c h, get_or_from_slice_get xs k c c h)

pub at_contains : (xs : List ℕ) (c : ℕ) → Contains xs c → (k : ℕ) × (slice_get xs k ≡ Some c)
at_contains xs c x = (x.0, slice_get-get_or xs x.0 c x.1 ∙ ap (λ (z : ℕ). Some z) x.2)

-- how often a number stands in a list
abbrev bit : ℕ → ℕ → ℕ
bit c x = cond {A = ℕ} (x == c) 1 0

abbrev times : ℕ → List ℕ → ℕ
times c xs = sum_by (bit c) xs

bit_on : (c x : ℕ) → x ≡ c → bit c x ≡ 1
bit_on c x e = cond-true (x == c) 1 0 (eq-eqb x c e)

bit_off : (c x : ℕ) → (x ≡ c → ⊥) → bit c x ≡ 0
bit_off c x ne = cond-false (x == c) 1 0 (ne_eqb x c ne)

absent_times : (c : ℕ) (xs : List ℕ) → ((k : ℕ) → slice_get xs k ≡ Some c → ⊥) → times c xs ≡ 0
absent_times c [] free = refl
absent_times c (x ∷ xs) free = omega (arith, sum_by-cons (bit c) x xs, bit_off c x (λ e. free 0 (ap (λ (z : ℕ). Some z) e)), absent_times c xs (λ k h. free (suc k) h))

present_times : (c : ℕ) (xs : List ℕ) (k : ℕ) → slice_get xs k ≡ Some c → 1 ≤ times c xs
present_times c [] k h = absurd (none-some c h)
present_times c (x ∷ xs) zero h = omega (arith, sum_by-cons (bit c) x xs, bit_on c x (same_Some x c h))
present_times c (x ∷ xs) (suc k) h = omega (arith, sum_by-cons (bit c) x xs, present_times c xs k h)

once_times : (c : ℕ) (xs : List ℕ) → ((j k : ℕ) → slice_get xs j ≡ Some c → slice_get xs k ≡ Some c → j ≡ k) → times c xs ≤ 1
once_times c [] once = let z : times c [] ≡ 0 = refl in omega (arith, z)
once_times c (x ∷ xs) once = ⊎_elim
    (λ (e : x ≡ c). omega (arith, sum_by-cons (bit c) x xs, bit_on c x e, absent_times c xs (λ k h. let same : 0 ≡ suc k = once 0 (suc k) (ap (λ (z : ℕ). Some z) e) h in absurd (omega (arith, same)))))
    (λ (ne : x ≡ c → ⊥). omega (arith, sum_by-cons (bit c) x xs, bit_off c x ne, once_times c xs (λ j k a b. let same : suc j ≡ suc k = once (suc j) (suc k) a b in omega (arith, same))))
    (cases_eq x c)

times_once : (c : ℕ) (xs : List ℕ) → times c xs ≤ 1 → (j k : ℕ) → slice_get xs j ≡ Some c → slice_get xs k ≡ Some c → j ≡ k
times_once c [] few j k a b = absurd (none-some c a)
times_once c (x ∷ xs) few zero zero a b = refl
times_once c (x ∷ xs) few zero (suc k) a b = absurd (omega (arith, few, sum_by-cons (bit c) x xs, bit_on c x (same_Some x c a), present_times c xs k b))
times_once c (x ∷ xs) few (suc j) zero a b = absurd (omega (arith, few, sum_by-cons (bit c) x xs, bit_on c x (same_Some x c b), present_times c xs j a))
times_once c (x ∷ xs) few (suc j) (suc k) a b = ap suc (times_once c xs (omega (arith, few, sum_by-cons (bit c) x xs)) j k a b)

rising_at : (xs : List ℕ) (c j k : ℕ) → AllPairs (λ a b. a < b) xs → j < k → slice_get xs j ≡ Some c → slice_get xs k ≡ Some c → ⊥
rising_at xs c j k up l a b =
    let less : get_or xs j c < get_or xs k c = up j k c l (slice_get_within xs k c b) in
    absurd (omega (arith, less, get_or_from_slice_get xs j c c a, get_or_from_slice_get xs k c c b))

rising_once : (xs : List ℕ) → AllPairs (λ a b. a < b) xs → (c j k : ℕ) → slice_get xs j ≡ Some c → slice_get xs k ≡ Some c → j ≡ k
rising_once xs up c j k a b = ⊎_elim
    (λ (e : j ≡ k). e)
    (λ (o : (j < k) ⊎ (k < j)). ⊎_elim (λ (l : j < k). absurd (rising_at xs c j k up l a b)) (λ (l : k < j). absurd (rising_at xs c k j up l b a)) o)
    (cases_order j k)

-- the list, put in order, is the quay
pub quay_is : (cargo : Cargo) (call : ℕ) (before : Plan) (lifted : ℕ → Bool) (marked : List Bool) (list quay : List ℕ)
    → ((c : ℕ) → (has marked c ≡ true) ↔ GoesBack cargo call before lifted c)
    → AllPairs (λ a b. a < b) list
    → ((c : ℕ) → Contains list c ↔ ((has marked c ≡ true) ⊎ LoadsAt cargo call c))
    → IsPermutation list quay → IsInOrder cargo quay → IsQuay cargo call before lifted quay
quay_is cargo call before lifted marked list quay marks up waits same order = record {
  waits = λ c. (
    λ x. ⊎_elim
        (λ (h : has marked c ≡ true). inl ((marks c).0 h))
        (λ (h : LoadsAt cargo call c). inr h)
        ((waits c).0 (Contains-permutation quay list c (IsPermutation-sym list quay same) x)),
    λ w. Contains-permutation list quay c same ((waits c).1 (⊎_elim
        (λ (h : GoesBack cargo call before lifted c). inl ((marks c).1 h))
        (λ (h : LoadsAt cargo call c). inr h)
        w)),
  );
  once = λ j k c. times_once c quay (omega (arith, sum_by-IsPermutation (bit c) list quay same, once_times c list (rising_once list up c))) j k;
  order = order;
}
