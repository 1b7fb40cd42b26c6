-- From the sums of each variable to the variables of each sum, and back.
use Rattle.std.proofs.Common.{◌≡◌, ℕ, zero, suc, ◌<◌, ◌≤◌, ◌+◌, Bool, true, false, cond, List, [], ◌∷◌, length, refl, sym, ◌∙◌, ap, subst, arith, eq-eqb, ⊎_elim}
use Rattle.std.specs.Prelude.{All, filter, nat_eq, slice_index_or, ◌||◌}
use Rattle.std.specs.List.{range_with_len}
use Rattle.std.proofs.lemmas.Bool.{both_ways, eqb-true, cases_eq, cases_lt}
use Rattle.std.proofs.lemmas.List.{get_or_past}
use Rattle.std.proofs.lemmas.List.Elements.{All-filter, All-nil}
use Rattle.std.proofs.lemmas.List.Kept.{AllPairs-filter}
use Rattle.std.proofs.lemmas.List.FromFn.{get_or-range_with_len, length-range_with_len}
use Rattle.row_sums.specs.Transposed.{IsTransposed}
use Rattle.zero_one_rows.specs.declared.program.Var.{Var}
use Rattle.zero_one_rows.specs.Variables.{Voyage, variables, var}
use Rattle.row_sums.specs.declared.sums.Sum.{Sum}
use Rattle.row_sums.specs.Sums.{holds}
use Rattle.row_sums.specs.declared.numbering.Numbering.{Numbering}
use Rattle.row_sums.specs.Numbers.{number, numbers, IsNumbering, IsThere}
use Rattle.row_sums.specs.Held.{stands, variables_of, AreSumsOf, IsRising}
use Rattle.row_sums.proofs.Telling.{tell, number_low}

pub filter_same : (t u : ℕ → Bool) (a n : ℕ) → ((k : ℕ) → k < a + n → t k ≡ u k) → filter t (range_with_len a n) ≡ filter u (range_with_len a n)
filter_same t u a zero h = refl
filter_same t u a (suc n) h =
    ap (λ (b : Bool). cond b (a ∷ filter t (range_with_len (a + 1) n)) (filter t (range_with_len (a + 1) n))) (h a (omega arith))
    ∙ ap (λ (ks : List ℕ). cond (u a) (a ∷ ks) ks) (filter_same t u (a + 1) n (λ k l. h k (omega arith)))

-- what stands in a filtered range
pub in_filter : (t : ℕ → Bool) (a n k : ℕ) → stands k (filter t (range_with_len a n)) ≡ true → (k < a + n) × (t k ≡ true)
in_filter t a zero k h = absurd (both_ways false refl h)
in_filter t a (suc n) k h = go (λ s. let r = in_filter t (a + 1) n k s in (let l = r.0 in omega (arith, l), r.1)) (t a) refl h
  where
    here : (stands k (filter t (range_with_len (a + 1) n)) ≡ true → (k < a + suc n) × (t k ≡ true)) → (b : Bool) → t a ≡ true → nat_eq k a ≡ b → (b || stands k (filter t (range_with_len (a + 1) n))) ≡ true → (k < a + suc n) × (t k ≡ true)
    here later true e f s = let same : k ≡ a = eqb-true k a f in (omega (arith, same), ap t same ∙ e)
    here later false e f s = later s

    go : (stands k (filter t (range_with_len (a + 1) n)) ≡ true → (k < a + suc n) × (t k ≡ true)) → (b : Bool) → t a ≡ b → stands k (cond b (a ∷ filter t (range_with_len (a + 1) n)) (filter t (range_with_len (a + 1) n))) ≡ true → (k < a + suc n) × (t k ≡ true)
    go later true e s = here later (nat_eq k a) e refl s
    go later false e s = later s

pub filter_in : (t : ℕ → Bool) (a n k : ℕ) → a ≤ k → k < a + n → t k ≡ true → stands k (filter t (range_with_len a n)) ≡ true
filter_in t a zero k l h e = absurd (omega (arith, l, h))
filter_in t a (suc n) k l h e = ⊎_elim
    (λ (q : k ≡ a). here q (t a) (ap t (sym q) ∙ e))
    (λ (d : k ≡ a → ⊥). there (t a) (filter_in t (a + 1) n k (grind (arith, l, d)) (omega (arith, h)) e))
    (cases_eq k a)
  where
    here : k ≡ a → (b : Bool) → b ≡ true → stands k (cond b (a ∷ filter t (range_with_len (a + 1) n)) (filter t (range_with_len (a + 1) n))) ≡ true
    here q true f = ap (λ (b : Bool). b || stands k (filter t (range_with_len (a + 1) n))) (eq-eqb k a q)
    here q false f = absurd (both_ways false refl f)

    or_later : (a b : Bool) → b ≡ true → (a || b) ≡ true
    or_later true b h = refl
    or_later false b h = h

    there : (b : Bool) → stands k (filter t (range_with_len (a + 1) n)) ≡ true → stands k (cond b (a ∷ filter t (range_with_len (a + 1) n)) (filter t (range_with_len (a + 1) n))) ≡ true
    there true s = or_later (nat_eq k a) (stands k (filter t (range_with_len (a + 1) n))) s
    there false s = s

pub rising : (t : ℕ → Bool) (n : ℕ) → IsRising (filter t (range_with_len 0 n))
rising t n = AllPairs-filter (λ a b. a < b) t (range_with_len 0 n) (λ i j d l h.
    let m = length-range_with_len 0 n in
    let low = get_or-range_with_len 0 n i d (omega (arith, l, h, m)) in
    let high = get_or-range_with_len 0 n j d (omega (arith, h, m)) in
    omega (arith, low, high, l))

both_tests : (a b : Bool) → (a ≡ true → b ≡ true) → (b ≡ true → a ≡ true) → a ≡ b
both_tests true b h k = sym (h refl)
both_tests false true h k = k refl
both_tests false false h k = refl

-- a sum's number stands among a variable's exactly where it holds it
pub held_test : (m : Voyage) (z : Numbering) (x : Var) (ns : List ℕ) (s : Sum) → IsNumbering m z → IsThere m s → AreSumsOf m z x ns → stands (number z s) ns ≡ holds m s x
held_test m z x ns s n t a = both_tests (stands (number z s) ns) (holds m s x)
    (λ h. let i = a.only (number z s) h in subst (λ (u : Sum). holds m u x ≡ true) (tell m z i.sum s n i.there t i.is_number) i.holds_it)
    (λ h. a.all s t h)

pub turned_variables : (m : Voyage) (z : Numbering) (raw turned : List (List ℕ)) → IsNumbering m z → length raw ≡ length (variables m) → ((v : ℕ) → v < length (variables m) → AreSumsOf m z (var m v) (slice_index_or raw v []))
    → IsTransposed raw (numbers z) turned → (s : Sum) → IsThere m s → slice_index_or turned (number z s) [] ≡ variables_of m s
turned_variables m z raw turned n e h r s t =
    r.of (number z s) (number_low m z s n t)
    ∙ ap (λ (k : ℕ). filter (λ v. stands (number z s) (slice_index_or raw v [])) (range_with_len 0 k)) e
    ∙ filter_same (λ v. stands (number z s) (slice_index_or raw v [])) (λ v. holds m s (var m v)) 0 (length (variables m)) (λ v l. held_test m z (var m v) (slice_index_or raw v []) s n t (h v (omega (arith, l))))

pub turned_back : (m : Voyage) (z : Numbering) (raw turned back : List (List ℕ)) → IsNumbering m z → length raw ≡ length (variables m) → ((v : ℕ) → v < length (variables m) → AreSumsOf m z (var m v) (slice_index_or raw v []))
    → IsTransposed raw (numbers z) turned → IsTransposed turned (length (variables m)) back → (v : ℕ) → v < length (variables m) → AreSumsOf m z (var m v) (slice_index_or back v [])
turned_back m z raw turned back n e h r b v l = record {
  only = λ k s.
      let i = in_filter (λ a. stands v (slice_index_or turned a [])) 0 (length turned) k (ap (stands k) (sym (b.of v l)) ∙ s) in
      let low : k < numbers z = let q = i.0 in omega (arith, q, r.each) in
      let j = in_filter (λ w. stands k (slice_index_or raw w [])) 0 (length raw) v (ap (stands v) (sym (r.of k low)) ∙ i.1) in
      (h v l).only k j.1;
  all = λ s t held.
      let low = number_low m z s n t in
      let in_raw = (h v l).all s t held in
      let at_sum : stands v (slice_index_or turned (number z s) []) ≡ true = ap (stands v) (r.of (number z s) low) ∙ filter_in (λ w. stands (number z s) (slice_index_or raw w [])) 0 (length raw) v (omega arith) (omega (arith, l, e)) in_raw in
      ap (stands (number z s)) (b.of v l) ∙ filter_in (λ a. stands v (slice_index_or turned a [])) 0 (length turned) (number z s) (omega arith) (omega (arith, low, r.each)) at_sum;
}

pub back_rising : (turned back : List (List ℕ)) (n v : ℕ) → IsTransposed turned n back → v < n → IsRising (slice_index_or back v [])
back_rising turned back n v b l = subst IsRising (sym (b.of v l)) (rising (λ a. stands v (slice_index_or turned a [])) (length turned))

-- each is a variable
pub turned_inside : (raw turned : List (List ℕ)) (k n : ℕ) → IsTransposed raw k turned → length raw ≡ n → (i : ℕ) → All (λ v. v < n) (slice_index_or turned i [])
turned_inside raw turned k n r e i = ⊎_elim
    (λ (l : i < k). subst (All (λ v. v < n)) (sym (r.of i l)) (All-filter (λ v. stands i (slice_index_or raw v [])) (λ v. v < n) (range_with_len 0 (length raw)) (λ j d l. let m = length-range_with_len 0 (length raw) in let low = get_or-range_with_len 0 (length raw) j d (omega (arith, l, m)) in omega (arith, low, l, m, e))))
    (λ (l : k ≤ i). subst (All (λ v. v < n)) (sym (get_or_past turned i [] (omega (arith, l, r.each)))) (All-nil (λ v. v < n)))
    (cases_lt i k)
