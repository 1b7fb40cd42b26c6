-- Every assignment that meets the rows of the columns, and the flow, meets the crossing rows.
use Rattle.std.proofs.Common.{◌≡◌, ℕ, zero, suc, ◌+◌, ◌-◌, ◌*◌, ◌<◌, ◌≤◌, Bool, true, false, ◌&&◌, max, arith, ◌⊎◌, ⊎_elim, sym, subst, eqb, ltb}
use Rattle.std.proofs.lemmas.Bool.{cases_lt, cases_order, cases_Bool, and_parts, and_from, eq-eqb, eqb-true, lt-ltb, ltb-true}
use Rattle.std.proofs.Math.Nat.{mul-le-mul_left}
use Rattle.zero_one_rows.specs.Gains.{gain, greatest_to, best_gain}
use Rattle.crossing_law.proofs.Worlds.{World, Pair, one_if, total_to, count_to, many, occ, loaded, lifted_early, kept, IsChainOf, Columns}
use Rattle.crossing_law.proofs.Counting.{total_le, total_add, total_const, total_times, swapped, count_le, at_most_one, by_colour, count_some, one_if_true, one_if_false}
use Rattle.crossing_law.proofs.Column.{some_of, occ_from, no_two}

-- ---- prices

greatest_le : (n : ℕ) (f : ℕ → ℕ) (c : ℕ) → c ≤ n → f c ≤ greatest_to n f
greatest_le zero f c h = let e : c ≡ 0 = omega arith in subst (λ (x : ℕ). f x ≤ f 0) (sym e) (omega arith)
greatest_le (suc n) f c h = ⊎_elim
    (λ (e : c ≡ suc n). subst (λ (x : ℕ). f x ≤ max (greatest_to n f) (f (suc n))) (sym e) (omega arith))
    (λ (o : (c < suc n) ⊎ (suc n < c)). ⊎_elim (λ (l : c < suc n). omega (arith, greatest_le n f c (omega arith))) (λ (g : suc n < c). absurd (omega arith)) o)
    (cases_order c (suc n))

-- one pair: its load is lifted early, or its columns keep it
pair_price : (columns height price load early served : ℕ) → served ≤ columns → load ≤ early + height * served → load ≤ early + (price * served + best_gain columns height price load)
pair_price columns height price load early served h k =
    let g : gain height price load served ≤ best_gain columns height price load = greatest_le columns (gain height price load) served h in
    omega arith

-- all pairs together
pub prices : (m columns height price : ℕ) (load early served : ℕ → ℕ) → ((k : ℕ) → k < m → served k ≤ columns) → ((k : ℕ) → k < m → load k ≤ early k + height * served k) → total_to m served ≤ columns
    → total_to m load ≤ total_to m early + (price * columns + total_to m (λ k. best_gain columns height price (load k)))
prices m columns height price load early served h k s =
    let each : total_to m load ≤ total_to m (λ i. early i + (price * served i + best_gain columns height price (load i))) = total_le m load _ (λ i lt. pair_price columns height price (load i) (early i) (served i) (h i lt) (k i lt)) in
    omega (arith, total_add m early (λ i. price * served i + best_gain columns height price (load i)), total_add m (λ i. price * served i) (λ i. best_gain columns height price (load i)), total_times m price served, mul-le-mul_left price s)

-- ---- columns

-- kept for the pair in column c
abbrev kept_in : {H : Type 0} (w : World H) (column_of : ℕ → ℕ) (speaks : ℕ → ℕ → Bool) (p : Pair) → ℕ → ℕ → Bool
kept_in w column_of speaks p c v = kept w speaks p v && eqb (column_of (w.var v).place) c

pub record IsKept {H : Type 0} (w : World H) (column_of : ℕ → ℕ) (speaks : ℕ → ℕ → Bool) (p : Pair) (c v : ℕ) : Type 0 where
  pub put : (w.var v).put ≡ p.load
  pub right : speaks (w.var v).kind p.dest ≡ true
  pub lifted : (w.var v).lifted ≡ p.dest
  pub column : column_of (w.var v).place ≡ c

kept_parts : {H : Type 0} (w : World H) (column_of : ℕ → ℕ) (speaks : ℕ → ℕ → Bool) (p : Pair) (c v : ℕ) → kept_in w column_of speaks p c v ≡ true → IsKept w column_of speaks p c v
kept_parts w column_of speaks p c v h =
    let a = and_parts _ _ h in
    let b = and_parts _ _ a.0 in
    let d = and_parts _ _ b.0 in
    record { put = eqb-true _ _ d.0; right = d.1; lifted = eqb-true _ _ b.1; column = eqb-true _ _ a.1 }

kept_speaks : {H : Type 0} (w : World H) (speaks : ℕ → ℕ → Bool) (p : Pair) (v : ℕ) → kept w speaks p v ≡ true → speaks (w.var v).kind p.dest ≡ true
kept_speaks w speaks p v h = (and_parts _ _ (and_parts _ _ h).0).1

module _ {H : Type 0} (w : World H) (last m : ℕ) (pair : ℕ → Pair) (speaks : ℕ → ℕ → Bool) (n : ℕ) (offers : ℕ → Bool) (height : ℕ) (chain : IsChainOf last m pair) (cs : Columns w last speaks n offers height) where
  here : ℕ → ℕ → ℕ
  here k c = many w (kept_in w cs.column_of speaks (pair k) c)

  -- in one column at most one for each tier
  one_column : (k c : ℕ) → k < m → c < n → offers c ≡ true → here k c ≤ height
  unfolding here
  one_column k c lt ltc off =
      let i = (pair (m - 1)).load in
      let low : (v : ℕ) → v < w.vars → (w.is_set v && kept_in w cs.column_of speaks (pair k) c v) ≡ true → cs.tier_of (w.var v).place < cs.tall c = λ v b h.
      let q = kept_parts w cs.column_of speaks (pair k) c v (and_parts _ _ h).1 in
      subst (λ (x : ℕ). cs.tier_of (w.var v).place < cs.tall x) q.column (cs.tier v (pair k).dest b q.right) in
      let rows = cs.rows c ltc off in
      let tiers : (t : ℕ) → t < cs.tall c → count_to w.vars (λ v. (w.is_set v && kept_in w cs.column_of speaks (pair k) c v) && eqb (cs.tier_of (w.var v).place) t) ≤ 1 = λ t ltt.
      let a : count_to w.vars (λ v. (w.is_set v && kept_in w cs.column_of speaks (pair k) c v) && eqb (cs.tier_of (w.var v).place) t) ≤ many w (occ w i (cs.half c t)) = count_le w.vars _ _ (λ v b h.
      let r = and_parts _ _ h in
      let s = and_parts _ _ r.0 in
      let q = kept_parts w cs.column_of speaks (pair k) c v s.1 in
      let has : w.has_half (w.var v).place (cs.half c t) ≡ true = subst (λ (x : ℕ). w.has_half (w.var v).place (cs.half x t) ≡ true) q.column (subst (λ (x : ℕ). w.has_half (w.var v).place (cs.half (cs.column_of (w.var v).place) x) ≡ true) (eqb-true _ _ r.1) (cs.stands v (pair k).dest b q.right)) in
      let before : (pair k).load ≤ i = ⊎_elim
      (λ (e : k ≡ m - 1). subst (λ (x : ℕ). (pair x).load ≤ i) (sym e) (omega arith))
      (λ (o : (k < m - 1) ⊎ (m - 1 < k)). ⊎_elim (λ (l : k < m - 1). omega (arith, chain.loads k (m - 1) l (omega (arith, chain.two)))) (λ (l : m - 1 < k). absurd (omega arith)) o)
      (cases_order k (m - 1)) in
      and_from _ _ s.0 (occ_from w i _ v (omega (arith, q.put)) (omega (arith, q.lifted, chain.between (m - 1) k (omega (arith, chain.two)) lt)) has)) in
      omega (arith, rows.cell i t (omega (arith, chain.loads 0 (m - 1) (omega (arith, chain.two)) (omega (arith, chain.two)))) (omega (arith, chain.between (m - 1) k (omega (arith, chain.two)) lt, chain.within k lt)) ltt) in
      omega (arith, by_colour w.vars (cs.tall c) _ (λ v. cs.tier_of (w.var v).place) low, total_le (cs.tall c) _ (λ t. 1) tiers, total_const (cs.tall c) 1, cs.highest c ltc off)

  -- no column serves two pairs
  apart : (k l c : ℕ) → k < l → l < m → c < n → offers c ≡ true → 0 < here k c → 0 < here l c → ⊥
  unfolding here
  apart k l c lt ltm ltc off hk hl =
      let a = some_of w (kept_in w cs.column_of speaks (pair k) c) hk in
      let b = some_of w (kept_in w cs.column_of speaks (pair l) c) hl in
      let p = kept_parts w cs.column_of speaks (pair k) c a.0 a.2 in
      let q = kept_parts w cs.column_of speaks (pair l) c b.0 b.2 in
      let ain = a.1 in
      let bin = b.1 in
      no_two w last (cs.half c) (cs.tall c) (cs.rows c ltc off) a.0 b.0 (cs.tier_of (w.var a.0).place) (cs.tier_of (w.var b.0).place) a.1 b.1
      (subst (λ (x : ℕ). cs.tier_of (w.var a.0).place < cs.tall x) p.column (cs.tier a.0 (pair k).dest ain.below p.right))
      (subst (λ (x : ℕ). cs.tier_of (w.var b.0).place < cs.tall x) q.column (cs.tier b.0 (pair l).dest bin.below q.right))
      (subst (λ (x : ℕ). w.has_half (w.var a.0).place (cs.half x (cs.tier_of (w.var a.0).place)) ≡ true) p.column (cs.stands a.0 (pair k).dest ain.below p.right))
      (subst (λ (x : ℕ). w.has_half (w.var b.0).place (cs.half x (cs.tier_of (w.var b.0).place)) ≡ true) q.column (cs.stands b.0 (pair l).dest bin.below q.right))
      (omega (arith, p.put, q.put, chain.loads k l lt ltm))
      (omega (arith, q.put, p.lifted, chain.between l k ltm (omega arith)))
      (omega (arith, p.lifted, q.lifted, chain.dests k l lt ltm))
      (omega (arith, q.lifted, chain.within l ltm))

  -- what is kept stands where a column is
  here_offers : (k c : ℕ) → 0 < here k c → offers c ≡ true
  unfolding here
  here_offers k c h =
      let a = some_of w (kept_in w cs.column_of speaks (pair k) c) h in
      let p = kept_parts w cs.column_of speaks (pair k) c a.0 a.2 in
      let ain = a.1 in
      subst (λ (x : ℕ). offers x ≡ true) p.column (cs.offered a.0 (pair k).dest ain.below p.right)

  here_low : (k c : ℕ) → k < m → c < n → here k c ≤ height
  here_low k c lt ltc = ⊎_elim
      (λ (l : 0 < here k c). one_column k c lt ltc (here_offers k c l))
      (λ (l : here k c ≤ 0). omega arith)
      (cases_lt 0 (here k c))

  served : ℕ → ℕ
  served k = count_to n (λ c. ltb 0 (here k c))

  serves_low : (k : ℕ) → k < m → served k ≤ count_to n offers
  unfolding served
  serves_low k lt = count_le n (λ c. ltb 0 (here k c)) offers (λ c ltc h. here_offers k c (ltb-true _ _ h))

  all_served : total_to m served ≤ count_to n offers
  unfolding served
  all_served =
      let one : (c : ℕ) → c < n → count_to m (λ k. ltb 0 (here k c)) ≤ one_if (offers c) = λ c ltc. ⊎_elim
      (λ (l : 0 < count_to m (λ k. ltb 0 (here k c))).
      let r = count_some m (λ k. ltb 0 (here k c)) l in
      omega (arith, one_if_true (offers c) (here_offers r.0 c (ltb-true _ _ r.2)), at_most_one m (λ k. ltb 0 (here k c)) (λ k l lt ltm hk hl. apart k l c lt ltm ltc (here_offers k c (ltb-true _ _ hk)) (ltb-true _ _ hk) (ltb-true _ _ hl))))
      (λ (l : count_to m (λ k. ltb 0 (here k c)) ≤ 0). omega arith)
      (cases_lt 0 (count_to m (λ k. ltb 0 (here k c)))) in
      omega (arith, swapped m n (λ k c. one_if (ltb 0 (here k c))), total_le n (λ c. count_to m (λ k. ltb 0 (here k c))) (λ c. one_if (offers c)) one)

  times_one_if : (a h : ℕ) → a ≤ h → a ≤ h * one_if (ltb 0 a)
  times_one_if a h le = ⊎_elim
      (λ (l : 0 < a). let e : one_if (ltb 0 a) ≡ 1 = one_if_true _ (lt-ltb 0 a l) in rw e (omega arith))
      (λ (l : a ≤ 0). omega arith)
      (cases_lt 0 a)

  kept_low : (k : ℕ) → k < m → many w (kept w speaks (pair k)) ≤ height * served k
  unfolding served here
  kept_low k lt =
      let has : (v : ℕ) → v < w.vars → (w.is_set v && kept w speaks (pair k) v) ≡ true → cs.column_of (w.var v).place < n = λ v b h.
      cs.column v (pair k).dest b (kept_speaks w speaks (pair k) v (and_parts (w.is_set v) (kept w speaks (pair k) v) h).1) in
      let same : total_to n (λ c. count_to w.vars (λ v. (w.is_set v && kept w speaks (pair k) v) && eqb (cs.column_of (w.var v).place) c)) ≤ total_to n (λ c. here k c) = total_le n _ _ (λ c ltc. count_le w.vars _ _ (λ v b h.
      let r = and_parts (w.is_set v && kept w speaks (pair k) v) (eqb (cs.column_of (w.var v).place) c) h in let s = and_parts (w.is_set v) (kept w speaks (pair k) v) r.0 in and_from (w.is_set v) _ s.0 (and_from (kept w speaks (pair k) v) _ s.1 r.1))) in
      let each : total_to n (λ c. here k c) ≤ total_to n (λ c. height * one_if (ltb 0 (here k c))) = total_le n _ _ (λ c ltc. times_one_if (here k c) height (here_low k c lt ltc)) in
      omega (arith, by_colour w.vars n _ (λ v. cs.column_of (w.var v).place) has, total_times n height (λ c. one_if (ltb 0 (here k c))))

  -- what is loaded for a pair is lifted early or kept
  parted : (k : ℕ) → ((v : ℕ) → v < w.vars → speaks (w.var v).kind (pair k).dest ≡ true → (w.var v).lifted ≤ (pair k).dest) → many w (loaded w speaks (pair k)) ≤ many w (lifted_early w speaks (pair k)) + many w (kept w speaks (pair k))
  parted k ends = omega (
    arith,
    total_le w.vars (λ v. one_if (w.is_set v && loaded w speaks (pair k) v)) (λ v. one_if (w.is_set v && lifted_early w speaks (pair k) v) + one_if (w.is_set v && kept w speaks (pair k) v)) (λ v b. ⊎_elim
        (λ (h : (w.is_set v && loaded w speaks (pair k) v) ≡ true).
        let r = and_parts (w.is_set v) (loaded w speaks (pair k) v) h in
        let le : (w.var v).lifted ≤ (pair k).dest = ends v b (and_parts (eqb (w.var v).put (pair k).load) (speaks (w.var v).kind (pair k).dest) r.1).1 in
        ⊎_elim
        (λ (l : (w.var v).lifted < (pair k).dest). omega (arith, one_if_true _ h, one_if_true (w.is_set v && lifted_early w speaks (pair k) v) (and_from _ _ r.0 (and_from _ _ r.1 (lt-ltb _ _ l)))))
        (λ (l : (pair k).dest ≤ (w.var v).lifted). omega (arith, one_if_true _ h, one_if_true (w.is_set v && kept w speaks (pair k) v) (and_from _ _ r.0 (and_from _ _ r.1 (eq-eqb _ _ (let e : (w.var v).lifted ≡ (pair k).dest = omega arith in e))))))
        (cases_lt (w.var v).lifted (pair k).dest))
        (λ (h : (w.is_set v && loaded w speaks (pair k) v) ≡ false). omega (arith, one_if_false _ h))
        (cases_Bool (w.is_set v && loaded w speaks (pair k) v))),
    total_add w.vars (λ v. one_if (w.is_set v && lifted_early w speaks (pair k) v)) (λ v. one_if (w.is_set v && kept w speaks (pair k) v)),
  )

  -- all that is loaded for the pairs is lifted early, or paid for by the columns
  pub crossing : (price : ℕ) (load : ℕ → ℕ) → ((k : ℕ) → k < m → load k ≤ many w (loaded w speaks (pair k)))
      → ((v d : ℕ) → v < w.vars → speaks (w.var v).kind d ≡ true → (w.var v).lifted ≤ d)
      → total_to m load ≤ total_to m (λ k. many w (lifted_early w speaks (pair k))) + (price * count_to n offers + total_to m (λ k. best_gain (count_to n offers) height price (load k)))
  crossing price load flow ends =
      let each : (k : ℕ) → k < m → load k ≤ many w (lifted_early w speaks (pair k)) + height * served k = λ k lt. omega (arith, flow k lt, parted k (λ v b h. ends v (pair k).dest b h), kept_low k lt) in
      prices m (count_to n offers) height price load (λ k. many w (lifted_early w speaks (pair k))) served serves_low each all_served
