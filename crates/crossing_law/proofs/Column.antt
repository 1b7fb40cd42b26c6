-- In one column: what stays at a call has something that stays below it, so no column keeps containers of two pairs.
use Rattle.std.proofs.Common.{◌≡◌, ℕ, zero, suc, ◌+◌, ◌<◌, ◌≤◌, Bool, true, arith, ◌⊎◌, ⊎_elim, subst, refl, ◌-◌, leb, ltb}
use Rattle.std.proofs.lemmas.Bool.{cases_order, and_parts, and_from, eq-eqb, lt-ltb, ltb-true, le-leb, leb-true}
use Rattle.zero_one_rows.specs.Rows.{active}
use Rattle.crossing_law.proofs.Worlds.{World, many, occ, stay, out, ColumnRows}
use Rattle.crossing_law.proofs.Counting.{count_one, count_two, count_some}

-- a variable that is 1
pub record IsIn {H : Type 0} (w : World H) (v : ℕ) : Type 0 where
  pub below : v < w.vars
  pub set : w.is_set v ≡ true

-- it stands in the half-cell before and after call j
pub record Stays {H : Type 0} (w : World H) (j : ℕ) (h : H) (v : ℕ) : Type 0 where
  pub is_in : IsIn w v
  pub put : (w.var v).put < j
  pub lifted : j < (w.var v).lifted
  pub has : w.has_half (w.var v).place h ≡ true

pub one_of : {H : Type 0} (w : World H) (p : ℕ → Bool) (v : ℕ) → IsIn w v → p v ≡ true → 1 ≤ many w p
one_of w p v a h = count_one w.vars _ v a.below (and_from _ _ a.set h)

pub two_of : {H : Type 0} (w : World H) (p : ℕ → Bool) (v u : ℕ) → IsIn w v → IsIn w u → (v ≡ u → ⊥) → p v ≡ true → p u ≡ true → 2 ≤ many w p
two_of w p v u a b ne h k = ⊎_elim
    (λ (e : v ≡ u). absurd (ne e))
    (λ (o : (v < u) ⊎ (u < v)). ⊎_elim
    (λ (l : v < u). count_two w.vars _ v u l b.below (and_from _ _ a.set h) (and_from _ _ b.set k))
    (λ (l : u < v). count_two w.vars _ u v l a.below (and_from _ _ b.set k) (and_from _ _ a.set h)) o)
    (cases_order v u)

pub some_of : {H : Type 0} (w : World H) (p : ℕ → Bool) → 0 < many w p → (v : ℕ) × IsIn w v × (p v ≡ true)
some_of w p h = let r = count_some w.vars _ h in let q = and_parts _ _ r.2 in (r.0, record { below = r.1; set = q.0 }, q.1)

pub occ_from : {H : Type 0} (w : World H) (i : ℕ) (h : H) (v : ℕ) → (w.var v).put ≤ i → i < (w.var v).lifted → w.has_half (w.var v).place h ≡ true → occ w i h v ≡ true
occ_from w i h v a b c = and_from _ _ c (and_from _ _ (le-leb _ _ a) (lt-ltb _ _ b))

pub occ_parts : {H : Type 0} (w : World H) (i : ℕ) (h : H) (v : ℕ) → occ w i h v ≡ true → ((w.var v).put ≤ i) × (i < (w.var v).lifted) × (w.has_half (w.var v).place h ≡ true)
occ_parts w i h v e = let p = and_parts (w.has_half (w.var v).place h) (active i (w.var v)) e in let q = and_parts (leb (w.var v).put i) (ltb i (w.var v).lifted) p.1 in (leb-true _ _ q.0, ltb-true _ _ q.1, p.0)

stay_from : {H : Type 0} (w : World H) (j : ℕ) (h : H) (v : ℕ) → Stays w j h v → stay w j h v ≡ true
stay_from w j h v s = and_from _ _ s.has (and_from _ _ (lt-ltb _ _ s.put) (lt-ltb _ _ s.lifted))

out_from : {H : Type 0} (w : World H) (j : ℕ) (h : H) (v : ℕ) → (w.var v).put < j → (w.var v).lifted ≡ j → w.has_half (w.var v).place h ≡ true → out w j h v ≡ true
out_from w j h v a b c = and_from _ _ c (and_from _ _ (lt-ltb _ _ a) (eq-eqb _ _ b))

module _ {H : Type 0} (w : World H) (last : ℕ) (half : ℕ → H) (height : ℕ) (rows : ColumnRows w last half height) where
  -- nothing leaves directly below what stays
  no_out : (j t v u : ℕ) → 0 < j → j < last → suc t < height → IsIn w v → out w j (half t) v ≡ true → Stays w j (half (suc t)) u → ⊥
  no_out j t v u pos low top a h s = let b : 1 ≤ many w (out w j (half t)) = one_of w _ v a h in let c : 1 ≤ many w (stay w j (half (suc t))) = one_of w _ u s.is_in (stay_from w j _ u s) in omega (arith, rows.block j t pos low top)

  below_stays : (i t v : ℕ) → suc i < last → suc t < height → Stays w (suc i) (half (suc t)) v → (u : ℕ) × Stays w (suc i) (half t) u
  below_stays i t v low top s =
      let a : 1 ≤ many w (occ w i (half (suc t))) = one_of w _ v s.is_in (occ_from w i _ v (let p : (w.var v).put < suc i = s.put in omega arith) (let p : suc i < (w.var v).lifted = s.lifted in omega arith) s.has) in
      let r = some_of w (occ w i (half t)) (rows.support i t (omega arith) top (omega arith)) in
      let q = occ_parts w i (half t) r.0 r.2 in
      let lifted : suc i < (w.var r.0).lifted = ⊎_elim
      (λ (e : (w.var r.0).lifted ≡ suc i). absurd (no_out (suc i) t r.0 v (omega arith) low top r.1 (out_from w _ _ r.0 (omega (arith, q.0)) e q.2) s))
      (λ (o : ((w.var r.0).lifted < suc i) ⊎ (suc i < (w.var r.0).lifted)). ⊎_elim (λ (l : (w.var r.0).lifted < suc i). absurd (omega (arith, q.1))) (λ (g : suc i < (w.var r.0).lifted). g) o)
      (cases_order (w.var r.0).lifted (suc i)) in
      (r.0, record { is_in = r.1; put = omega (arith, q.0); lifted = lifted; has = q.2 })

  descend : (i t k s v : ℕ) → suc i < last → s ≡ t + k → s < height → Stays w (suc i) (half s) v → (u : ℕ) × Stays w (suc i) (half t) u
  descend i t zero s v low e top h = let f : s ≡ t = omega arith in (v, subst (λ (x : ℕ). Stays w (suc i) (half x) v) f h)
  descend i t (suc k) s v low e top h =
      let f : s ≡ suc (t + k) = omega arith in
      let r = below_stays i (t + k) v low (omega arith) (subst (λ (x : ℕ). Stays w (suc i) (half x) v) f h) in
      descend i t k (t + k) r.0 low refl (omega arith) r.1

  down : (j t s v : ℕ) → 0 < j → j < last → t ≤ s → s < height → Stays w j (half s) v → (u : ℕ) × Stays w j (half t) u
  down zero t s v pos low le top h = absurd (omega arith)
  down (suc i) t s v pos low le top h =
      descend i t (s - t) s v low (omega arith) top h

  -- v is put first and leaves first, and they meet: no column has both
  pub no_two : (v u t s : ℕ) → IsIn w v → IsIn w u → t < height → s < height → w.has_half (w.var v).place (half t) ≡ true → w.has_half (w.var u).place (half s) ≡ true
      → (w.var v).put < (w.var u).put → (w.var u).put < (w.var v).lifted → (w.var v).lifted < (w.var u).lifted → (w.var u).lifted ≤ last → ⊥
  no_two v u t s a b lt ls hv hu first meet leaves end = ⊎_elim
      (λ (e : t ≡ s).
      let i = (w.var u).put in
      let two : 2 ≤ many w (occ w i (half s)) = two_of w _ v u a b (λ x. let y : (w.var v).put ≡ (w.var u).put = subst (λ (z : ℕ). (w.var v).put ≡ (w.var z).put) x refl in omega arith) (occ_from w i _ v (omega arith) meet (subst (λ (z : ℕ). w.has_half (w.var v).place (half z) ≡ true) e hv)) (occ_from w i _ u (omega arith) (omega arith) hu) in
      omega (arith, rows.cell i s (omega arith) (omega arith) ls))
      (λ (o : (t < s) ⊎ (s < t)). ⊎_elim
      (λ (l : t < s).
      let j = (w.var v).lifted in
      let r = down j (suc t) s u (omega arith) (omega arith) (omega arith) ls (record { is_in = b; put = meet; lifted = leaves; has = hu }) in
      no_out j t v r.0 (omega arith) (omega arith) (omega arith) a (out_from w j _ v (omega arith) refl hv) r.1)
      (λ (l : s < t).
      let j = (w.var u).put in
      let r = down j s t v (omega arith) (omega arith) (omega arith) lt (record { is_in = a; put = first; lifted = meet; has = hv }) in
      let st = r.1 in
      let two : 2 ≤ many w (occ w j (half s)) = two_of w _ r.0 u st.is_in b (λ x. let y : (w.var r.0).put ≡ (w.var u).put = subst (λ (z : ℕ). (w.var r.0).put ≡ (w.var z).put) x refl in let q : (w.var r.0).put < j = st.put in omega arith) (occ_from w j _ r.0 (let q : (w.var r.0).put < j = st.put in omega arith) st.lifted st.has) (occ_from w j _ u (omega arith) (omega arith) hu) in
      omega (arith, rows.cell j s (omega arith) (omega arith) ls)) o)
      (cases_order t s)
