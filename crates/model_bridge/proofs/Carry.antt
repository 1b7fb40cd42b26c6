-- Pairs from a plan, where each filled place has one variable that is 1 and there.
use Rattle.std.proofs.Common.{◌≡◌, ℕ, zero, suc, ◌<◌, ◌≤◌, ◌+◌, Bool, true, false, List, [], ◌∷◌, ℤ, pos, ◌+ℤ◌, arith, refl, sym, ◌∙◌, ap, inl, inr, ⊎_elim, subst, length, Some, None}
use Rattle.std.specs.Prelude.{◌==◌, ◌&&◌, not, nat_le}
use Rattle.std.proofs.lemmas.Bool.{cases_eq, eq-eqb, ne_eqb, and_parts, and_from, leb-true, ltb-true, le-leb, lt-ltb, not-true, eqb-false, false_from_ne_true}
use Rattle.std.proofs.lemmas.Option.{none-some, same_Some, slice_get_within, slice_get-get_or, get_or_from_slice_get}
use borrow.Author.Differences.{ints}
use Rattle.proof_trees.specs.Program.{sum_to, where_set}
use Rattle.stow_data.specs.declared.cargoes.Container.{Container}
use Rattle.stow_data.specs.Plans.{Plan}
use Rattle.stowage_rules.specs.Plan.{Holds}
use Rattle.stowage_rules.specs.Departure.{IsStowed}
use Rattle.zero_one_rows.specs.Variables.{Voyage, variables, var}
use Rattle.model_bridge.proofs.Words.{container, kind_at}
use Rattle.zero_one_rows.specs.Rows.{active}
use Rattle.stow_data.specs.Plans.{no_container}
use Rattle.model_bridge.proofs.Sums.{same_sum, none_sum}
use Rattle.stow_data.proofs.Distinct.{Each}
use Rattle.model_bridge.proofs.Match.{total}
use Rattle.stow_data.proofs.Members.{Member}
use Rattle.stow_data.proofs.Distinct.{each_at, each_from}
use Rattle.model_bridge.proofs.Members.{Differ, differ_more}
use Rattle.model_bridge.proofs.Calls.{IsPair, IsHeld, aboard}
use Rattle.model_bridge.proofs.Departures.{spot, Shows}

-- one number taken out of a sum
out_term : (b : Bool) (w : ℤ) → where_set (b && not true) w ≡ pos 0
out_term true w = refl
out_term false w = refl

stay_term : (b c : Bool) (w : ℤ) → c ≡ false → where_set (b && not c) w ≡ where_set b w
stay_term true c w h = ap (λ (z : Bool). where_set (not z) w) h
stay_term false c w h = refl

without : (n : ℕ) (t : ℕ → Bool) (a : ℕ) (w : ℕ → ℤ) → n ≤ a → sum_to n (λ v. where_set (t v && not (v == a)) (w v)) ≡ sum_to n (λ v. where_set (t v) (w v))
without n t a w l = same_sum n _ _ (λ v k. stay_term (t v) (v == a) (w v) (ne_eqb v a (λ e. omega arith)))

take_one : (n : ℕ) (t : ℕ → Bool) (a : ℕ) (w : ℕ → ℤ) → a < n → t a ≡ true → sum_to n (λ v. where_set (t v) (w v)) ≡ w a +ℤ sum_to n (λ v. where_set (t v && not (v == a)) (w v))
take_one zero t a w l h = absurd (omega arith)
take_one (suc n) t a w l h = ⊎_elim
    (λ (e : a ≡ n).
    let f : where_set (t n) (w n) ≡ w a = subst (λ (z : ℕ). where_set (t z) (w z) ≡ w a) e (ap (λ (b : Bool). where_set b (w a)) h) in
    let g : where_set (t n && not (n == a)) (w n) ≡ pos 0 = ap (λ (b : Bool). where_set (t n && not b) (w n)) (eq-eqb n a (sym e)) ∙ out_term (t n) (w n) in
    omega (arith, ints, f, g, without n t a w (omega arith)))
    (λ (ne : a ≡ n → ⊥). omega (arith, ints, take_one n t a w (omega arith) h, stay_term (t n) (n == a) (w n) (ne_eqb n a (λ e. ne (sym e)))))
    (cases_eq a n)

-- a list whose keys differ and are the numbers that pass
pub list_sum : {X : Type 0} (k : X → ℕ) (xs : List X) (n : ℕ) (t : ℕ → Bool) → Differ k xs → Each (λ x. (k x < n) × (t (k x) ≡ true)) xs → ((a : ℕ) → a < n → t a ≡ true → (x : X) × Member x xs × (k x ≡ a)) → (w : ℕ → ℤ) → total (λ x. w (k x)) xs ≡ sum_to n (λ a. where_set (t a) (w a))
list_sum k [] n t d each all w = sym (none_sum n _ (λ a l. none (t a) (w a) (false_from_ne_true (t a) (λ h. (all a l h).1))))
  where
    none : (b : Bool) (z : ℤ) → b ≡ false → where_set b z ≡ pos 0
    none b z h = ap (λ (c : Bool). where_set c z) h
list_sum {X} k (x ∷ xs) n t d each all w =
    let rest : total (λ y. w (k y)) xs ≡ sum_to n (λ a. where_set (t a && not (a == k x)) (w a)) =
    list_sum k xs n (λ a. t a && not (a == k x)) d.1
    (each_from _ xs (λ y h. let e = each_at _ xs y each.1 h in let ne = each_at _ xs y d.0 h in (e.0, and_from _ _ e.1 (ap not (ne_eqb (k y) (k x) (λ s. ne (sym s)))))))
    (λ a l h. let b = and_parts (t a) (not (a == k x)) h in let r = all a l b.0 in later a r b.1) w in
    omega (arith, ints, rest, take_one n t (k x) w each.0.0 each.0.1)
  where
    later : (a : ℕ) → (y : X) × Member y (x ∷ xs) × (k y ≡ a) → not (a == k x) ≡ true → (y : X) × Member y xs × (k y ≡ a)
    later a (y, inl e, s) h = absurd (eqb-false a (k x) (not-true _ h) (sym s ∙ ap k e))
    later a (y, inr n, s) h = (y, n, s)

-- the pairs of the filled places, from place k on
abbrev pub pairs_of : (ℕ → ℕ) → ℕ → Plan → List (ℕ × ℕ)
pairs_of s k [] = []
pairs_of s k (None ∷ os) = pairs_of s (suc k) os
pairs_of s k (Some c ∷ os) = (s k, c) ∷ pairs_of s (suc k) os

pairs_at : (s : ℕ → ℕ) (k : ℕ) (os : Plan) (e : ℕ × ℕ) → Member e (pairs_of s k os) → (p : ℕ) × Holds os p e.1 × (e.0 ≡ s (k + p))
pairs_at s k [] e h = absurd h
pairs_at s k (None ∷ os) e h = let r = pairs_at s (suc k) os e h in (suc r.0, r.1, r.2 ∙ ap s (let q : suc k + r.0 ≡ k + suc r.0 = omega arith in q))
pairs_at s k (Some c ∷ os) e (inl h) = (0, ap (λ (z : ℕ × ℕ). Some (Some z.1)) (sym h), ap (λ (z : ℕ × ℕ). z.0) h ∙ ap s (let q : k ≡ k + 0 = omega arith in q))
pairs_at s k (Some c ∷ os) e (inr h) = let r = pairs_at s (suc k) os e h in (suc r.0, r.1, r.2 ∙ ap s (let q : suc k + r.0 ≡ k + suc r.0 = omega arith in q))

pairs_from : (s : ℕ → ℕ) (k : ℕ) (os : Plan) (p c : ℕ) → Holds os p c → Member (s (k + p), c) (pairs_of s k os)
pairs_from s k [] p c h = absurd (none-some (Some c) h)
pairs_from s k (None ∷ os) zero c h = absurd (none-some c (same_Some None (Some c) h))
pairs_from s k (None ∷ os) (suc p) c h = subst (λ (q : ℕ). Member (s q, c) (pairs_of s (suc k) os)) (let q : suc k + p ≡ k + suc p = omega arith in q) (pairs_from s (suc k) os p c h)
pairs_from s k (Some d ∷ os) zero c h = inl (let e : c ≡ d = sym (same_Some d c (same_Some (Some d) (Some c) h)) in let q : k + 0 ≡ k = omega arith in ap (λ (z : ℕ). (s z, c)) q ∙ ap (λ (z : ℕ). (s k, z)) e)
pairs_from s k (Some d ∷ os) (suc p) c h = inr (subst (λ (q : ℕ). Member (s q, c) (pairs_of s (suc k) os)) (let q : suc k + p ≡ k + suc p = omega arith in q) (pairs_from s (suc k) os p c h))

spots_apart : (m : Voyage) (s : ℕ → ℕ) (k : ℕ) (os : Plan) → ((p c : ℕ) → Holds os p c → (var m (s (k + p))).place ≡ k + p) → Differ (spot m) (pairs_of s k os)
spots_apart m s k [] h = tt
spots_apart m s k (None ∷ os) h = spots_apart m s (suc k) os (λ p c t. let q : suc k + p ≡ k + suc p = omega arith in subst (λ (z : ℕ). (var m (s z)).place ≡ z) (sym q) (h (suc p) c t))
spots_apart m s k (Some c ∷ os) h = (
  each_from _ (pairs_of s (suc k) os) (λ e n same.
      let r = pairs_at s (suc k) os e n in
      let q : suc k + r.0 ≡ k + suc r.0 = omega arith in
      let a : spot m e ≡ k + suc r.0 = ap (λ (v : ℕ). (var m v).place) (r.2 ∙ ap s q) ∙ h (suc r.0) e.1 r.1 in
      let z : k + 0 ≡ k = omega arith in
      let b : spot m (s k, c) ≡ k = subst (λ (y : ℕ). (var m (s y)).place ≡ y) z (h 0 c refl) in
      absurd (omega arith)),
  spots_apart m s (suc k) os (λ p d t. let q : suc k + p ≡ k + suc p = omega arith in subst (λ (z : ℕ). (var m (s z)).place ≡ z) (sym q) (h (suc p) d t)),
)

-- what a plan asks of the variables after a call
pub record IsCarried (m : Voyage) (x : ℕ → Bool) (i : ℕ) (plan : Plan) (s : ℕ → ℕ) : Type 0 where
  pub known : (p c : ℕ) → Holds plan p c → s p < length (variables m)
  pub is_one : (p c : ℕ) → Holds plan p c → x (s p) ≡ true
  pub put : (p c : ℕ) → Holds plan p c → (var m (s p)).put ≤ i
  pub lifted : (p c : ℕ) → Holds plan p c → i < (var m (s p)).lifted
  pub there : (p c : ℕ) → Holds plan p c → (var m (s p)).place ≡ p
  pub alike : (p c : ℕ) → Holds plan p c → (var m (s p)).kind ≡ kind_at m c
  pub no_other : (v : ℕ) → v < length (variables m) → x v ≡ true → (var m v).put ≤ i → i < (var m v).lifted → (c : ℕ) × Holds plan (var m v).place c × (s (var m v).place ≡ v)

module _ (m : Voyage) (x : ℕ → Bool) (i : ℕ) (plan : Plan) (stowed : IsStowed m.ship m.cargo i plan) (s : ℕ → ℕ) (carried : IsCarried m x i plan s) where
  abbrev pub pairs_now : List (ℕ × ℕ)
  pairs_now = pairs_of s 0 plan

  -- a pair stands at its place
  pub stands : (e : ℕ × ℕ) → Member e pairs_now → (p : ℕ) × Holds plan p e.1 × (e.0 ≡ s p) × (spot m e ≡ p)
  stands e h = let r = pairs_at s 0 plan e h in
      let f : e.0 ≡ s r.0 = r.2 ∙ ap s (let q : 0 + r.0 ≡ r.0 = omega arith in q) in
      (r.0, r.1, f, ap (λ (v : ℕ). (var m v).place) f ∙ carried.there r.0 e.1 r.1)

  from_place : (p c : ℕ) → Holds plan p c → Member (s p, c) pairs_now
  from_place p c h = subst (λ (q : ℕ). Member (s q, c) pairs_now) (let q : 0 + p ≡ p = omega arith in q) (pairs_from s 0 plan p c h)

  pairs_good : Each (IsPair m x i) pairs_now
  pairs_good = each_from _ pairs_now (λ e h.
      let r = stands e h in
      let k = stowed.well_formed.known r.0 e.1 r.1 in
      let box : container m e.1 ≡ k.0 = get_or_from_slice_get m.cargo.containers e.1 k.0 no_container k.1 in
      let on = (stowed.aboard e.1 k.0 k.1).0 (r.0, r.1) in
      let back : (P : ℕ → Type 0) → P (s r.0) → P e.0 = λ P q. subst P (sym r.2) q in
      record {
        var_known = back (λ v. v < length (variables m)) (carried.known r.0 e.1 r.1);
        is_one = back (λ v. x v ≡ true) (carried.is_one r.0 e.1 r.1);
        put = back (λ v. (var m v).put ≤ i) (carried.put r.0 e.1 r.1);
        lifted = back (λ v. i < (var m v).lifted) (carried.lifted r.0 e.1 r.1);
        box_known = slice_get_within m.cargo.containers e.1 k.0 k.1;
        load = subst (λ (z : Container). z.load ≤ i) (sym box) on.loaded;
        dest = subst (λ (z : Container). i < z.dest) (sym box) on.stays;
        alike = back (λ v. (var m v).kind ≡ kind_at m e.1) (carried.alike r.0 e.1 r.1);
      })

  pub shows_plan : Shows m pairs_now plan
  shows_plan = record {
    each_place = stowed.well_formed.each_place;
    from_plan = λ p c h. ((s p, c), from_place p c h, carried.there p c h, refl);
    to_plan = λ e h. let r = stands e h in subst (λ (p : ℕ). Holds plan p e.1) (sym r.3) r.1;
  }

  spots_differ : Differ (spot m) pairs_now
  spots_differ = spots_apart m s 0 plan (λ p c h. let q : p ≡ 0 + p = omega arith in subst (λ (z : ℕ). (var m (s z)).place ≡ z) q (carried.there p c h))

  vars_differ : Differ (λ (e : ℕ × ℕ). e.0) pairs_now
  vars_differ = differ_more (λ (e : ℕ × ℕ). Member e pairs_now) (spot m) (λ (e : ℕ × ℕ). e.0) pairs_now (λ e d a b other same. other (ap (λ (v : ℕ). (var m v).place) same)) (each_from _ pairs_now (λ e h. h)) spots_differ

  boxes_differ : Differ (λ (e : ℕ × ℕ). e.1) pairs_now
  boxes_differ = differ_more (λ (e : ℕ × ℕ). Member e pairs_now) (spot m) (λ (e : ℕ × ℕ). e.1) pairs_now
      (λ e d a b other same. let r = stands e a in let t = stands d b in
      other (r.3 ∙ (stowed.well_formed.once r.0 t.0 e.1 r.1 (subst (λ (c : ℕ). Holds plan t.0 c) (sym same) t.1) ∙ sym t.3)))
      (each_from _ pairs_now (λ e h. h)) spots_differ

  pub held_plan : IsHeld m x i pairs_now
  held_plan = record {
    each = pairs_good;
    vars = list_sum (λ (e : ℕ × ℕ). e.0) pairs_now (length (variables m)) (λ v. x v && active i (var m v)) vars_differ
        (each_from _ pairs_now (λ e h. let p = each_at _ pairs_now e pairs_good h in (p.var_known, and_from _ _ p.is_one (and_from _ _ (le-leb _ i p.put) (lt-ltb i _ p.lifted)))))
        (λ v l h. let b = and_parts (x v) _ h in let d = and_parts (nat_le (var m v).put i) _ b.1 in
        let r = carried.no_other v l b.0 (leb-true _ _ d.0) (ltb-true _ _ d.1) in ((s (var m v).place, r.0), from_place (var m v).place r.0 r.1, r.2));
    boxes = list_sum (λ (e : ℕ × ℕ). e.1) pairs_now (length m.cargo.containers) (aboard m i) boxes_differ
        (each_from _ pairs_now (λ e h. let p = each_at _ pairs_now e pairs_good h in (p.box_known, and_from _ _ (le-leb _ i p.load) (lt-ltb i _ p.dest))))
        (λ c l h. let b = and_parts (nat_le (container m c).load i) _ h in
        let r = (stowed.aboard c (container m c) (slice_get-get_or m.cargo.containers c no_container l)).1 (record { loaded = leb-true _ _ b.0; stays = ltb-true _ _ b.1 }) in ((s r.0, c), from_place r.0 c r.1, refl));
  }
