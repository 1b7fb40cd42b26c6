-- The pairs after a call from those before it.
use Rattle.std.proofs.Common.{◌≡◌, ℕ, suc, ◌<◌, ◌≤◌, Bool, true, false, List, ◌++◌, ℤ, ◌+ℤ◌, arith, refl, ap, length}
use Rattle.std.specs.Prelude.{◌==◌, ◌&&◌, not}
use Rattle.std.proofs.lemmas.Bool.{both_ways, eqb-true, eq-eqb, eqb-false, and_parts}
use borrow.Author.Differences.{ints}
use Rattle.proof_trees.specs.Program.{sum_to, where_set}
use Rattle.zero_one_rows.specs.Variables.{Voyage, variables, var, kind}
use Rattle.model_bridge.proofs.Words.{container, kind_at}
use Rattle.zero_one_rows.specs.Rows.{active, is_call, IsSolution}
use Rattle.model_bridge.proofs.Sums.{same_sum, plus_sum}
use Rattle.stow_data.proofs.Distinct.{Each}
use Rattle.model_bridge.proofs.Match.{total, total_append, each_append, each_more, same_total, plus_total, IsMatched, matched, total_picked, each_picked}
use Rattle.model_bridge.proofs.Calls.{active_step, aboard_step, Facts, IsPair, aboard, IsHeld, gone, leaves, kept, freed, total_kept, total_freed, each_kept, each_freed}
use Rattle.model_bridge.proofs.Flow.{new, put_here, pool, loading, balanced}

pub record IsNext (m : Voyage) (x : ℕ → Bool) (i : ℕ) (held : List (ℕ × ℕ)) : Type 0 where
  pub pairs : List (ℕ × ℕ)
  pub is : IsHeld m x (suc i) (kept m (suc i) held ++ pairs)
  pub put_now : Each (λ (e : ℕ × ℕ). (var m e.0).put ≡ suc i) pairs

split_pair : (g l : Bool) (z : ℤ) → (l ≡ true → g ≡ true) → where_set (not g) z +ℤ where_set (g && not l) z ≡ where_set (not l) z
split_pair true l z h = omega (arith, ints)
split_pair false true z h = absurd (both_ways false refl (h refl))
split_pair false false z h = omega (arith, ints)

module _ (m : Voyage) (x : ℕ → Bool) (facts : Facts m) (solution : IsSolution m x) (i : ℕ) (call : is_call m (suc i) ≡ true) (held : List (ℕ × ℕ)) (is : IsHeld m x i held) where
  abbrev pub Good : ℕ → Type 0
  Good v = (v < length (variables m)) × (x v ≡ true) × ((var m v).put ≡ suc i)

  abbrev pub Due : ℕ → Type 0
  Due c = (c < length m.cargo.containers) × ((container m c).load ≤ suc i) × (suc i < (container m c).dest)

  leaves_gone : (e : ℕ × ℕ) → IsPair m x i e → leaves m (suc i) e.1 ≡ true → gone m (suc i) e.0 ≡ true
  leaves_gone e p l = eq-eqb _ (suc i) (
      let a = facts.var_dest e.0 p.var_known in let b = facts.dest_of e.1 p.box_known in
      let c : (kind m (var m e.0).kind).dest ≡ (kind m (kind_at m e.1)).dest = ap (λ (t : ℕ). (kind m t).dest) p.alike in
      let d : (container m e.1).dest ≡ suc i = eqb-true _ _ l in let f = p.lifted in omega arith)

  pub goods : Each Good (new m x facts solution i call held is)
  goods = each_picked Good (put_here m x facts solution i call held is) (length (variables m)) (λ v l t. let both = and_parts (x v) ((var m v).put == suc i) t in (l, both.0, eqb-true _ _ both.1))

  pub dues : Each Due (pool m x facts solution i call held is)
  dues = each_append Due (freed m (suc i) held) (loading m x facts solution i call held is)
      (each_freed m (suc i) (IsPair m x i) Due held (λ e p l. let other : (container m e.1).dest ≡ suc i → ⊥ = eqb-false _ _ l in let a = p.load in let b = p.dest in (p.box_known, omega arith, omega arith)) is.each)
      (each_picked Due _ (length m.cargo.containers) (λ c l t. let e : (container m c).load ≡ suc i = eqb-true _ _ t in let a = facts.in_order c l in (l, omega arith, omega arith)))

  pairs_kept : Each (IsPair m x (suc i)) (kept m (suc i) held)
  pairs_kept = each_kept m (suc i) (IsPair m x i) (IsPair m x (suc i)) held (λ e p g.
      let other : (var m e.0).lifted ≡ suc i → ⊥ = eqb-false _ _ g in
      let a = p.lifted in let b = p.put in let c = p.load in let f = facts.var_dest e.0 p.var_known in let h = facts.dest_of e.1 p.box_known in
      let k : (kind m (var m e.0).kind).dest ≡ (kind m (kind_at m e.1)).dest = ap (λ (t : ℕ). (kind m t).dest) p.alike in
      record { var_known = p.var_known; is_one = p.is_one; put = omega arith; lifted = omega arith; box_known = p.box_known; load = omega arith; dest = omega arith; alike = p.alike }) is.each

  -- by any matching of the variables that are put with the containers to be put
  module _ (found : IsMatched (λ v. (var m v).kind) (kind_at m) Good Due (new m x facts solution i call held is) (pool m x facts solution i call held is)) where
    pairs_new : Each (IsPair m x (suc i)) found.pairs
    pairs_new = each_more _ (IsPair m x (suc i)) found.pairs (λ e h.
        let a = facts.var_order e.0 h.0.0 in let b = h.0.2 in
        record { var_known = h.0.0; is_one = h.0.1; put = omega arith; lifted = omega arith; box_known = h.1.0; load = h.1.1; dest = h.1.2; alike = h.2 }) found.each

    vars_next : (w : ℕ → ℤ) → total (λ (e : ℕ × ℕ). w e.0) (kept m (suc i) held ++ found.pairs) ≡ sum_to (length (variables m)) (λ v. where_set (x v && active (suc i) (var m v)) (w v))
    vars_next w =
        let a = total_append (λ (e : ℕ × ℕ). w e.0) (kept m (suc i) held) found.pairs in
        let b = total_kept m (suc i) (λ (e : ℕ × ℕ). w e.0) held in
        let c = is.vars (λ v. where_set (not (gone m (suc i) v)) (w v)) in
        let d = found.firsts w in
        let e = total_picked (put_here m x facts solution i call held is) (length (variables m)) w in
        let f = plus_sum (length (variables m)) (λ v. where_set (x v && active i (var m v)) (where_set (not (gone m (suc i) v)) (w v))) (λ v. where_set (put_here m x facts solution i call held is v) (w v)) in
        let g = same_sum (length (variables m)) (λ v. where_set (x v && active i (var m v)) (where_set (not (gone m (suc i) v)) (w v)) +ℤ where_set (put_here m x facts solution i call held is v) (w v)) (λ v. where_set (x v && active (suc i) (var m v)) (w v)) (λ v l. active_step (var m v).put (var m v).lifted i (x v) (w v) (facts.var_order v l)) in
        omega (arith, ints, a, b, c, d, e, f, g)

    boxes_next : (w : ℕ → ℤ) → total (λ (e : ℕ × ℕ). w e.1) (kept m (suc i) held ++ found.pairs) ≡ sum_to (length m.cargo.containers) (λ c. where_set (aboard m (suc i) c) (w c))
    boxes_next w =
        let a = total_append (λ (e : ℕ × ℕ). w e.1) (kept m (suc i) held) found.pairs in
        let b = total_kept m (suc i) (λ (e : ℕ × ℕ). w e.1) held in
        let c = found.seconds w in
        let d = total_append w (freed m (suc i) held) (loading m x facts solution i call held is) in
        let e = total_freed m (suc i) w held in
        let f = plus_total (λ (e : ℕ × ℕ). where_set (not (gone m (suc i) e.0)) (w e.1)) (λ (e : ℕ × ℕ). where_set (gone m (suc i) e.0 && not (leaves m (suc i) e.1)) (w e.1)) held in
        let g = same_total (IsPair m x i) (λ (e : ℕ × ℕ). where_set (not (gone m (suc i) e.0)) (w e.1) +ℤ where_set (gone m (suc i) e.0 && not (leaves m (suc i) e.1)) (w e.1)) (λ (e : ℕ × ℕ). where_set (not (leaves m (suc i) e.1)) (w e.1)) held is.each (λ e p. split_pair (gone m (suc i) e.0) (leaves m (suc i) e.1) (w e.1) (leaves_gone e p)) in
        let h = is.boxes (λ c. where_set (not (leaves m (suc i) c)) (w c)) in
        let k = total_picked (λ c. (container m c).load == suc i) (length m.cargo.containers) w in
        let p = plus_sum (length m.cargo.containers) (λ c. where_set (aboard m i c) (where_set (not (leaves m (suc i) c)) (w c))) (λ c. where_set ((container m c).load == suc i) (w c)) in
        let q = same_sum (length m.cargo.containers) (λ c. where_set (aboard m i c) (where_set (not (leaves m (suc i) c)) (w c)) +ℤ where_set ((container m c).load == suc i) (w c)) (λ c. where_set (aboard m (suc i) c) (w c)) (λ c l. aboard_step (container m c).load (container m c).dest i (w c) (facts.in_order c l)) in
        omega (arith, ints, a, b, c, d, e, f, g, h, k, p, q)

    pub next_by : IsNext m x i held
    next_by = record {
      pairs = found.pairs;
      is = record { each = each_append _ _ _ pairs_kept pairs_new; vars = vars_next; boxes = boxes_next };
      put_now = each_more _ _ found.pairs (λ e h. h.0.2) found.each;
    }

    pub pairs_are : next_by.pairs ≡ found.pairs
    unfolding next_by
    pairs_are = refl

  -- by the rows of flow there is one
  pub next : IsNext m x i held
  next = next_by (matched _ _ Good Due _ _ goods dues (balanced m x facts solution i call held is))
