-- The calls at which a variable stands in rows: from its put to its lifting.
use Rattle.std.proofs.Common.{◌≡◌, ◌≢◌, ℕ, zero, suc, ◌<◌, ◌≤◌, Bool, true, false, ◌&&◌, ◌==◌, cond, arith, refl, ◌⊎◌, inl, inr, ⊎_elim}
use Rattle.std.specs.Prelude.{ℤ, pos, ◌-ℤ◌}
use Rattle.std.specs.Option.{option_eq}
use Rattle.std.specs.Cmp.Lexicographic.{pointwise}
use Rattle.std.specs.Prelude.{nat_eq, Some}
use Rattle.std.proofs.lemmas.Bool.{eqb-true, ltb-true, leb-true}
use Rattle.proof_trees.specs.Program.{where_set}
use Rattle.zero_one_rows.specs.declared.program.Var.{Var}
use Rattle.zero_one_rows.specs.declared.program.Row.TheVariants.{Flow, Cell, Support, Twenty, Block, Hatch, Weight, Apart}
use Rattle.zero_one_rows.specs.Variables.{Voyage, place, kind}
use Rattle.zero_one_rows.specs.Rows.{half, separation, covers, below, above, bit, less, turned, coef, is_twenty, active, stays, ends}
use Rattle.zero_one_model.proofs.Sized.{first_true, second_true}

abbrev pub Within : Var → ℕ → Type 0
Within x i = (x.put ≤ i) × (i ≤ x.lifted)

active_within : (i : ℕ) (x : Var) → active i x ≡ true → Within x i
active_within i x h =
    let a : x.put ≤ i = leb-true x.put i (first_true _ _ h) in
    let b : i < x.lifted = ltb-true i x.lifted (second_true _ _ h) in
    (a, omega (arith, b))

stays_within : (j : ℕ) (x : Var) → stays j x ≡ true → Within x j
stays_within j x h =
    let a : x.put < j = ltb-true x.put j (first_true _ _ h) in
    let b : j < x.lifted = ltb-true j x.lifted (second_true _ _ h) in
    (omega (arith, a), omega (arith, b))

ends_within : (j : ℕ) (x : Var) → ends j x ≡ true → Within x j
ends_within j x h =
    let a : x.put < j = ltb-true x.put j (first_true _ _ h) in
    let b : x.lifted ≡ j = eqb-true x.lifted j (second_true _ _ h) in
    (omega (arith, a), omega (arith, b))

put_within : (j : ℕ) (x : Var) → x.put < x.lifted → (x.put == j) ≡ true → Within x j
put_within j x l h = let a : x.put ≡ j = eqb-true x.put j h in (omega (arith, a), omega (arith, a, l))

lifted_within : (j : ℕ) (x : Var) → x.put < x.lifted → (x.lifted == j) ≡ true → Within x j
lifted_within j x l h = let a : x.lifted ≡ j = eqb-true x.lifted j h in (omega (arith, a, l), omega (arith, a))

-- a coefficient that isn't 0 has a test of the call that passed
flow_calls : (q : ℕ) (a b g : Bool) → turned q (bit (a && g) -ℤ bit (b && g)) ≢ pos 0 → (a ≡ true) ⊎ (b ≡ true)
flow_calls q true b g ne = inl refl
flow_calls q false true g ne = inr refl
flow_calls zero false false g ne = absurd (ne refl)
flow_calls (suc q) false false g ne = absurd (ne refl)

cell_calls : (a s : Bool) → less (a && s) ≢ pos 0 → s ≡ true
cell_calls a true ne = refl
cell_calls true false ne = absurd (ne refl)
cell_calls false false ne = absurd (ne refl)

support_calls : (a b s : Bool) → (bit (a && s) -ℤ bit (b && s)) ≢ pos 0 → s ≡ true
support_calls a b true ne = refl
support_calls true true false ne = absurd (ne refl)
support_calls true false false ne = absurd (ne refl)
support_calls false true false ne = absurd (ne refl)
support_calls false false false ne = absurd (ne refl)

twenty_calls : (t a b s : Bool) → (bit (t && (a && s)) -ℤ bit (t && (b && s))) ≢ pos 0 → s ≡ true
twenty_calls t a b true ne = refl
twenty_calls false a b false ne = absurd (ne refl)
twenty_calls true true true false ne = absurd (ne refl)
twenty_calls true true false false ne = absurd (ne refl)
twenty_calls true false true false ne = absurd (ne refl)
twenty_calls true false false false ne = absurd (ne refl)

block_calls : (a e b s : Bool) → (less (a && e) -ℤ bit (b && s)) ≢ pos 0 → (e ≡ true) ⊎ (s ≡ true)
block_calls a true b s ne = inl refl
block_calls a false b true ne = inr refl
block_calls true false true false ne = absurd (ne refl)
block_calls true false false false ne = absurd (ne refl)
block_calls false false true false ne = absurd (ne refl)
block_calls false false false false ne = absurd (ne refl)

hatch_calls : (z a e p b s : Bool) → (less (cond z (a && e) (a && p)) -ℤ bit (b && s)) ≢ pos 0 → (e ≡ true) ⊎ ((p ≡ true) ⊎ (s ≡ true))
hatch_calls z a true p b s ne = inl refl
hatch_calls z a false true b s ne = inr (inl refl)
hatch_calls z a false false b true ne = inr (inr refl)
hatch_calls true true false false true false ne = absurd (ne refl)
hatch_calls true true false false false false ne = absurd (ne refl)
hatch_calls true false false false true false ne = absurd (ne refl)
hatch_calls true false false false false false ne = absurd (ne refl)
hatch_calls false true false false true false ne = absurd (ne refl)
hatch_calls false true false false false false ne = absurd (ne refl)
hatch_calls false false false false true false ne = absurd (ne refl)
hatch_calls false false false false false false ne = absurd (ne refl)

weight_calls : (a s : Bool) (z : ℤ) → (pos 0 -ℤ where_set (a && s) z) ≢ pos 0 → s ≡ true
weight_calls a true z ne = refl
weight_calls true false z ne = absurd (ne refl)
weight_calls false false z ne = absurd (ne refl)

apart_calls : (a c b d s : Bool) → (less (a && (c && s)) -ℤ bit (b && (d && s))) ≢ pos 0 → s ≡ true
apart_calls a c b d true ne = refl
apart_calls false c false d false ne = absurd (ne refl)
apart_calls false c true true false ne = absurd (ne refl)
apart_calls false c true false false ne = absurd (ne refl)
apart_calls true true false d false ne = absurd (ne refl)
apart_calls true false false d false ne = absurd (ne refl)
apart_calls true true true true false ne = absurd (ne refl)
apart_calls true true true false false ne = absurd (ne refl)
apart_calls true false true true false ne = absurd (ne refl)
apart_calls true false true false false ne = absurd (ne refl)

module _ (m : Voyage) (x : Var) (l : x.put < x.lifted) where
  pub flow_within : (q i g : ℕ) → coef m (Flow q i g) x ≢ pos 0 → Within x i
  flow_within q i g ne = ⊎_elim (λ (a : (x.put == i) ≡ true). put_within i x l a) (λ (b : (x.lifted == i) ≡ true). lifted_within i x l b) (flow_calls q (x.put == i) (x.lifted == i) (x.kind == g) ne)

  pub cell_within : (i h : ℕ) → coef m (Cell i h) x ≢ pos 0 → Within x i
  cell_within i h ne = active_within i x (cell_calls (covers (place m x.place) (half m h)) (active i x) ne)

  pub support_within : (i h : ℕ) → coef m (Support i h) x ≢ pos 0 → Within x i
  support_within i h ne = active_within i x (support_calls (covers (place m x.place) (below (half m h))) (covers (place m x.place) (half m h)) (active i x) ne)

  pub twenty_within : (i h : ℕ) → coef m (Twenty i h) x ≢ pos 0 → Within x i
  twenty_within i h ne = active_within i x (twenty_calls (is_twenty (kind m x.kind).long) (covers (place m x.place) (below (half m h))) (covers (place m x.place) (half m h)) (active i x) ne)

  pub block_within : (j h : ℕ) → coef m (Block j h) x ≢ pos 0 → Within x j
  block_within j h ne = ⊎_elim (λ (a : ends j x ≡ true). ends_within j x a) (λ (b : stays j x ≡ true). stays_within j x b)
      (block_calls (covers (place m x.place) (half m h)) (ends j x) (covers (place m x.place) (above (half m h))) (stays j x) ne)

  pub hatch_within : (w j h d : ℕ) → coef m (Hatch w j h d) x ≢ pos 0 → Within x j
  hatch_within w j h d ne = ⊎_elim (λ (a : ends j x ≡ true). ends_within j x a)
      (λ (r : ((x.put == j) ≡ true) ⊎ (stays j x ≡ true)). ⊎_elim (λ (a : (x.put == j) ≡ true). put_within j x l a) (λ (b : stays j x ≡ true). stays_within j x b) r)
      (hatch_calls (w == 0) (covers (place m x.place) (half m h)) (ends j x) (x.put == j) (covers (place m x.place) (half m d)) (stays j x) ne)

  pub weight_within : (i k : ℕ) → coef m (Weight i k) x ≢ pos 0 → Within x i
  weight_within i k ne = active_within i x (weight_calls ((place m x.place).stack == k) (active i x) (pos (kind m x.kind).kg) ne)

  pub apart_within : (i e p q : ℕ) → coef m (Apart i e p q) x ≢ pos 0 → Within x i
  apart_within i e p q ne = active_within i x (apart_calls (x.place == p) (option_eq (pointwise nat_eq) (kind m x.kind).class (Some (separation m e).a)) (x.place == q) (option_eq (pointwise nat_eq) (kind m x.kind).class (Some (separation m e).b)) (active i x) ne)
