-- From one call to the next.
use Rattle.std.proofs.Common.{◌≡◌, ℕ, suc, ◌<◌, ◌≤◌, Bool, true, false, cond, List, [], ◌∷◌, ℤ, ◌+ℤ◌, arith, refl, length}
use Rattle.std.specs.Prelude.{◌==◌, ◌&&◌, not, nat_le, nat_lt}
use Rattle.std.proofs.lemmas.Bool.{lt-ltb, and_parts, and_from, ltb-true, not-true}
use Rattle.std.proofs.lemmas.Bool.Decides.{nat_tests}
use borrow.Author.Differences.{ints}
use Rattle.proof_trees.specs.Program.{sum_to, where_set}
use Rattle.zero_one_rows.specs.declared.program.Row.TheVariants.{Flow}
use Rattle.std.specs.Prelude.{slice_get, Some}
use Rattle.stow_data.specs.declared.geometry.Place.{Place}
use Rattle.stow_data.specs.declared.geometry.Half.{Half}
use Rattle.stow_data.specs.Ship.{places, halves, HasHalf}
use Rattle.model_bridge.proofs.Words.{shown_kind}
use Rattle.zero_one_rows.specs.Variables.{Voyage, place, variables, var, kind, all_kinds}
use Rattle.zero_one_rows.specs.Rows.{stack, active, has, is_call}
use Rattle.model_bridge.proofs.Words.{fits, container, kind_at, begun}
use Rattle.stow_data.proofs.Distinct.{Each}
use Rattle.model_bridge.proofs.Match.{total}

-- a variable that is put before its lifting: past a call it was there and isn't lifted, or is put
pub active_step : (put lifted i : ℕ) (t : Bool) (z : ℤ) → put < lifted
    → where_set (t && (nat_le put i && nat_lt i lifted)) (where_set (not (lifted == suc i)) z) +ℤ where_set (t && (put == suc i)) z ≡ where_set (t && (nat_le put (suc i) && nat_lt (suc i) lifted)) z
active_step put lifted i true z l = grind (arith, nat_tests, ints)
active_step put lifted i false z l = refl

pub aboard_step : (load dest i : ℕ) (z : ℤ) → load < dest
    → where_set (nat_le load i && nat_lt i dest) (where_set (not (dest == suc i)) z) +ℤ where_set (load == suc i) z ≡ where_set (nat_le load (suc i) && nat_lt (suc i) dest) z
aboard_step load dest i z l = grind (arith, nat_tests, ints)

-- what is known of kinds, containers and variables
pub record Facts (m : Voyage) : Type 0 where
  pub in_order : (c : ℕ) → c < length m.cargo.containers → (container m c).load < (container m c).dest
  pub kind_known : (c : ℕ) → c < length m.cargo.containers → kind_at m c < length (all_kinds m)
  pub dest_of : (c : ℕ) → c < length m.cargo.containers → (kind m (kind_at m c)).dest ≡ (container m c).dest
  pub var_kind : (v : ℕ) → v < length (variables m) → (var m v).kind < length (all_kinds m)
  pub var_order : (v : ℕ) → v < length (variables m) → (var m v).put < (var m v).lifted
  pub var_dest : (v : ℕ) → v < length (variables m) → (var m v).lifted ≤ (kind m (var m v).kind).dest
  pub var_begun : (v : ℕ) → v < length (variables m) → 0 < (var m v).put → begun m (var m v).kind (var m v).put ≡ true
  pub var_place : (v : ℕ) → v < length (variables m) → (var m v).place < length (places m.ship)
  pub var_fits : (v : ℕ) → v < length (variables m) → fits (place m (var m v).place) (kind m (var m v).kind) ≡ true
  pub kind_is : (c : ℕ) → c < length m.cargo.containers → kind m (kind_at m c) ≡ shown_kind m c
  pub stack_known : (p : ℕ) (place : Place) → slice_get (places m.ship) p ≡ Some place → place.stack < length m.ship.stacks
  pub tier_low : (p : ℕ) (place : Place) → slice_get (places m.ship) p ≡ Some place → place.tier < (stack m place.stack).tiers
  pub half_known : (p : ℕ) (place : Place) (h : Half) → slice_get (places m.ship) p ≡ Some place → HasHalf place h → (k : ℕ) × (slice_get (halves m.ship) k ≡ Some h)

-- a variable that is 1 and is there after call i, and its container
pub record IsPair (m : Voyage) (x : ℕ → Bool) (i : ℕ) (e : ℕ × ℕ) : Type 0 where
  pub var_known : e.0 < length (variables m)
  pub is_one : x e.0 ≡ true
  pub put : (var m e.0).put ≤ i
  pub lifted : i < (var m e.0).lifted
  pub box_known : e.1 < length m.cargo.containers
  pub load : (container m e.1).load ≤ i
  pub dest : i < (container m e.1).dest
  pub alike : (var m e.0).kind ≡ kind_at m e.1

abbrev pub aboard : Voyage → ℕ → ℕ → Bool
aboard m i c = nat_le (container m c).load i && nat_lt i (container m c).dest

-- after call i: each variable that is 1 and there has one container; each container aboard has one variable
pub record IsHeld (m : Voyage) (x : ℕ → Bool) (i : ℕ) (held : List (ℕ × ℕ)) : Type 0 where
  pub each : Each (IsPair m x i) held
  pub vars : (w : ℕ → ℤ) → total (λ (e : ℕ × ℕ). w e.0) held ≡ sum_to (length (variables m)) (λ v. where_set (x v && active i (var m v)) (w v))
  pub boxes : (w : ℕ → ℤ) → total (λ (e : ℕ × ℕ). w e.1) held ≡ sum_to (length m.cargo.containers) (λ c. where_set (aboard m i c) (w c))

module _ (m : Voyage) (j : ℕ) where
  abbrev pub gone : ℕ → Bool
  gone v = (var m v).lifted == j

  abbrev pub leaves : ℕ → Bool
  leaves c = (container m c).dest == j

  -- the pairs whose variable isn't lifted
  abbrev pub kept : List (ℕ × ℕ) → List (ℕ × ℕ)
  kept [] = []
  kept (e ∷ es) = cond (gone e.0) (kept es) (e ∷ kept es)

  -- the containers of the others, without those that leave
  abbrev pub freed : List (ℕ × ℕ) → List ℕ
  freed [] = []
  freed (e ∷ es) = cond (gone e.0 && not (leaves e.1)) (e.1 ∷ freed es) (freed es)

  kept_step : (f : ℕ × ℕ → ℤ) (b : Bool) (e : ℕ × ℕ) (es : List (ℕ × ℕ)) → total f (cond b es (e ∷ es)) ≡ where_set (not b) (f e) +ℤ total f es
  kept_step f true e es = omega (arith, ints)
  kept_step f false e es = refl

  pub total_kept : (f : ℕ × ℕ → ℤ) (held : List (ℕ × ℕ)) → total f (kept held) ≡ total (λ e. where_set (not (gone e.0)) (f e)) held
  total_kept f [] = refl
  total_kept f (e ∷ es) = omega (arith, ints, kept_step f (gone e.0) e (kept es), total_kept f es)

  freed_step : (w : ℕ → ℤ) (b : Bool) (c : ℕ) (cs : List ℕ) → total w (cond b (c ∷ cs) cs) ≡ where_set b (w c) +ℤ total w cs
  freed_step w true c cs = refl
  freed_step w false c cs = omega (arith, ints)

  pub total_freed : (w : ℕ → ℤ) (held : List (ℕ × ℕ)) → total w (freed held) ≡ total (λ e. where_set (gone e.0 && not (leaves e.1)) (w e.1)) held
  total_freed w [] = refl
  total_freed w (e ∷ es) = omega (arith, ints, freed_step w (gone e.0 && not (leaves e.1)) e.1 (freed es), total_freed w es)

  each_kept_step : (P : ℕ × ℕ → Type 0) (b : Bool) (e : ℕ × ℕ) (es : List (ℕ × ℕ)) → (b ≡ false → P e) → Each P es → Each P (cond b es (e ∷ es))
  each_kept_step P true e es h each = each
  each_kept_step P false e es h each = (h refl, each)

  pub each_kept : (P Q : ℕ × ℕ → Type 0) (held : List (ℕ × ℕ)) → ((e : ℕ × ℕ) → P e → gone e.0 ≡ false → Q e) → Each P held → Each Q (kept held)
  each_kept P Q [] h each = tt
  each_kept P Q (e ∷ es) h each = each_kept_step Q (gone e.0) e (kept es) (λ g. h e each.0 g) (each_kept P Q es h each.1)

  each_freed_step : (Q : ℕ → Type 0) (b : Bool) (c : ℕ) (cs : List ℕ) → (b ≡ true → Q c) → Each Q cs → Each Q (cond b (c ∷ cs) cs)
  each_freed_step Q true c cs h each = (h refl, each)
  each_freed_step Q false c cs h each = each

  pub each_freed : (P : ℕ × ℕ → Type 0) (Q : ℕ → Type 0) (held : List (ℕ × ℕ)) → ((e : ℕ × ℕ) → P e → leaves e.1 ≡ false → Q e.1) → Each P held → Each Q (freed held)
  each_freed P Q [] h each = tt
  each_freed P Q (e ∷ es) h each = each_freed_step Q (gone e.0 && not (leaves e.1)) e.1 (freed es) (λ g. h e each.0 (not-true (leaves e.1) (and_parts (gone e.0) (not (leaves e.1)) g).1)) (each_freed P Q es h each.1)

-- the row of flow exists where a container of the kind could be
pub flow_exists : (m : Voyage) (q j g : ℕ) → q < 2 → is_call m j ≡ true → g < length (all_kinds m) → begun m g j ≡ true → j < (kind m g).dest → has m (Flow q j g) ≡ true
flow_exists m q j g two call known begins before = and_from _ _ (lt-ltb q 2 two) (and_from _ _ call (and_from _ _ (lt-ltb g _ known) (and_from _ _ begins (lt-ltb j _ before))))

-- where it exists for one sign, it exists for the other, and the kind isn't past its destination
pub flow_other : (m : Voyage) (j g : ℕ) → has m (Flow 0 j g) ≡ true → (has m (Flow 1 j g) ≡ true) × (j < (kind m g).dest)
flow_other m j g h =
    let a = and_parts (is_call m j) _ (and_parts (nat_lt 0 2) _ h).1 in
    let b = and_parts (nat_lt g (length (all_kinds m))) _ a.1 in
    let c = and_parts (begun m g j) (nat_lt j (kind m g).dest) b.1 in
    (and_from _ _ refl (and_parts (nat_lt 0 2) _ h).1, ltb-true j _ c.1)
