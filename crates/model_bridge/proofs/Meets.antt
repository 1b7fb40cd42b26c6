-- The rows are met where the assignment shows legal plans and closed sets.
use Rattle.std.proofs.Common.{◌≡◌, ℕ, suc, ◌<◌, ◌+◌, ◌-◌, Bool, true, false, List, [], ◌∷◌, ℤ, pos, ◌+ℤ◌, ◌-ℤ◌, ◌≤ℤ◌, arith, refl, sym, ◌∙◌, ap, ◌⊎◌, inl, inr, ⊎_elim, subst, length}
use Rattle.std.specs.Prelude.{◌==◌, ◌&&◌, nat_le, nat_lt}
use Rattle.std.proofs.lemmas.Bool.{cases_Bool, eqb-true, and_parts}
use Rattle.std.proofs.lemmas.Bool.Decides.{nat_tests}
use borrow.Author.Differences.{ints}
use Rattle.proof_trees.specs.Program.{sum_to, where_set}
use Rattle.stow_data.specs.declared.geometry.Half.{Half}
use Rattle.stow_data.specs.Plans.{Plan}
use Rattle.stowage_rules.specs.Plan.{Holds}
use Rattle.stowage_rules.specs.Plan.{Fills}
use Rattle.plan_lifts.specs.Least.{IsClosed}
use Rattle.stowage_rules.specs.Departure.{IsStowed}
use Rattle.stowage_rules.specs.Departure.{IsDeparture}
use Rattle.zero_one_rows.specs.declared.program.Row.TheVariants.{Cell, Support}
use Rattle.zero_one_rows.specs.Variables.{Voyage, variables, var, kind, calls}
use Rattle.model_bridge.proofs.Words.{container, kind_at, loads, at_half}
use Rattle.zero_one_rows.specs.Rows.{active, occ, below, half, coef, rhs, bit, less}
use Rattle.model_bridge.proofs.Sums.{same_sum, minus_sum}
use Rattle.model_bridge.proofs.Match.{total, same_total}
use Rattle.stow_data.proofs.Members.{Member}
use Rattle.stow_data.proofs.Distinct.{each_at}
use Rattle.model_bridge.proofs.Members.{Differ}
use Rattle.model_bridge.proofs.Calls.{Facts, IsPair, IsHeld, aboard, gone}
use Rattle.model_bridge.proofs.Departures.{spot, Shows, on_half, fills_pair, pair_fills}
use Rattle.model_bridge.proofs.PlanSums.{spots_differ}

-- how many of a list pass
abbrev pub passing : {X : Type 0} → (X → Bool) → List X → ℤ
passing t xs = total (λ x. bit (t x)) xs

bit_low : (b : Bool) → pos 0 ≤ℤ bit b
bit_low true = omega (arith, ints)
bit_low false = omega (arith, ints)

-- none passes, or one does
pub some_pass : {X : Type 0} (t : X → Bool) (xs : List X) → (passing t xs ≡ pos 0) ⊎ ((x : X) × Member x xs × (t x ≡ true))
some_pass t [] = inl refl
some_pass {X} t (x ∷ xs) = ⊎_elim
    (λ (h : t x ≡ true). inr (x, inl refl, h))
    (λ (h : t x ≡ false). ⊎_elim
    (λ (z : passing t xs ≡ pos 0). inl (let b : bit (t x) ≡ pos 0 = ap bit h in omega (arith, ints)))
    (λ (r : (x : X) × Member x xs × (t x ≡ true)). inr (r.0, inr r.1, r.2))
    (some_pass t xs))
    (cases_Bool (t x))

pub one_passes : {X : Type 0} (t : X → Bool) (xs : List X) (x : X) → Member x xs → t x ≡ true → pos 1 ≤ℤ passing t xs
one_passes t [] x h k = absurd h
one_passes t (y ∷ ys) x (inl e) k = let b : bit (t y) ≡ pos 1 = ap bit (ap t (sym e) ∙ k) in let l = low ys in omega (arith, ints)
  where
    low : (zs : List _) → pos 0 ≤ℤ passing t zs
    low [] = omega (arith, ints)
    low (z ∷ zs) = omega (arith, ints, low zs, bit_low (t z))
one_passes t (y ∷ ys) x (inr h) k = omega (arith, ints, one_passes t ys x h k, bit_low (t y))

-- those that pass have one key, and keys differ
pub most_one : {X : Type 0} (k : X → ℕ) (t : X → Bool) (xs : List X) → Differ k xs → ((x y : X) → Member x xs → Member y xs → t x ≡ true → t y ≡ true → k x ≡ k y) → passing t xs ≤ℤ pos 1
most_one k t [] d h = omega (arith, ints)
most_one {X} k t (x ∷ xs) d h = ⊎_elim
    (λ (e : t x ≡ true). ⊎_elim
    (λ (z : passing t xs ≡ pos 0). let b : bit (t x) ≡ pos 1 = ap bit e in omega (arith, ints))
    (λ (r : (y : X) × Member y xs × (t y ≡ true)). absurd (each_at _ xs r.0 d.0 r.1 (h x r.0 (inl refl) (inr r.1) e r.2)))
    (some_pass t xs))
    (λ (e : t x ≡ false). let b : bit (t x) ≡ pos 0 = ap bit e in omega (arith, ints, most_one k t xs d.1 (λ x y a b. h x y (inr a) (inr b))))
    (cases_Bool (t x))

-- of two lists, one in all
pub one_in_all : {X Y : Type 0} (t : X → Bool) (u : Y → Bool) (xs : List X) (ys : List Y) → passing t xs ≤ℤ pos 1 → passing u ys ≤ℤ pos 1 → ((x : X) (y : Y) → Member x xs → Member y ys → t x ≡ true → u y ≡ true → ⊥) → (passing t xs +ℤ passing u ys) ≤ℤ pos 1
one_in_all {X} {Y} t u xs ys a b h = ⊎_elim
    (λ (z : passing t xs ≡ pos 0). omega (arith, ints))
    (λ (r : (x : X) × Member x xs × (t x ≡ true)). ⊎_elim
    (λ (z : passing u ys ≡ pos 0). omega (arith, ints))
    (λ (s : (y : Y) × Member y ys × (u y ≡ true)). absurd (h r.0 s.0 r.1 s.1 r.2 s.2))
    (some_pass u ys))
    (some_pass t xs)

-- where one passes t, one passes u
pub as_many : {X : Type 0} (t u : X → Bool) (xs : List X) → passing t xs ≤ℤ pos 1 → ((x : X) → Member x xs → t x ≡ true → (y : X) × Member y xs × (u y ≡ true)) → passing t xs ≤ℤ passing u xs
as_many {X} t u xs a h = ⊎_elim
    (λ (z : passing t xs ≡ pos 0). omega (arith, ints, low xs))
    (λ (r : (x : X) × Member x xs × (t x ≡ true)). let s = h r.0 r.1 r.2 in omega (arith, ints, one_passes u xs s.0 s.1 s.2))
    (some_pass t xs)
  where
    low : (zs : List X) → pos 0 ≤ℤ passing u zs
    low [] = omega (arith, ints)
    low (z ∷ zs) = omega (arith, ints, low zs, bit_low (u z))

-- plans, sets of lifted places, and pairs, that belong together
pub record IsShown (m : Voyage) (x : ℕ → Bool) (plan : ℕ → Plan) (lift : ℕ → ℕ → Bool) (held : ℕ → List (ℕ × ℕ)) : Type 0 where
  pub holds : (i : ℕ) → i < (calls m) → IsHeld m x i (held i)
  pub shows : (i : ℕ) → i < (calls m) → Shows m (held i) (plan i)
  pub stowed : (i : ℕ) → i < (calls m) → IsStowed m.ship m.cargo i (plan i)
  pub departs : (i : ℕ) → suc i < (calls m) → IsDeparture m.ship m.cargo (suc i) (plan (suc i))
  pub closed : (i : ℕ) → suc i < (calls m) → IsClosed m.ship (plan i) (plan (suc i)) (lift (suc i))
  pub gone_is : (i : ℕ) → suc i < (calls m) → (e : ℕ × ℕ) → Member e (held i) → gone m (suc i) e.0 ≡ lift (suc i) (spot m e)
  pub put_is : (i : ℕ) → suc i < (calls m) → (e : ℕ × ℕ) → Member e (held (suc i)) → (var m e.0).put ≡ suc i → (c : ℕ) → Holds (plan i) (spot m e) c → lift (suc i) (spot m e) ≡ true

-- terms over what is there after a call
pub occ_term : (t a b : Bool) → where_set t (less (b && a)) ≡ where_set (t && a) (less b)
occ_term true true true = refl
occ_term true true false = refl
occ_term true false true = refl
occ_term true false false = refl
occ_term false a b = refl

pub gap_term : (t a b c : Bool) → where_set t (bit (b && a) -ℤ bit (c && a)) ≡ where_set (t && a) (bit b -ℤ bit c)
gap_term true true b c = ap (λ (z : ℤ). z) (same b c)
  where
    same : (b c : Bool) → bit (b && true) -ℤ bit (c && true) ≡ bit b -ℤ bit c
    same true true = refl
    same true false = refl
    same false true = refl
    same false false = refl
gap_term true false true true = refl
gap_term true false true false = refl
gap_term true false false true = refl
gap_term true false false false = refl
gap_term false a b c = refl

pub total_less : {X : Type 0} (t : X → Bool) (xs : List X) → total (λ x. less (t x)) xs ≡ pos 0 -ℤ passing t xs
total_less t [] = refl
total_less t (x ∷ xs) = omega (arith, ints, total_less t xs)

pub total_gap : {X : Type 0} (t u : X → Bool) (xs : List X) → total (λ x. bit (t x) -ℤ bit (u x)) xs ≡ passing t xs -ℤ passing u xs
total_gap t u [] = refl
total_gap t u (x ∷ xs) = omega (arith, ints, total_gap t u xs)

module _ (m : Voyage) (x : ℕ → Bool) (facts : Facts m) (plan : ℕ → Plan) (lift : ℕ → ℕ → Bool) (held : ℕ → List (ℕ × ℕ)) (shown : IsShown m x plan lift held) where
  abbrev pub n : ℕ
  n = length (variables m)

  -- one pair in a half-cell
  pub one_on : (i : ℕ) → i < (calls m) → (h : Half) → passing (λ (e : ℕ × ℕ). on_half m e h) (held i) ≤ℤ pos 1
  one_on i l h = most_one (spot m) _ (held i) (spots_differ m x facts i (held i) (shown.holds i l) (plan i) (shown.shows i l))
      (λ e d a b s t. (shown.stowed i l).well_formed.apart h e.1 d.1 (pair_fills m x facts i (held i) (shown.holds i l) (plan i) (shown.shows i l) e h a s) (pair_fills m x facts i (held i) (shown.holds i l) (plan i) (shown.shows i l) d h b t))

  pub one_on_and : (i : ℕ) → i < (calls m) → (h : Half) (u : ℕ × ℕ → Bool) → passing (λ (e : ℕ × ℕ). on_half m e h && u e) (held i) ≤ℤ pos 1
  one_on_and i l h u = most_one (spot m) _ (held i) (spots_differ m x facts i (held i) (shown.holds i l) (plan i) (shown.shows i l))
      (λ e d a b s t. (shown.stowed i l).well_formed.apart h e.1 d.1 (pair_fills m x facts i (held i) (shown.holds i l) (plan i) (shown.shows i l) e h a (and_parts (on_half m e h) (u e) s).0) (pair_fills m x facts i (held i) (shown.holds i l) (plan i) (shown.shows i l) d h b (and_parts (on_half m d h) (u d) t).0))

  pub met_cell : (i h : ℕ) → i < (calls m) → rhs m (Cell i h) ≤ℤ sum_to n (λ v. where_set (x v) (coef m (Cell i h) (var m v)))
  met_cell i h l =
      let a = same_sum n (λ v. where_set (x v) (less (occ m i (half m h) (var m v)))) (λ v. where_set (x v && active i (var m v)) (less (at_half m (half m h) (var m v)))) (λ v k. occ_term (x v) (active i (var m v)) (at_half m (half m h) (var m v))) in
      let b = (shown.holds i l).vars (λ v. less (at_half m (half m h) (var m v))) in
      let c = total_less (λ (e : ℕ × ℕ). on_half m e (half m h)) (held i) in
      omega (arith, ints, a, b, c, one_on i l (half m h))

  pub met_support : (i h : ℕ) → i < (calls m) → 0 < (half m h).tier → rhs m (Support i h) ≤ℤ sum_to n (λ v. where_set (x v) (coef m (Support i h) (var m v)))
  met_support i h l high =
      let a = same_sum n (λ v. where_set (x v) (bit (occ m i (below (half m h)) (var m v)) -ℤ bit (occ m i (half m h) (var m v)))) (λ v. where_set (x v && active i (var m v)) (bit (at_half m (below (half m h)) (var m v)) -ℤ bit (at_half m (half m h) (var m v)))) (λ v k. gap_term (x v) (active i (var m v)) _ _) in
      let b = (shown.holds i l).vars (λ v. bit (at_half m (below (half m h)) (var m v)) -ℤ bit (at_half m (half m h) (var m v))) in
      let c = total_gap (λ (e : ℕ × ℕ). on_half m e (below (half m h))) (λ (e : ℕ × ℕ). on_half m e (half m h)) (held i) in
      let d = as_many (λ (e : ℕ × ℕ). on_half m e (half m h)) (λ (e : ℕ × ℕ). on_half m e (below (half m h))) (held i) (one_on i l (half m h)) (λ e k t.
      let f = (shown.stowed i l).supported (half m h).stack ((half m h).tier - 1) (half m h).aft e.1
      (let q : (half m h).tier ≡ (half m h).tier - 1 + 1 = omega arith in subst (λ (z : ℕ). Fills m.ship (plan i) (record { stack = (half m h).stack; tier = z; aft = (half m h).aft }) e.1) q (pair_fills m x facts i (held i) (shown.holds i l) (plan i) (shown.shows i l) e (half m h) k t)) in
      let r = fills_pair m x facts i (held i) (shown.holds i l) (plan i) (shown.shows i l) (below (half m h)) f.0 f.1 in (r.0, r.1, r.2)) in
      omega (arith, ints, a, b, c, d)

  -- flow: by the sums alone
  flow_var : (put lifted i : ℕ) (t k : Bool) → put < lifted → where_set t (bit ((put == suc i) && k) -ℤ bit ((lifted == suc i) && k)) ≡ where_set (t && (nat_le put (suc i) && nat_lt (suc i) lifted)) (bit k) -ℤ where_set (t && (nat_le put i && nat_lt i lifted)) (bit k)
  flow_var put lifted i true true l = grind (arith, nat_tests, ints)
  flow_var put lifted i true false l = grind (arith, nat_tests, ints)
  flow_var put lifted i false k l = refl

  flow_box : (load dest i : ℕ) (k : Bool) → load < dest → (k ≡ true → suc i < dest) → where_set (nat_le load (suc i) && nat_lt (suc i) dest) (bit k) -ℤ where_set (nat_le load i && nat_lt i dest) (bit k) ≡ bit ((load == suc i) && k)
  flow_box load dest i true l h = let k = h refl in grind (arith, nat_tests, ints)
  flow_box load dest i false l h = grind (arith, nat_tests, ints)

  pub flow_sum : (i g : ℕ) → suc i < (calls m) → suc i < (kind m g).dest → sum_to n (λ v. where_set (x v) (bit (((var m v).put == suc i) && ((var m v).kind == g)) -ℤ bit (((var m v).lifted == suc i) && ((var m v).kind == g)))) ≡ loads m (suc i) g
  flow_sum i g l before =
      let now = shown.holds (suc i) l in let was = shown.holds i (omega arith) in
      let a = same_sum n (λ v. where_set (x v) (bit (((var m v).put == suc i) && ((var m v).kind == g)) -ℤ bit (((var m v).lifted == suc i) && ((var m v).kind == g)))) (λ v. where_set (x v && active (suc i) (var m v)) (bit ((var m v).kind == g)) -ℤ where_set (x v && active i (var m v)) (bit ((var m v).kind == g))) (λ v k. flow_var (var m v).put (var m v).lifted i (x v) ((var m v).kind == g) (facts.var_order v k)) in
      let b = minus_sum n (λ v. where_set (x v && active (suc i) (var m v)) (bit ((var m v).kind == g))) (λ v. where_set (x v && active i (var m v)) (bit ((var m v).kind == g))) in
      let c = now.vars (λ v. bit ((var m v).kind == g)) in
      let d = was.vars (λ v. bit ((var m v).kind == g)) in
      let e = same_total (IsPair m x (suc i)) (λ e. bit ((var m e.0).kind == g)) (λ e. bit (kind_at m e.1 == g)) (held (suc i)) now.each (λ e p. ap (λ (z : ℕ). bit (z == g)) p.alike) in
      let f = same_total (IsPair m x i) (λ e. bit ((var m e.0).kind == g)) (λ e. bit (kind_at m e.1 == g)) (held i) was.each (λ e p. ap (λ (z : ℕ). bit (z == g)) p.alike) in
      let h = now.boxes (λ c. bit (kind_at m c == g)) in
      let k = was.boxes (λ c. bit (kind_at m c == g)) in
      let p = minus_sum (length m.cargo.containers) (λ c. where_set (aboard m (suc i) c) (bit (kind_at m c == g))) (λ c. where_set (aboard m i c) (bit (kind_at m c == g))) in
      let q = same_sum (length m.cargo.containers) (λ c. where_set (aboard m (suc i) c) (bit (kind_at m c == g)) -ℤ where_set (aboard m i c) (bit (kind_at m c == g))) (λ c. bit (((container m c).load == suc i) && (kind_at m c == g))) (λ c k. flow_box (container m c).load (container m c).dest i (kind_at m c == g) (facts.in_order c k)
      (λ t. subst (λ (z : ℕ). suc i < z) (sym (ap (λ (z : ℕ). (kind m z).dest) (eqb-true _ _ t)) ∙ facts.dest_of c k) before)) in
      omega (arith, ints, a, b, c, d, e, f, h, k, p, q)
