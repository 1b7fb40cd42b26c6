-- The variables in which a row has a coefficient other than 0.
use Rattle.std.proofs.Common.{◌≡◌, ◌≢◌, ℕ, zero, suc, ◌<◌, ◌≤◌, ◌^◌, ◌⊎◌, inl, inr, Bool, true, false, ◌||◌, List, [], ◌∷◌, length, map, get_or, All, ℤ, pos, negsuc, ◌*ℤ◌, ◌-ℤ◌, ◌↔◌, arith, refl, sym, ◌∙◌, ap, subst}
use Rattle.std.specs.Prelude.{nat_eq, Contains}
use Rattle.std.specs.List.{list_any}
use Rattle.std.specs.Int.RustNames.{unsigned_abs}
use borrow.Author.Differences.{ints}
use Rattle.std.proofs.lemmas.Bool.{both_ways, eqb-true}
use Rattle.std.proofs.lemmas.List.Folds.{list_any_at}
use Rattle.std.proofs.lemmas.List.Elements.{Contains-get_or, All-nil, All-cons}
use Rattle.proof_trees.specs.Program.{where_set}
use Rattle.zero_one_rows.specs.declared.program.Row.{Row}
use Rattle.zero_one_rows.specs.Variables.{Voyage, variables}
use Rattle.zero_one_rows.specs.Rows.{whole}
use Rattle.zero_one_model.specs.Indexed.{Touches}
use Rattle.row_matrix.specs.declared.entries.Term.{Term}
use Rattle.row_matrix.specs.Terms.{AreTerms}
use Rattle.crossing_pricing.specs.Gaps.{number_at}
use Rattle.dual_bound.proofs.Summing.{equal, all_taken, Lost}

zero_or_other : (z : ℤ) → (z ≡ pos 0) ⊎ (z ≢ pos 0)
zero_or_other (pos zero) = inl refl
zero_or_other (pos (suc n)) = inr (λ e. omega (arith, ints))
zero_or_other (negsuc n) = inr (λ e. omega (arith, ints))

pub times_zero : (a z : ℤ) → z ≡ pos 0 → a *ℤ z ≡ pos 0
times_zero a z e = ap (λ (y : ℤ). a *ℤ y) e ∙ none a
  where
    none : (a : ℤ) → a *ℤ pos 0 ≡ pos 0
    none a = omega (arith, ints)

-- a variable that is read from a row's list
pub listed_inside : (m : Voyage) (r : Row) (xs ys : List ℕ) (k x : ℕ) → ((x : ℕ) → Contains xs x ↔ Touches m r x) → ys ≡ xs → k < length ys → x ≡ get_or ys k x → x < length (variables m)
listed_inside m r xs ys k x each same lt here =
    let lt' : k < length xs = subst (λ (zs : List ℕ). k < length zs) same lt in
    let h : get_or xs k x < length (variables m) = ((each (get_or xs k x)).0 (Contains-get_or xs k x lt')).inside in
    subst (λ (v : ℕ). v < length (variables m)) (sym (here ∙ ap (λ (zs : List ℕ). get_or zs k x) same)) h

-- a row's variables, each with its coefficient, and none besides
pub listed_terms : (m : Voyage) (r : Row) (ts : List Term) → (whole m).has r ≡ true → ((x : ℕ) → Contains (map (λ t. t.at) ts) x ↔ Touches m r x) → All (λ t. t.at < length (variables m)) ts × ((v : ℕ) → v < length (variables m) → list_any (nat_eq v) (map (λ t. t.at) ts) ≡ false → (whole m).coef r v ≡ pos 0)
listed_terms m r ts has each = (inside ts (λ x c. ((each x).0 c).inside), none)
  where
    inside : (us : List Term) → ((x : ℕ) → Contains (map (λ t. t.at) us) x → x < length (variables m)) → All (λ t. t.at < length (variables m)) us
    inside [] h = All-nil (λ (t : Term). t.at < length (variables m))
    inside (u ∷ us) h = All-cons (λ (t : Term). t.at < length (variables m)) u us
        (h u.at (Contains-get_or (map (λ t. t.at) (u ∷ us)) 0 0 (omega arith)))
        (inside us (λ x c. h x (suc c.0, omega (arith, c.1), c.2)))

    none : (v : ℕ) → v < length (variables m) → list_any (nat_eq v) (map (λ t. t.at) ts) ≡ false → (whole m).coef r v ≡ pos 0
    none v lt e = by (zero_or_other ((whole m).coef r v))
      where
        by : ((whole m).coef r v ≡ pos 0) ⊎ ((whole m).coef r v ≢ pos 0) → (whole m).coef r v ≡ pos 0
        by (inl none) = none
        by (inr other) =
            let c = (each v).1 (record { has = has; inside = lt; other = other }) in
            let t : list_any (nat_eq v) (map (λ t. t.at) ts) ≡ true = list_any_at (nat_eq v) (map (λ t. t.at) ts) c.0 v c.1 (ap (λ (w : ℕ). nat_eq v w) c.2 ∙ equal v) in
            absurd (grind arith)

-- ## Terms one by one

pub var_at : (ts : List Term) (i : ℕ) (x : Term) → i < length ts → x ≡ get_or ts i x → x.at ≡ get_or (map (λ t. t.at) ts) i 0
var_at [] i x lt e = absurd (omega arith)
var_at (t ∷ ts) zero x lt e = ap (λ (y : Term). y.at) e
var_at (t ∷ ts) (suc i) x lt e = var_at ts i x (omega arith) e

pub vars_long : (ts : List Term) → length (map (λ t. t.at) ts) ≡ length ts
vars_long [] = refl
vars_long (t ∷ ts) = let e : length (map (λ t. t.at) ts) ≡ length ts = vars_long ts in omega arith

all_at : (P : Term → Type 0) (ts : List Term) (i : ℕ) (x : Term) → i < length ts → x ≡ get_or ts i x → All P ts → P x
all_at P ts i x lt e all = subst P (sym e) (all i x lt)

module _ (m : Voyage) (r : Row) (ts : List Term) (are : AreTerms m r ts) where
  pub coef_at : (i : ℕ) (x : Term) → i < length ts → x ≡ get_or ts i x → x.by ≡ (whole m).coef r x.at
  coef_at i x lt e = all_at (λ t. t.by ≡ (whole m).coef r t.at) ts i x lt e are.are

  pub small_at : (i : ℕ) (x : Term) → i < length ts → x ≡ get_or ts i x → unsigned_abs x.by ≤ 2 ^ 17
  small_at i x lt e = all_at (λ t. unsigned_abs t.by ≤ 2 ^ 17) ts i x lt e are.small

  pub inside_at : (i : ℕ) (x : Term) → i < length ts → x ≡ get_or ts i x → x.at < length (variables m)
  inside_at i x lt e = all_at (λ t. t.at < length (variables m)) ts i x lt e are.inside

  pub coef_none : (v : ℕ) → v < length (variables m) → list_any (nat_eq v) (map (λ t. t.at) ts) ≡ false → (whole m).coef r v ≡ pos 0
  coef_none = are.others

  small_listed : (ts' : List Term) (v : ℕ) → All (λ t. t.by ≡ (whole m).coef r t.at) ts' → All (λ t. unsigned_abs t.by ≤ 2 ^ 17) ts' → list_any (nat_eq v) (map (λ t. t.at) ts') ≡ true → unsigned_abs ((whole m).coef r v) ≤ 2 ^ 17
  small_listed [] v coefs small s = absurd (both_ways false refl s)
  small_listed (t ∷ ts') v coefs small s = by (nat_eq v t.at) refl (small_listed ts' v (λ i d lt. coefs (suc i) d (omega (arith, lt))) (λ i d lt. small (suc i) d (omega (arith, lt))))
    where
      here : v ≡ t.at → unsigned_abs ((whole m).coef r v) ≤ 2 ^ 17
      here e = subst (λ (z : ℤ). unsigned_abs z ≤ 2 ^ 17) (coefs 0 t (omega arith) ∙ ap (λ (w : ℕ). (whole m).coef r w) (sym e)) (small 0 t (omega arith))

      later : (b : Bool) → nat_eq v t.at ≡ b → b ≡ false → list_any (nat_eq v) (map (λ t. t.at) ts') ≡ true
      later b e f = sym (ap (λ (a : Bool). a || list_any (nat_eq v) (map (λ t. t.at) ts')) (e ∙ f)) ∙ s

      by : (b : Bool) → nat_eq v t.at ≡ b → (list_any (nat_eq v) (map (λ t. t.at) ts') ≡ true → unsigned_abs ((whole m).coef r v) ≤ 2 ^ 17) → unsigned_abs ((whole m).coef r v) ≤ 2 ^ 17
      by true e rest = here (eqb-true v t.at e)
      by false e rest = rest (later false e refl)

  pub coefs_small : (v : ℕ) → v < length (variables m) → unsigned_abs ((whole m).coef r v) ≤ 2 ^ 17
  coefs_small v lt = by (list_any (nat_eq v) (map (λ t. t.at) ts)) refl
    where
      by : (b : Bool) → list_any (nat_eq v) (map (λ t. t.at) ts) ≡ b → unsigned_abs ((whole m).coef r v) ≤ 2 ^ 17
      by true e = small_listed ts v are.are are.small e
      by false e = subst (λ (z : ℤ). unsigned_abs z ≤ 2 ^ 17) (sym (coef_none v lt e)) (omega arith)

  -- all of them have lost their part
  pub all_lost : (by : ℤ) (from ws : List ℤ) (i : ℕ) → length ts ≤ i → Lost (λ v. by *ℤ (whole m).coef r v) from (map (λ t. t.at) ts) (length (variables m)) ws i
      → (v : ℕ) → v < length (variables m) → number_at ws v ≡ number_at from v -ℤ by *ℤ (whole m).coef r v
  all_lost by from ws i le lost v lt =
      lost v lt ∙ ap (λ (ys : List ℕ). number_at from v -ℤ where_set (list_any (nat_eq v) ys) (by *ℤ (whole m).coef r v)) (all_taken (map (λ t. t.at) ts) i (omega (arith, vars_long ts)))
      ∙ ap (λ (z : ℤ). number_at from v -ℤ z) (split (list_any (nat_eq v) (map (λ t. t.at) ts)) refl)
    where
      split : (b : Bool) → list_any (nat_eq v) (map (λ t. t.at) ts) ≡ b → where_set b (by *ℤ (whole m).coef r v) ≡ by *ℤ (whole m).coef r v
      split true e = refl
      split false e = sym (times_zero by ((whole m).coef r v) (coef_none v lt e))
