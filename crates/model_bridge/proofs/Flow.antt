-- The rows of flow match the variables put at a call with the containers to be put.
use Rattle.std.proofs.Common.{◌≡◌, ℕ, suc, ◌<◌, ◌≤◌, Bool, true, false, List, [], ◌∷◌, ◌++◌, ℤ, pos, ◌+ℤ◌, ◌-ℤ◌, arith, refl, sym, ◌∙◌, ap, ◌⊎◌, inl, inr, ⊎_elim, subst, length}
use Rattle.std.specs.Prelude.{◌==◌, ◌&&◌, not, nat_le, nat_lt}
use Rattle.std.proofs.lemmas.Bool.{cases_eq, cases_Bool, both_ways, eqb-true, eq-eqb, ne_eqb, eqb-false, lt-ltb, le-leb, and_parts, not-true}
use borrow.Author.Differences.{ints}
use Rattle.proof_trees.specs.Program.{sum_to, where_set}
use Rattle.zero_one_rows.specs.declared.program.Row.TheVariants.{Flow}
use Rattle.zero_one_rows.specs.Variables.{Voyage, variables, var, kind, all_kinds}
use Rattle.model_bridge.proofs.Words.{loads_are, begun_from, container, kind_at, loads, begun}
use Rattle.zero_one_rows.specs.Rows.{coef, has, is_call, IsSolution, bit}
use Rattle.model_bridge.proofs.Sums.{same_sum, minus_sum, none_sum, no_term}
use Rattle.stow_data.proofs.Distinct.{Each}
use Rattle.model_bridge.proofs.Match.{total, total_append, same_total, many, picked, total_picked}
use Rattle.model_bridge.proofs.Calls.{Facts, IsPair, IsHeld, gone, leaves, freed, total_freed, flow_exists, flow_other}

bit_minus : (t a b : Bool) → where_set t (bit a -ℤ bit b) ≡ where_set t (bit a) -ℤ where_set t (bit b)
bit_minus true a b = refl
bit_minus false a b = refl

bit_turned : (t a b : Bool) → where_set t (pos 0 -ℤ (bit a -ℤ bit b)) ≡ where_set t (bit b) -ℤ where_set t (bit a)
bit_turned true a b = omega (arith, ints)
bit_turned false a b = refl

bit_and : (t a b : Bool) → where_set t (bit (a && b)) ≡ where_set (t && a) (bit b)
bit_and true true b = refl
bit_and true false b = refl
bit_and false a b = refl

zeros : (b : Bool) → where_set b (pos 0) ≡ pos 0
zeros true = refl
zeros false = refl

-- a variable that ends at the next call is there before it
ends_there : (put lifted i : ℕ) (t u : Bool) → put < lifted → where_set (t && (nat_le put i && nat_lt i lifted)) (where_set (lifted == suc i) (bit u)) ≡ where_set t (bit ((lifted == suc i) && u))
ends_there put lifted i true u l = go (cases_eq lifted (suc i))
  where
    go : (lifted ≡ suc i) ⊎ (lifted ≡ suc i → ⊥) → where_set (nat_le put i && nat_lt i lifted) (where_set (lifted == suc i) (bit u)) ≡ bit ((lifted == suc i) && u)
    go (inl e) = let a : nat_le put i ≡ true = le-leb put i (omega arith) in let b : nat_lt i lifted ≡ true = lt-ltb i lifted (omega arith) in let c : (lifted == suc i) ≡ true = eq-eqb lifted (suc i) e in rw (a, b, c) refl
    go (inr ne) = let c : (lifted == suc i) ≡ false = ne_eqb lifted (suc i) ne in rw c (zeros (nat_le put i && nat_lt i lifted))
ends_there put lifted i false u l = refl

module _ (m : Voyage) (x : ℕ → Bool) (facts : Facts m) (solution : IsSolution m x) (i : ℕ) (call : is_call m (suc i) ≡ true) (held : List (ℕ × ℕ)) (is : IsHeld m x i held) where
  abbrev n : ℕ
  n = length (variables m)

  abbrev pub put_here : ℕ → Bool
  put_here v = x v && ((var m v).put == suc i)

  abbrev pub new : List ℕ
  new = picked put_here n

  abbrev pub loading : List ℕ
  loading = picked (λ c. (container m c).load == suc i) (length m.cargo.containers)

  abbrev pub pool : List ℕ
  pool = freed m (suc i) held ++ loading

  -- puts and ends of a kind
  abbrev puts : ℕ → ℤ
  puts g = sum_to n (λ v. where_set (x v) (bit (((var m v).put == suc i) && ((var m v).kind == g))))

  abbrev lifts : ℕ → ℤ
  lifts g = sum_to n (λ v. where_set (x v) (bit (((var m v).lifted == suc i) && ((var m v).kind == g))))

  flows : (g : ℕ) → has m (Flow 0 (suc i) g) ≡ true → puts g -ℤ lifts g ≡ loads m (suc i) g
  flows g h =
      let low = solution (Flow 0 (suc i) g) h in
      let high = solution (Flow 1 (suc i) g) (flow_other m (suc i) g h).0 in
      let a = same_sum n (λ v. where_set (x v) (coef m (Flow 0 (suc i) g) (var m v))) (λ v. where_set (x v) (bit (((var m v).put == suc i) && ((var m v).kind == g))) -ℤ where_set (x v) (bit (((var m v).lifted == suc i) && ((var m v).kind == g)))) (λ v l. bit_minus (x v) _ _) in
      let b = same_sum n (λ v. where_set (x v) (coef m (Flow 1 (suc i) g) (var m v))) (λ v. where_set (x v) (bit (((var m v).lifted == suc i) && ((var m v).kind == g))) -ℤ where_set (x v) (bit (((var m v).put == suc i) && ((var m v).kind == g)))) (λ v l. bit_turned (x v) _ _) in
      let c = minus_sum n (λ v. where_set (x v) (bit (((var m v).put == suc i) && ((var m v).kind == g)))) (λ v. where_set (x v) (bit (((var m v).lifted == suc i) && ((var m v).kind == g)))) in
      let d = minus_sum n (λ v. where_set (x v) (bit (((var m v).lifted == suc i) && ((var m v).kind == g)))) (λ v. where_set (x v) (bit (((var m v).put == suc i) && ((var m v).kind == g)))) in
      omega (arith, ints, low, high, a, b, c, d, loads_are m (suc i) g)

  many_new : (g : ℕ) → many (λ v. (var m v).kind) g new ≡ puts g
  many_new g = total_picked put_here n (λ v. bit ((var m v).kind == g)) ∙ sym (same_sum n _ _ (λ v l. bit_and (x v) _ _))

  many_loading : (g : ℕ) → many (kind_at m) g loading ≡ loads m (suc i) g
  many_loading g = total_picked (λ c. (container m c).load == suc i) (length m.cargo.containers) (λ c. bit (kind_at m c == g)) ∙ sym (same_sum (length m.cargo.containers) _ _ (λ c l. bit_and true _ _))

  -- where the kind isn't past its destination, what is freed is what ends
  freed_term : (g : ℕ) → suc i < (kind m g).dest → (e : ℕ × ℕ) → IsPair m x i e → where_set (gone m (suc i) e.0 && not (leaves m (suc i) e.1)) (bit (kind_at m e.1 == g)) ≡ where_set (gone m (suc i) e.0) (bit ((var m e.0).kind == g))
  freed_term g before e p = go (cases_eq (kind_at m e.1) g)
    where
      neither : (b c : Bool) → where_set (b && c) (pos 0) ≡ where_set b (pos 0)
      neither true true = refl
      neither true false = refl
      neither false c = refl

      alone : (b c : Bool) (z : ℤ) → c ≡ true → where_set (b && c) z ≡ where_set b z
      alone true c z h = ap (λ (t : Bool). where_set t z) h
      alone false c z h = refl

      go : (kind_at m e.1 ≡ g) ⊎ (kind_at m e.1 ≡ g → ⊥) → where_set (gone m (suc i) e.0 && not (leaves m (suc i) e.1)) (bit (kind_at m e.1 == g)) ≡ where_set (gone m (suc i) e.0) (bit ((var m e.0).kind == g))
      go (inl k) =
          let d : (kind m g).dest ≡ (container m e.1).dest = sym (ap (λ (t : ℕ). (kind m t).dest) k) ∙ facts.dest_of e.1 p.box_known in
          let stays : leaves m (suc i) e.1 ≡ false = ne_eqb _ (suc i) (λ h. omega arith) in
          rw p.alike (alone (gone m (suc i) e.0) (not (leaves m (suc i) e.1)) (bit (kind_at m e.1 == g)) (ap not stays))
      go (inr ne) = let z : (kind_at m e.1 == g) ≡ false = ne_eqb _ g ne in rw (p.alike, z) (neither (gone m (suc i) e.0) (not (leaves m (suc i) e.1)))

  many_freed : (g : ℕ) → suc i < (kind m g).dest → many (kind_at m) g (freed m (suc i) held) ≡ lifts g
  many_freed g before =
      total_freed m (suc i) (λ c. bit (kind_at m c == g)) held
      ∙ (same_total (IsPair m x i) _ _ held is.each (freed_term g before)
      ∙ (is.vars (λ v. where_set (gone m (suc i) v) (bit ((var m v).kind == g)))
      ∙ same_sum n _ _ (λ v l. ends_there (var m v).put (var m v).lifted i (x v) ((var m v).kind == g) (facts.var_order v l))))

  -- where the row doesn't exist, nothing of the kind is put or freed
  never : (g : ℕ) → (has m (Flow 0 (suc i) g) ≡ true → ⊥) → (many (λ v. (var m v).kind) g new ≡ pos 0) × (many (kind_at m) g pool ≡ pos 0)
  never g none = (
    many_new g ∙ none_sum n _ (λ v l. no_term (x v) _ (λ one t. let both = and_parts ((var m v).put == suc i) ((var m v).kind == g) t in
        let e : (var m v).put ≡ suc i = eqb-true _ _ both.0 in let k : (var m v).kind ≡ g = eqb-true _ _ both.1 in
        none (flow_exists m 0 (suc i) g (omega arith) call
        (subst (λ (h : ℕ). h < length (all_kinds m)) k (facts.var_kind v l))
        (subst (λ (h : ℕ). begun m h (suc i) ≡ true) k (subst (λ (h : ℕ). begun m (var m v).kind h ≡ true) e (facts.var_begun v l (omega arith))))
        (subst (λ (h : ℕ). suc i < (kind m h).dest) k (let a = facts.var_order v l in let b = facts.var_dest v l in omega arith))))),
    total_append (λ c. bit (kind_at m c == g)) (freed m (suc i) held) loading ∙ both_none
        (total_freed m (suc i) (λ c. bit (kind_at m c == g)) held ∙ none_total held is.each)
        (many_loading g ∙ none_sum (length m.cargo.containers) _ (λ c l. no_term true _ (λ _ t. let both = and_parts ((container m c).load == suc i) (kind_at m c == g) t in
        let e : (container m c).load ≡ suc i = eqb-true _ _ both.0 in let a = facts.in_order c l in
        boxed c l (eqb-true _ _ both.1) (omega arith) (omega arith)))),
  )
    where
      both_none : {a b : ℤ} → a ≡ pos 0 → b ≡ pos 0 → a +ℤ b ≡ pos 0
      both_none h k = omega (arith, ints)

      boxed : (c : ℕ) → c < length m.cargo.containers → kind_at m c ≡ g → (container m c).load ≤ suc i → suc i < (container m c).dest → ⊥
      boxed c l k low before = none (flow_exists m 0 (suc i) g (omega arith) call
          (subst (λ (h : ℕ). h < length (all_kinds m)) k (facts.kind_known c l))
          (begun_from m c g (suc i) l k low)
          (let d : (kind m g).dest ≡ (container m c).dest = sym (ap (λ (t : ℕ). (kind m t).dest) k) ∙ facts.dest_of c l in omega arith))

      none_total : (es : List (ℕ × ℕ)) → Each (IsPair m x i) es → total (λ e. where_set (gone m (suc i) e.0 && not (leaves m (suc i) e.1)) (bit (kind_at m e.1 == g))) es ≡ pos 0
      none_total [] each = refl
      none_total (e ∷ es) each = both_none (no_term (gone m (suc i) e.0 && not (leaves m (suc i) e.1)) (kind_at m e.1 == g) (λ t k. let p = each.0 in
          let stays = not-true (leaves m (suc i) e.1) (and_parts (gone m (suc i) e.0) (not (leaves m (suc i) e.1)) t).1 in
          let other : (container m e.1).dest ≡ suc i → ⊥ = eqb-false _ _ stays in
          let low = p.load in let high = p.dest in
          boxed e.1 p.box_known (eqb-true _ _ k) (omega arith) (omega arith))) (none_total es each.1)

  -- as many of each kind
  pub balanced : (g : ℕ) → many (λ v. (var m v).kind) g new ≡ many (kind_at m) g pool
  balanced g = ⊎_elim
      (λ (h : has m (Flow 0 (suc i) g) ≡ true). let f = flows g h in let a = many_new g in let b = many_freed g (flow_other m (suc i) g h).1 in let c = many_loading g in let d = total_append (λ c. bit (kind_at m c == g)) (freed m (suc i) held) loading in omega (arith, ints, f, a, b, c, d))
      (λ (h : has m (Flow 0 (suc i) g) ≡ false). let r = never g (λ t. both_ways _ h t) in r.0 ∙ sym r.1)
      (cases_Bool (has m (Flow 0 (suc i) g)))
