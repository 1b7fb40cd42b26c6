-- The call at which a stay began tells which variables are 1.
use Rattle.std.proofs.Common.{◌≡◌, ℕ, zero, suc, ◌<◌, ◌≤◌, ◌+◌, ◌-◌, Bool, true, false, cond, arith, refl, sym, ◌∙◌, ap, subst, None}
use Rattle.std.specs.Prelude.{◌==◌, ◌&&◌, ◌||◌, not, nat_lt, slice_index_or}
use Rattle.std.proofs.lemmas.Bool.{eq-eqb, ne_eqb, lt-ltb, le-ltb, false≢true}
use Rattle.stow_data.specs.Plans.{Plan}
use Rattle.zero_one_rows.specs.declared.program.Var.{Var}
use Rattle.zero_one_rows.specs.Variables.{Voyage, calls}
use Rattle.model_bridge.proofs.Words.{any_below}
use Rattle.model_bridge.proofs.Stays.{kept, is_kind, passes, assigned}

-- a test at one of two numbers
cond_at : (k t u : Bool) (a b put : ℕ) → (k ≡ true → (a == put) ≡ t) → (k ≡ false → (b == put) ≡ u) → (cond k a b == put) ≡ cond k t u
cond_at true t u a b put f g = f refl
cond_at false t u a b put f g = g refl

-- one more call: passed where it is kept
more : (k u w a : Bool) → w ≡ true → cond k (u && not a) false ≡ (u && not ((w && not k) || a))
more true u true a h = refl
more false true true a h = refl
more false false true a h = refl
more k u false a h = absurd (false≢true h)

together : (a b c : Bool) → (a && (b && c)) ≡ ((a && b) && c)
together true b c = refl
together false b c = refl

turned : (a b c : Bool) → (a && (b && c)) ≡ ((b && c) && a)
turned true true true = refl
turned true true false = refl
turned true false c = refl
turned false true true = refl
turned false true false = refl
turned false false c = refl

module _ (m : Voyage) (plan : ℕ → Plan) (lift : ℕ → ℕ → Bool) where
  -- the call at which the stay at a place began
  abbrev pub begun : ℕ → ℕ → ℕ
  begun zero p = zero
  begun (suc i) p = cond (kept m plan lift (suc i) p) (begun i p) (suc i)

  cond_low : (k : Bool) (a i : ℕ) → a ≤ i → cond k a (suc i) ≤ suc i
  cond_low true a i l = omega arith
  cond_low false a i l = omega arith

  begun_low : (i p : ℕ) → begun i p ≤ i
  begun_low zero p = omega arith
  begun_low (suc i) p = cond_low (kept m plan lift (suc i) p) (begun i p) i (begun_low i p)

  cond_not : (k : Bool) → cond k false true ≡ not k
  cond_not true = refl
  cond_not false = refl

  -- it begins at a call where nothing is kept there
  begun_here : (i p : ℕ) → (begun i p == i) ≡ not (kept m plan lift i p)
  begun_here zero p = refl
  begun_here (suc i) p =
      cond_at (kept m plan lift (suc i) p) false true (begun i p) (suc i) (suc i) (λ h. ne_eqb (begun i p) (suc i) (λ e. let l = begun_low i p in omega arith)) (λ h. eq-eqb (suc i) (suc i) refl)
      ∙ cond_not (kept m plan lift (suc i) p)

  none_early : (i v p : ℕ) → v ≤ suc i → any_below v (λ j. nat_lt i j && not (kept m plan lift j p)) ≡ false
  none_early i zero p l = refl
  none_early i (suc v) p l =
      ap (λ (b : Bool). (b && not (kept m plan lift v p)) || any_below v (λ j. nat_lt i j && not (kept m plan lift j p))) (le-ltb i v (omega arith))
      ∙ none_early i v p (omega arith)

  no_calls : (i p : ℕ) → passes m plan lift i (suc i) p ≡ true
  no_calls i p = ap not (none_early i (suc i) p (omega arith))

  and_true : (a : Bool) → (a && true) ≡ a
  and_true true = refl
  and_true false = refl

  begun_after : (n put p : ℕ) → (begun (put + n) p == put) ≡ (not (kept m plan lift put p) && passes m plan lift put (suc (put + n)) p)
  begun_after zero put p =
      let e : put + 0 ≡ put = omega arith in
      subst (λ (z : ℕ). (begun z p == put) ≡ (not (kept m plan lift put p) && passes m plan lift put (suc z) p)) (sym e)
      (begun_here put p ∙ sym (ap (λ (b : Bool). not (kept m plan lift put p) && b) (no_calls put p) ∙ and_true (not (kept m plan lift put p))))
  begun_after (suc n) put p =
      let e : put + suc n ≡ suc (put + n) = omega arith in
      subst (λ (z : ℕ). (begun z p == put) ≡ (not (kept m plan lift put p) && passes m plan lift put (suc z) p)) (sym e)
      (cond_at (kept m plan lift (suc (put + n)) p) (not (kept m plan lift put p) && passes m plan lift put (suc (put + n)) p) false (begun (put + n) p) (suc (put + n)) put
      (λ h. begun_after n put p) (λ h. ne_eqb (suc (put + n)) put (λ e. omega arith))
      ∙ more (kept m plan lift (suc (put + n)) p) (not (kept m plan lift put p)) (nat_lt put (suc (put + n))) (any_below (suc (put + n)) (λ j. nat_lt put j && not (kept m plan lift j p))) (lt-ltb put (suc (put + n)) (omega arith)))

  -- the run of a variable, by where stays began
  abbrev pub begins_run : Var → Bool
  begins_run x = (begun (x.lifted - 1) x.place == x.put) && ((x.lifted == calls m) || (begun x.lifted x.place == x.lifted))

  pub assigned_is : (x : Var) → x.put < x.lifted → assigned m plan lift x ≡ (begins_run x && is_kind m plan lift x.kind (slice_index_or (plan x.put) x.place None))
  assigned_is x order =
      let n : ℕ = x.lifted - 1 - x.put in
      let last : x.put + n ≡ x.lifted - 1 = omega arith in
      let end : suc (x.lifted - 1) ≡ x.lifted = omega arith in
      let began : (begun (x.lifted - 1) x.place == x.put) ≡ (not (kept m plan lift x.put x.place) && passes m plan lift x.put x.lifted x.place) =
      subst (λ (z : ℕ). (begun (x.lifted - 1) x.place == x.put) ≡ (not (kept m plan lift x.put x.place) && passes m plan lift x.put z x.place)) end
      (subst (λ (z : ℕ). (begun z x.place == x.put) ≡ (not (kept m plan lift x.put x.place) && passes m plan lift x.put (suc z) x.place)) last (begun_after n x.put x.place)) in
      let of_kind : Bool = is_kind m plan lift x.kind (slice_index_or (plan x.put) x.place None) in
      let rest : Bool = (x.lifted == calls m) || not (kept m plan lift x.lifted x.place) in
      ap (λ (b : Bool). of_kind && b) (together (not (kept m plan lift x.put x.place)) (passes m plan lift x.put x.lifted x.place) rest)
      ∙ turned of_kind (not (kept m plan lift x.put x.place) && passes m plan lift x.put x.lifted x.place) rest
      ∙ ap (λ (b : Bool). (b && rest) && of_kind) (sym began)
      ∙ ap (λ (b : Bool). ((begun (x.lifted - 1) x.place == x.put) && ((x.lifted == calls m) || b)) && of_kind) (sym (begun_here x.lifted x.place))
