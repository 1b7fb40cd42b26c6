-- Each filled place after a call is covered by one variable of the assignment.
use Rattle.std.proofs.Common.{◌≡◌, ℕ, zero, suc, ◌<◌, ◌≤◌, ◌+◌, ◌-◌, Bool, true, false, cond, [], ◌∷◌, arith, refl, sym, ◌∙◌, ap, ◌⊎◌, inl, inr, ⊎_elim, subst, length, Option, Some, None}
use Rattle.std.specs.Prelude.{slice_index_or, slice_get, ◌==◌, ◌&&◌, not, nat_le, nat_lt}
use Rattle.std.proofs.lemmas.Bool.{cases_Bool, both_ways, cases_eq, cases_lt, cases_order, and_parts, and_from, or_left, or_right, or_cases, eqb-true, eq-eqb, ltb-true, leb-true, lt-ltb, le-leb, not_from_false, not-true, true_from_ne_false, false_from_ne_true}
use Rattle.std.proofs.lemmas.Option.{none-some, same_Some, slice_get_within, slice_get-get_or, get_or_from_slice_get}
use Rattle.stow_data.specs.declared.cargoes.Container.{Container}
use Rattle.stow_data.specs.Ship.{places}
use Rattle.stow_data.specs.Plans.{Plan}
use Rattle.stowage_rules.specs.Plan.{Holds}
use Rattle.stowage_rules.specs.Plan.{Stands}
use Rattle.zero_one_rows.specs.declared.program.Var.{Var}
use Rattle.stow_data.specs.Kinds.{kind_of}
use Rattle.zero_one_rows.specs.Variables.{Voyage, variables, var, kind, place, arrived, is_var, calls}
use Rattle.model_bridge.proofs.Words.{container, kind_at, shown_kind, fits, begun, begun_from, any_below}
use Rattle.stow_data.specs.Plans.{no_container, no_place}
use Rattle.zero_one_rows.specs.Rows.{active, is_filled}
use Rattle.model_bridge.proofs.Stays.{kept, is_kind, passes, assigned, assignment}
use Rattle.model_bridge.proofs.Sums.{any_from, any_at}
use Rattle.zero_one_rows.proofs.VariableList.{var_listed, var_number, var_once}
use Rattle.model_bridge.specs.Laws.{IsProblem}
use Rattle.model_bridge.proofs.Stays.{IsSailed}
use Rattle.model_bridge.proofs.Known.{facts, some_of, some_of_is}
use Rattle.stow_data.proofs.Fitting.{fits_shown}
use Rattle.model_bridge.proofs.Carry.{IsCarried}

holds_or : (plan : Plan) (p c : ℕ) → Holds plan p c ⊎ (Holds plan p c → ⊥)
holds_or plan p c = go (slice_get plan p) refl
  where
    go : (o : Option (Option ℕ)) → slice_get plan p ≡ o → Holds plan p c ⊎ (Holds plan p c → ⊥)
    go None e = inr (λ h. none-some (Some c) (sym e ∙ h))
    go (Some None) e = inr (λ h. none-some c (same_Some None (Some c) (sym e ∙ h)))
    go (Some (Some d)) e = ⊎_elim (λ (s : d ≡ c). inl (e ∙ ap (λ (z : ℕ). Some (Some z)) s)) (λ (ne : d ≡ c → ⊥). inr (λ h. ne (same_Some d c (same_Some (Some d) (Some c) (sym e ∙ h))))) (cases_eq d c)

pub at_index : (xs : Plan) (p c : ℕ) → slice_index_or xs p None ≡ Some c → Holds xs p c
at_index [] p c h = absurd (none-some c h)
at_index (x ∷ xs) zero c h = ap (λ (o : Option ℕ). Some o) h
at_index (x ∷ xs) (suc p) c h = at_index xs p c h

pub filled_at : (o : Option ℕ) → is_filled o ≡ true → (c : ℕ) × (o ≡ Some c)
filled_at None h = absurd (both_ways false refl h)
filled_at (Some c) h = (c, refl)

kind_in : (m : Voyage) (plan : ℕ → Plan) (lift : ℕ → ℕ → Bool) (g : ℕ) (o : Option ℕ) → is_kind m plan lift g o ≡ true → (c : ℕ) × (o ≡ Some c) × (kind_at m c ≡ g)
kind_in m plan lift g None h = absurd (both_ways false refl h)
kind_in m plan lift g (Some c) h = (c, refl, eqb-true _ _ h)

one_held : (plan : Plan) (p c d : ℕ) → Holds plan p c → Holds plan p d → c ≡ d
one_held plan p c d h k = same_Some c d (same_Some (Some c) (Some d) (sym h ∙ k))

module _ (m : Voyage) (rules : IsProblem m) (plan : ℕ → Plan) (lift : ℕ → ℕ → Bool) (sailed : IsSailed m plan lift) where
  -- what is kept stands before and after the call
  keeps : (i p c : ℕ) → suc i < (calls m) → Holds (plan i) p c → kept m plan lift (suc i) p ≡ true → Holds (plan (suc i)) p c
  keeps i p c l h k = ⊎_elim (λ (y : Holds (plan (suc i)) p c). y)
      (λ (n : Holds (plan (suc i)) p c → ⊥). absurd (both_ways (lift (suc i) p) (not-true (lift (suc i) p) (and_parts (is_filled (slice_index_or (plan i) p None)) _ k).1) ((sailed.closed i l).changed p c h n)))
      (holds_or (plan (suc i)) p c)

  kept_before : (i p c : ℕ) → suc i < (calls m) → Holds (plan (suc i)) p c → kept m plan lift (suc i) p ≡ true → Holds (plan i) p c
  kept_before i p c l h k =
      let f = filled_at (slice_index_or (plan i) p None) (and_parts (is_filled (slice_index_or (plan i) p None)) _ k).0 in
      let d = at_index (plan i) p f.0 f.1 in
      subst (λ (z : ℕ). Holds (plan i) p z) (one_held (plan (suc i)) p f.0 c (keeps i p f.0 l d k) h) d

  -- back to where it was put
  pub record IsBack (i p c : ℕ) : Type 0 where
    pub put : ℕ
    pub early : put ≤ i
    pub not_kept : kept m plan lift put p ≡ false
    pub all_kept : (j : ℕ) → put < j → j ≤ i → kept m plan lift j p ≡ true
    pub there : Holds (plan put) p c

  back : (i p c : ℕ) → i < (calls m) → Holds (plan i) p c → IsBack i p c
  back zero p c l h = record { put = 0; early = omega arith; not_kept = refl; all_kept = λ j a b. absurd (omega arith); there = h }
  back (suc i) p c l h = ⊎_elim
      (λ (k : kept m plan lift (suc i) p ≡ true).
      let r = back i p c (omega arith) (kept_before i p c l h k) in
      record {
        put = r.put;
        early = let e = r.early in omega arith;
        not_kept = r.not_kept;
        all_kept = λ j a b. ⊎_elim (λ (e : j ≡ suc i). subst (λ (z : ℕ). kept m plan lift z p ≡ true) (sym e) k) (λ (ne : j ≡ suc i → ⊥). r.all_kept j a (omega arith)) (cases_eq j (suc i));
        there = r.there;
      })
      (λ (k : kept m plan lift (suc i) p ≡ false). record { put = suc i; early = omega arith; not_kept = k; all_kept = λ j a b. absurd (omega arith); there = h })
      (cases_Bool (kept m plan lift (suc i) p))

  -- on to where it is lifted
  pub record IsOn (i p c : ℕ) : Type 0 where
    pub lifted : ℕ
    pub late : i < lifted
    pub within : lifted ≤ (calls m)
    pub before_dest : lifted ≤ (container m c).dest
    pub ends : (lifted ≡ (calls m)) ⊎ (kept m plan lift lifted p ≡ false)
    pub all_kept : (j : ℕ) → i < j → j < lifted → kept m plan lift j p ≡ true

  pub aboard_at : (i p c : ℕ) → i < (calls m) → Holds (plan i) p c → (c < length m.cargo.containers) × ((container m c).load ≤ i) × (i < (container m c).dest)
  aboard_at i p c l h =
      let k = (sailed.stowed i l).well_formed.known p c h in
      let box : container m c ≡ k.0 = get_or_from_slice_get m.cargo.containers c k.0 no_container k.1 in
      let a = ((sailed.stowed i l).aboard c k.0 k.1).0 (p, h) in
      (slice_get_within m.cargo.containers c k.0 k.1, subst (λ (z : Container). z.load ≤ i) (sym box) a.loaded, subst (λ (z : Container). i < z.dest) (sym box) a.stays)

  on : (n i p c : ℕ) → i + suc n ≡ (calls m) → Holds (plan i) p c → IsOn i p c
  on zero i p c e h = let a = (aboard_at i p c (omega arith) h).2 in record { lifted = suc i; late = omega arith; within = omega arith; before_dest = omega arith; ends = inl (omega arith); all_kept = λ j x y. absurd (omega arith) }
  on (suc n) i p c e h = ⊎_elim
      (λ (k : kept m plan lift (suc i) p ≡ true).
      let r = on n (suc i) p c (omega arith) (keeps i p c (omega arith) h k) in
      record {
        lifted = r.lifted;
        late = let b = r.late in omega arith;
        within = r.within;
        before_dest = r.before_dest;
        ends = r.ends;
        all_kept = λ j a b. ⊎_elim (λ (e : j ≡ suc i). subst (λ (z : ℕ). kept m plan lift z p ≡ true) (sym e) k) (λ (ne : j ≡ suc i → ⊥). r.all_kept j (omega arith) b) (cases_eq j (suc i));
      })
      (λ (k : kept m plan lift (suc i) p ≡ false). let a = (aboard_at i p c (omega arith) h).2 in record { lifted = suc i; late = omega arith; within = omega arith; before_dest = omega arith; ends = inr k; all_kept = λ j a b. absurd (omega arith) })
      (cases_Bool (kept m plan lift (suc i) p))

  passes_from : (i v p : ℕ) → ((j : ℕ) → i < j → j < v → kept m plan lift j p ≡ true) → passes m plan lift i v p ≡ true
  passes_from i v p h = not_from_false _ (false_from_ne_true _ (λ t. let r = any_at v _ t in let b = and_parts (nat_lt i r.0) _ r.2 in
      both_ways (kept m plan lift r.0 p) (not-true _ b.1) (h r.0 (ltb-true _ _ b.0) r.1)))

  passes_at : (i v p : ℕ) → passes m plan lift i v p ≡ true → (j : ℕ) → i < j → j < v → kept m plan lift j p ≡ true
  passes_at i v p h j a b = true_from_ne_false _ (λ k. both_ways (any_below v (λ j. nat_lt i j && not (kept m plan lift j p))) (not-true _ h) (any_from v _ j b (and_from _ _ (lt-ltb i j a) (not_from_false _ k))))

  -- what a variable that is 1 says
  pub record IsRun (x : Var) : Type 0 where
    pub box : ℕ
    pub there : Holds (plan x.put) x.place box
    pub alike : kind_at m box ≡ x.kind
    pub not_kept : kept m plan lift x.put x.place ≡ false
    pub all_kept : (j : ℕ) → x.put < j → j < x.lifted → kept m plan lift j x.place ≡ true
    pub ends : (x.lifted ≡ (calls m)) ⊎ (kept m plan lift x.lifted x.place ≡ false)

  pub run_of : (x : Var) → assigned m plan lift x ≡ true → IsRun x
  run_of x h =
      let a = and_parts (is_kind m plan lift x.kind (slice_index_or (plan x.put) x.place None)) _ h in
      let b = and_parts (not (kept m plan lift x.put x.place)) _ a.1 in
      let c = and_parts (passes m plan lift x.put x.lifted x.place) _ b.1 in
      let k = kind_in m plan lift x.kind _ a.0 in
      record {
        box = k.0;
        there = at_index (plan x.put) x.place k.0 k.1;
        alike = k.2;
        not_kept = not-true _ b.0;
        all_kept = passes_at x.put x.lifted x.place c.0;
        ends = ⊎_elim (λ (e : (x.lifted == (calls m)) ≡ true). inl (eqb-true _ _ e)) (λ (e : not (kept m plan lift x.lifted x.place) ≡ true). inr (not-true _ e)) (or_cases _ _ c.1);
      }

  is_kind_true : (g c : ℕ) (o : Option ℕ) → o ≡ Some c → kind_at m c ≡ g → is_kind m plan lift g o ≡ true
  is_kind_true g c None e k = absurd (none-some c e)
  is_kind_true g c (Some d) e k = eq-eqb _ g (ap (kind_at m) (same_Some d c e) ∙ k)

  pub of_run : (x : Var) → IsRun x → assigned m plan lift x ≡ true
  of_run x r = and_from _ _ (is_kind_true x.kind r.box (slice_index_or (plan x.put) x.place None) (get_or_from_slice_get (plan x.put) x.place (Some r.box) None r.there) r.alike)
      (and_from _ _ (not_from_false _ r.not_kept) (and_from _ _ (passes_from x.put x.lifted x.place r.all_kept)
      (⊎_elim (λ (e : x.lifted ≡ (calls m)). or_left _ _ (eq-eqb _ _ e)) (λ (e : kept m plan lift x.lifted x.place ≡ false). or_right _ _ (not_from_false _ e)) r.ends)))

  -- forward from where it was put
  forward : (n s p c : ℕ) → s + n < (calls m) → Holds (plan s) p c → ((j : ℕ) → s < j → j ≤ s + n → kept m plan lift j p ≡ true) → Holds (plan (s + n)) p c
  forward zero s p c l h k = let e : s ≡ s + 0 = omega arith in subst (λ (z : ℕ). Holds (plan z) p c) e h
  forward (suc n) s p c l h k =
      let r = forward n s p c (omega arith) h (λ j a b. k j a (omega arith)) in
      let e : suc (s + n) ≡ s + suc n = omega arith in
      subst (λ (z : ℕ). Holds (plan z) p c) e (keeps (s + n) p c (omega arith) r (k (suc (s + n)) (omega arith) (omega arith)))

  -- after any call of its run
  pub run_holds : (x : Var) (r : IsRun x) (i : ℕ) → x.put ≤ i → i < x.lifted → i < (calls m) → Holds (plan i) x.place r.box
  run_holds x r i a b l = let e : x.put + (i - x.put) ≡ i = omega arith in
      subst (λ (z : ℕ). Holds (plan z) x.place r.box) e (forward (i - x.put) x.put x.place r.box (omega arith) r.there (λ j y z. r.all_kept j y (omega arith)))

  -- two runs at one place over one call are one
  one_run : (x y : Var) → IsRun x → IsRun y → x.place ≡ y.place → (i : ℕ) → x.put ≤ i → y.put ≤ i → i < x.lifted → i < y.lifted → i < (calls m) → x.lifted ≤ (calls m) → y.lifted ≤ (calls m) → x ≡ y
  one_run x y r s same i a b c d l u v =
      let put : x.put ≡ y.put = ⊎_elim (λ (e : x.put ≡ y.put). e) (λ (o : (x.put < y.put) ⊎ (y.put < x.put)). ⊎_elim
      (λ (k : x.put < y.put). absurd (both_ways (kept m plan lift y.put y.place) s.not_kept (subst (λ (p : ℕ). kept m plan lift y.put p ≡ true) same (r.all_kept y.put k (omega arith)))))
      (λ (k : y.put < x.put). absurd (both_ways (kept m plan lift x.put x.place) r.not_kept (subst (λ (p : ℕ). kept m plan lift x.put p ≡ true) (sym same) (s.all_kept x.put k (omega arith))))) o) (cases_order x.put y.put) in
      let lifted : x.lifted ≡ y.lifted = ⊎_elim (λ (e : x.lifted ≡ y.lifted). e) (λ (o : (x.lifted < y.lifted) ⊎ (y.lifted < x.lifted)). ⊎_elim
      (λ (k : x.lifted < y.lifted). absurd (⊎_elim (λ (e : x.lifted ≡ (calls m)). omega arith) (λ (n : kept m plan lift x.lifted x.place ≡ false). both_ways (kept m plan lift x.lifted x.place) n (subst (λ (p : ℕ). kept m plan lift x.lifted p ≡ true) (sym same) (s.all_kept x.lifted (omega arith) k))) r.ends))
      (λ (k : y.lifted < x.lifted). absurd (⊎_elim (λ (e : y.lifted ≡ (calls m)). omega arith) (λ (n : kept m plan lift y.lifted y.place ≡ false). both_ways (kept m plan lift y.lifted y.place) n (subst (λ (p : ℕ). kept m plan lift y.lifted p ≡ true) same (r.all_kept y.lifted (omega arith) k))) s.ends)) o) (cases_order x.lifted y.lifted) in
      let box : r.box ≡ s.box = one_held (plan i) y.place r.box s.box (subst (λ (p : ℕ). Holds (plan i) p r.box) same (run_holds x r i a c l)) (run_holds y s i b d l) in
      let kinds : x.kind ≡ y.kind = sym r.alike ∙ (ap (kind_at m) box ∙ s.alike) in
      ap (λ (z : ℕ). record { put = z; kind = x.kind; lifted = x.lifted; place = x.place }) put
      ∙ (ap (λ (z : ℕ). record { put = y.put; kind = z; lifted = x.lifted; place = x.place }) kinds
      ∙ (ap (λ (z : ℕ). record { put = y.put; kind = y.kind; lifted = z; place = x.place }) lifted
      ∙ ap (λ (z : ℕ). record { put = y.put; kind = y.kind; lifted = y.lifted; place = z }) same))

  stowed_fits : (i p c : ℕ) → i < (calls m) → Holds (plan i) p c → (p < length (places m.ship)) × (fits (place m p) (shown_kind m c) ≡ true)
  stowed_fits i p c l h =
      let st = sailed.stowed i l in
      let low : p < length (places m.ship) = (let a = slice_get_within (plan i) p (Some c) h in let b = st.well_formed.each_place in omega arith) in
      let k = st.well_formed.known p c h in
      let box : container m c ≡ k.0 = get_or_from_slice_get m.cargo.containers c k.0 no_container k.1 in
      let s : Stands m.ship m.cargo (plan i) p c (place m p) k.0 = record { is_place = slice_get-get_or (places m.ship) p no_place low; holds = h; is_container = k.1 } in (
        low,
        ap (λ (z : Container). fits (place m p) (kind_of m.ship.weight_step z)) box
            ∙ fits_shown (place m p) k.0.long k.0.reefer (record { length_fits = st.well_formed.fits p c (place m p) k.0 s; has_plug = st.plugged p c (place m p) k.0 s }),
      )

  cond_in : (b x y : Bool) → (b ≡ true → x ≡ true) → (b ≡ false → y ≡ true) → cond b x y ≡ true
  cond_in true x y f g = f refl
  cond_in false x y f g = g refl

  -- the variable of a filled place
  covered : (i p c : ℕ) → i < (calls m) → Holds (plan i) p c → (v : ℕ) × (v < length (variables m)) × IsRun (var m v) × ((var m v).put ≤ i) × (i < (var m v).lifted) × ((var m v).place ≡ p) × ((var m v).kind ≡ kind_at m c)
  covered i p c l h =
      let b = back i p c l h in
      let o = on ((calls m) - i - 1) i p c (omega arith) h in
      let early = b.early in let late = o.late in let inside = o.within in let due = o.before_dest in
      let x : Var = record { put = b.put; kind = kind_at m c; lifted = o.lifted; place = p } in
      let f = facts m rules in
      let a = aboard_at b.put p c (omega arith) b.there in
      let fit = stowed_fits b.put p c (omega arith) b.there in
      let good : is_var m x ≡ true = and_from _ _ (lt-ltb b.put o.lifted (omega arith)) (and_from _ _ (le-leb o.lifted _ (let d = f.dest_of c a.0 in omega arith))
      (cond_in (b.put == 0) (arrived m (kind_at m c) p) (begun m (kind_at m c) b.put && fits (place m p) (kind m (kind_at m c)))
      (λ z. let e : slice_index_or m.cargo.arrival p None ≡ Some c = get_or_from_slice_get m.cargo.arrival p (Some c) None (subst (λ (q : Plan). Holds q p c) sailed.first (subst (λ (q : ℕ). Holds (plan q) p c) (eqb-true _ _ z) b.there)) in rw e (eq-eqb (kind_at m c) (kind_at m c) refl))
      (λ z. and_from _ _ (begun_from m c (kind_at m c) b.put a.0 refl a.1) (ap (fits (place m p)) (f.kind_is c a.0) ∙ fit.1)))) in
      let v = var_number m x good (record { put = omega arith; kind = f.kind_known c a.0; lifted = inside; place = fit.0 }) in
      let run : IsRun x = record {
        box = c;
        there = b.there;
        alike = refl;
        not_kept = b.not_kept;
        all_kept = λ j s t. ⊎_elim (λ (k : i < j). o.all_kept j k t) (λ (k : j ≤ i). b.all_kept j s k) (cases_lt i j);
        ends = o.ends;
      } in
      (v.0, v.1, subst IsRun (sym v.2) run, subst (λ (z : Var). z.put ≤ i) (sym v.2) early, subst (λ (z : Var). i < z.lifted) (sym v.2) late, ap (λ (z : Var). z.place) v.2, ap (λ (z : Var). z.kind) v.2)

  abbrev pub covering : ℕ → ℕ → ℕ → Bool
  covering i p v = assignment m plan lift v && (((var m v).place == p) && active i (var m v))

  abbrev pub chosen : ℕ → ℕ → ℕ
  chosen i p = some_of (covering i p) (length (variables m))

  chosen_is : (i p c : ℕ) → i < (calls m) → Holds (plan i) p c → (chosen i p < length (variables m)) × (covering i p (chosen i p) ≡ true)
  chosen_is i p c l h = let v = covered i p c l h in some_of_is (covering i p) (length (variables m)) v.0 v.1
      (and_from _ _ (of_run (var m v.0) v.2) (and_from _ _ (eq-eqb _ p v.5) (and_from _ _ (le-leb _ i v.3) (lt-ltb i _ v.4))))

  pub record IsCovering (i p v : ℕ) : Type 0 where
    pub run : IsRun (var m v)
    pub put : (var m v).put ≤ i
    pub lifted : i < (var m v).lifted
    pub there : (var m v).place ≡ p

  covering_at : (i p v : ℕ) → covering i p v ≡ true → IsCovering i p v
  covering_at i p v h = let a = and_parts (assignment m plan lift v) _ h in let b = and_parts ((var m v).place == p) _ a.1 in let c = and_parts (nat_le (var m v).put i) _ b.1 in
      record { run = run_of (var m v) a.0; put = leb-true _ _ c.0; lifted = ltb-true _ _ c.1; there = eqb-true _ _ b.0 }

  pub carried : (i : ℕ) → i < (calls m) → IsCarried m (assignment m plan lift) i (plan i) (chosen i)
  carried i l = record {
    known = λ p c h. (chosen_is i p c l h).0;
    is_one = λ p c h. (and_parts (assignment m plan lift (chosen i p)) _ (chosen_is i p c l h).1).0;
    put = λ p c h. (covering_at i p (chosen i p) (chosen_is i p c l h).1).put;
    lifted = λ p c h. (covering_at i p (chosen i p) (chosen_is i p c l h).1).lifted;
    there = λ p c h. (covering_at i p (chosen i p) (chosen_is i p c l h).1).there;
    alike = λ p c h. let k = covering_at i p (chosen i p) (chosen_is i p c l h).1 in
        sym k.run.alike ∙ ap (kind_at m) (one_held (plan i) p k.run.box c (subst (λ (z : ℕ). Holds (plan i) z k.run.box) k.there (run_holds (var m (chosen i p)) k.run i k.put k.lifted l)) h);
    no_other = λ v low one put lifted.
        let r = run_of (var m v) one in
        let h = run_holds (var m v) r i put lifted l in
        let k = covering_at i (var m v).place (chosen i (var m v).place) (chosen_is i (var m v).place r.box l h).1 in
        let n = (chosen_is i (var m v).place r.box l h).0 in (
          r.box,
          h,
          var_once m (chosen i (var m v).place) v n low
              (one_run (var m (chosen i (var m v).place)) (var m v) k.run r k.there i k.put put k.lifted lifted l (var_listed m (chosen i (var m v).place) n).1.lifted (var_listed m v low).1.lifted),
        );
  }
