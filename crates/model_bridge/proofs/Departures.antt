-- The plan of the pairs after a call, by the rows of that call.
use Rattle.std.proofs.Common.{◌≡◌, ℕ, ◌<◌, ◌≤◌, ◌+◌, ◌-◌, Bool, true, false, List, ◌-ℤ◌, arith, refl, sym, ◌∙◌, ap, ⊎_elim, subst, length, Some}
use Rattle.std.specs.Prelude.{◌==◌, ◌&&◌, not, nat_le, slice_get}
use Rattle.std.proofs.lemmas.Bool.{cases_eq, both_ways, lt-ltb, le-leb, and_parts, and_from, ltb-true, leb-true, or_cases, not-true}
use Rattle.std.proofs.lemmas.Option.{same_Some, slice_get_within, slice_get-get_or, get_or_from_slice_get}
use borrow.Author.Differences.{ints}
use Rattle.proof_trees.specs.Program.{where_set}
use Rattle.stow_data.specs.declared.geometry.Length.{Length}
use Rattle.stow_data.specs.declared.geometry.Length.TheVariants as long_of
use Rattle.stow_data.specs.declared.cargoes.Container.{Container}
use Rattle.stow_data.specs.declared.geometry.Place.{Place}
use Rattle.stow_data.specs.declared.geometry.Half.{Half}
use Rattle.stow_data.specs.Ship.{places, halves}
use Rattle.stow_data.specs.Plans.{Plan}
use Rattle.stowage_rules.specs.Plan.{Holds}
use Rattle.stowage_rules.specs.Plan.{Fills}
use Rattle.stowage_rules.specs.Plan.{IsWellFormed}
use Rattle.stowage_rules.specs.Departure.{IsSupported}
use Rattle.stowage_rules.specs.Departure.{IsTwentyOnTwenty}
use Rattle.stowage_rules.specs.Departure.{IsPlugged}
use Rattle.stowage_rules.specs.Plan.{Stands}
use Rattle.stowage_rules.specs.Departure.{IsStowed}
use Rattle.stow_data.specs.declared.kind_list.Kind.{Kind}
use Rattle.zero_one_rows.specs.declared.program.Row.TheVariants.{Cell, Support, Twenty}
use Rattle.model_bridge.proofs.Words.{shown_kind}
use Rattle.stow_data.specs.Kinds.{kind_of}
use Rattle.crossing_law.proofs.KindFacts.{same_length_is}
use Rattle.zero_one_rows.specs.Variables.{Voyage, variables, var, kind, place}
use Rattle.model_bridge.proofs.Words.{container, fits, at_half}
use Rattle.stow_data.proofs.Fitting.{fits_said}
use Rattle.zero_one_rows.specs.Rows.{active, half, covers, below, occ, occ20, is_twenty, is_call, IsSolution, bit, less}
use Rattle.stow_data.specs.Plans.{no_half, no_place, no_container}
use Rattle.model_bridge.proofs.Sums.{found, below_one, below_two}
use Rattle.stow_data.proofs.Distinct.{Each}
use Rattle.model_bridge.proofs.Calls.{Facts, IsPair, aboard, IsHeld}
use Rattle.stow_data.proofs.Members.{Member}
use Rattle.stow_data.proofs.Distinct.{each_at, each_from}
use Rattle.model_bridge.proofs.Members.{Differ, differ_more, differ_at, differ_from, member_often, one_number, plan_from, length_plan, plan_holds, plan_shows}
use Rattle.model_bridge.proofs.Halves.{covers_true, covers_from, some_side, less_low, less_is, gap_low, gap_is, counts_one}

-- the place of a pair
abbrev pub spot : Voyage → ℕ × ℕ → ℕ
spot m e = (var m e.0).place

-- the plan shows the pairs
pub record Shows (m : Voyage) (held : List (ℕ × ℕ)) (plan : Plan) : Type 0 where
  pub each_place : length plan ≡ length (places m.ship)
  pub from_plan : (p c : ℕ) → Holds plan p c → (e : ℕ × ℕ) × Member e held × (spot m e ≡ p) × (e.1 ≡ c)
  pub to_plan : (e : ℕ × ℕ) → Member e held → Holds plan (spot m e) e.1

-- a pair fills a half-cell
abbrev pub on_half : Voyage → ℕ × ℕ → Half → Bool
on_half m e h = covers (place m (spot m e)) h

module _ (m : Voyage) (x : ℕ → Bool) (facts : Facts m) (i : ℕ) (held : List (ℕ × ℕ)) (is : IsHeld m x i held) where
  pub pair : (e : ℕ × ℕ) → Member e held → IsPair m x i e
  pair e h = each_at (IsPair m x i) held e is.each h

  pub spot_is : (e : ℕ × ℕ) → Member e held → slice_get (places m.ship) (spot m e) ≡ Some (place m (spot m e))
  spot_is e h = slice_get-get_or (places m.ship) (spot m e) no_place (facts.var_place e.0 (pair e h).var_known)

  -- each variable and each container once
  pub vars_differ : Differ (λ (e : ℕ × ℕ). e.0) held
  vars_differ = differ_from _ held (λ a. let h = is.vars (λ v. bit (v == a)) in let k = one_number (length (variables m)) (λ v. x v && active i (var m v)) a in omega (arith, ints))

  pub boxes_differ : Differ (λ (e : ℕ × ℕ). e.1) held
  boxes_differ = differ_from _ held (λ a. let h = is.boxes (λ c. bit (c == a)) in let k = one_number (length m.cargo.containers) (aboard m i) a in omega (arith, ints))

  -- a variable that is 1 and there has its pair, and a container aboard
  pub var_pair : (v : ℕ) → v < length (variables m) → x v ≡ true → (var m v).put ≤ i → i < (var m v).lifted → (e : ℕ × ℕ) × Member e held × (e.0 ≡ v)
  var_pair v l one put lifted = member_often (λ (e : ℕ × ℕ). e.0) v held
      (let h = is.vars (λ w. bit (w == v)) in let k = counts_one (length (variables m)) (λ v. x v && active i (var m v)) v l (and_from (x v) (active i (var m v)) one (and_from _ _ (le-leb _ i put) (lt-ltb i _ lifted))) in omega (arith, ints))

  pub box_pair : (c : ℕ) → c < length m.cargo.containers → (container m c).load ≤ i → i < (container m c).dest → (e : ℕ × ℕ) × Member e held × (e.1 ≡ c)
  box_pair c l load dest = member_often (λ (e : ℕ × ℕ). e.1) c held
      (let h = is.boxes (λ w. bit (w == c)) in let k = counts_one (length m.cargo.containers) (aboard m i) c l (and_from _ _ (le-leb _ i load) (lt-ltb i _ dest)) in omega (arith, ints))

  module _ (plan : Plan) (shows : Shows m held plan) where
    pub fills_pair : (h : Half) (c : ℕ) (f : Fills m.ship plan h c) → (e : ℕ × ℕ) × Member e held × (on_half m e h ≡ true) × (e.1 ≡ c) × (spot m e ≡ f.number)
    fills_pair h c f =
        let r = shows.from_plan f.number c f.holds in
        let same : place m (spot m r.0) ≡ f.place = ap (place m) r.2 ∙ get_or_from_slice_get (places m.ship) f.number f.place no_place f.is_place in
        (r.0, r.1, ap (λ (p : Place). covers p h) same ∙ covers_true f.place h f.has_half, r.3, r.2)

    abbrev pub pair_fills : (e : ℕ × ℕ) (h : Half) → Member e held → on_half m e h ≡ true → Fills m.ship plan h e.1
    pair_fills e h n t = record { number = spot m e; place = place m (spot m e); is_place = spot_is e n; has_half = covers_from (place m (spot m e)) h t; holds = shows.to_plan e n }

  -- the number of a pair's half-cell
  pub half_number : (e : ℕ × ℕ) (h : Half) → Member e held → on_half m e h ≡ true → (k : ℕ) × (k < length (halves m.ship)) × (half m k ≡ h)
  half_number e h n t = let r = facts.half_known (spot m e) (place m (spot m e)) h (spot_is e n) (covers_from (place m (spot m e)) h t) in
      (r.0, slice_get_within (halves m.ship) r.0 h r.1, get_or_from_slice_get (halves m.ship) r.0 h no_half r.1)

  occ_true : (e : ℕ × ℕ) (h : Half) → Member e held → on_half m e h ≡ true → occ m i h (var m e.0) ≡ true
  occ_true e h n t = let p = pair e n in and_from _ _ t (and_from _ _ (le-leb _ i p.put) (lt-ltb i _ p.lifted))

  -- the kind of a pair's variable is its container's
  pub kind_same : (e : ℕ × ℕ) → Member e held → kind m (var m e.0).kind ≡ shown_kind m e.1
  kind_same e h = ap (kind m) (pair e h).alike ∙ facts.kind_is e.1 (pair e h).box_known

  pub box_is : (e : ℕ × ℕ) → Member e held → slice_get m.cargo.containers e.1 ≡ Some (container m e.1)
  box_is e h = slice_get-get_or m.cargo.containers e.1 no_container (pair e h).box_known

  module _ (solution : IsSolution m x) (call : is_call m i ≡ true) where
    -- cell: one in a half-cell
    pub one_there : (e d : ℕ × ℕ) (h : Half) → Member e held → Member d held → on_half m e h ≡ true → on_half m d h ≡ true → e ≡ d
    one_there e d h a b s t = ⊎_elim
        (λ (same : e.0 ≡ d.0). differ_at _ held e d vars_differ a b same)
        (λ (other : e.0 ≡ d.0 → ⊥).
        let k = half_number e h a s in
        let row = solution (Cell i k.0) (and_from _ _ call (lt-ltb k.0 _ k.1)) in
        let low = below_two (length (variables m)) (λ v. where_set (x v) (less (occ m i (half m k.0) (var m v)))) (λ v l. less_low (x v) _) e.0 d.0 (pair e a).var_known (pair d b).var_known other in
        let f = less_is (x e.0) (occ m i (half m k.0) (var m e.0)) (pair e a).is_one (ap (λ (z : Half). occ m i z (var m e.0)) k.2 ∙ occ_true e h a s) in
        let g = less_is (x d.0) (occ m i (half m k.0) (var m d.0)) (pair d b).is_one (ap (λ (z : Half). occ m i z (var m d.0)) k.2 ∙ occ_true d h b t) in
        absurd (omega (arith, ints, row, low, f, g)))
        (cases_eq e.0 d.0)

    pub same_spot : (e d : ℕ × ℕ) → Member e held → Member d held → spot m e ≡ spot m d → e ≡ d
    same_spot e d a b same =
        let p = place m (spot m e) in let side = some_side p in let h : Half = record { stack = p.stack; tier = p.tier; aft = side.0 } in
        one_there e d h a b (covers_true p h side.1) (ap (λ (q : ℕ). covers (place m q) h) (sym same) ∙ covers_true p h side.1)

    pub spots_differ : Differ (spot m) held
    spots_differ = differ_more (λ (e : ℕ × ℕ). Member e held) (λ (e : ℕ × ℕ). e.0) (spot m) held (λ e d a b other same. other (ap (λ (z : ℕ × ℕ). z.0) (same_spot e d a b same))) (each_from _ held (λ e h. h)) vars_differ

    spots_low : Each (λ (e : ℕ × ℕ). spot m e < length (places m.ship)) held
    spots_low = each_from _ held (λ e h. facts.var_place e.0 (pair e h).var_known)

    abbrev pub plan_now : Plan
    plan_now = plan_from (spot m) (λ (e : ℕ × ℕ). e.1) (length (places m.ship)) held

    pub shows_now : Shows m held plan_now
    shows_now = record {
      each_place = length_plan (spot m) (λ (e : ℕ × ℕ). e.1) (length (places m.ship)) held;
      from_plan = λ p c h. plan_holds (spot m) (λ (e : ℕ × ℕ). e.1) (length (places m.ship)) held p c spots_low h;
      to_plan = λ e h. plan_shows (spot m) (λ (e : ℕ × ℕ). e.1) (length (places m.ship)) held e spots_low spots_differ h;
    }

    -- support: what is filled stands on something filled
    pub stands_on : (e : ℕ × ℕ) (h : Half) → Member e held → on_half m e h ≡ true → 0 < h.tier → (d : ℕ × ℕ) × Member d held × (on_half m d (below h) ≡ true)
    stands_on e h a s high =
        let k = half_number e h a s in
        let row = solution (Support i k.0) (and_from _ _ call (and_from _ _ (lt-ltb k.0 _ k.1) (lt-ltb 0 _ (subst (λ (z : Half). 0 < z.tier) (sym k.2) high)))) in
        ⊎_elim
        (λ (f : (v : ℕ) × (v < length (variables m)) × ((x v && occ m i (below (half m k.0)) (var m v)) ≡ true)).
        let both = and_parts (x f.0) _ f.2 in
        let cover = and_parts (at_half m (below (half m k.0)) (var m f.0)) _ both.1 in
        let there = and_parts (nat_le (var m f.0).put i) _ cover.1 in
        let d = var_pair f.0 f.1 both.0 (leb-true _ _ there.0) (ltb-true _ _ there.1) in
        (d.0, d.1, ap (λ (v : ℕ). at_half m (below h) (var m v)) d.2 ∙ (ap (λ (z : Half). at_half m (below z) (var m f.0)) (sym k.2) ∙ cover.0)))
        (λ (none : (v : ℕ) → v < length (variables m) → (x v && occ m i (below (half m k.0)) (var m v)) ≡ false).
        let low = below_one (length (variables m)) (λ v. where_set (x v) (bit (occ m i (below (half m k.0)) (var m v)) -ℤ bit (occ m i (half m k.0) (var m v)))) (λ v l. gap_low (x v) _ _ (none v l)) e.0 (pair e a).var_known in
        let f = gap_is (x e.0) (occ m i (below (half m k.0)) (var m e.0)) (occ m i (half m k.0) (var m e.0)) (none e.0 (pair e a).var_known) (pair e a).is_one (ap (λ (z : Half). occ m i z (var m e.0)) k.2 ∙ occ_true e h a s) in
        absurd (omega (arith, ints, row, low, f)))
        (found (length (variables m)) (λ v. x v && occ m i (below (half m k.0)) (var m v)))

    -- twenty: a 20-foot one stands on a 20-foot one
    pub twenty_on : (e d : ℕ × ℕ) (h : Half) → Member e held → Member d held → on_half m e h ≡ true → on_half m d (below h) ≡ true → 0 < h.tier → is_twenty (kind m (var m e.0).kind).long ≡ true → is_twenty (kind m (var m d.0).kind).long ≡ true
    twenty_on e d h a b s t high small =
        let k = half_number e h a s in
        let row = solution (Twenty i k.0) (and_from _ _ call (and_from _ _ (lt-ltb k.0 _ k.1) (lt-ltb 0 _ (subst (λ (z : Half). 0 < z.tier) (sym k.2) high)))) in
        ⊎_elim
        (λ (f : (v : ℕ) × (v < length (variables m)) × ((x v && occ20 m i (below (half m k.0)) (var m v)) ≡ true)).
        let both = and_parts (x f.0) _ f.2 in
        let little = and_parts (is_twenty (kind m (var m f.0).kind).long) _ both.1 in
        let cover = and_parts (at_half m (below (half m k.0)) (var m f.0)) _ little.1 in
        let there = and_parts (nat_le (var m f.0).put i) _ cover.1 in
        let z = var_pair f.0 f.1 both.0 (leb-true _ _ there.0) (ltb-true _ _ there.1) in
        let on : on_half m z.0 (below h) ≡ true = ap (λ (v : ℕ). at_half m (below h) (var m v)) z.2 ∙ (ap (λ (y : Half). at_half m (below y) (var m f.0)) (sym k.2) ∙ cover.0) in
        let same : z.0 ≡ d = one_there z.0 d (below h) z.1 b on t in
        ap (λ (v : ℕ). is_twenty (kind m (var m v).kind).long) (ap (λ (y : ℕ × ℕ). y.0) (sym same) ∙ z.2) ∙ little.0)
        (λ (none : (v : ℕ) → v < length (variables m) → (x v && occ20 m i (below (half m k.0)) (var m v)) ≡ false).
        let low = below_one (length (variables m)) (λ v. where_set (x v) (bit (occ20 m i (below (half m k.0)) (var m v)) -ℤ bit (occ20 m i (half m k.0) (var m v)))) (λ v l. gap_low (x v) _ _ (none v l)) e.0 (pair e a).var_known in
        let f = gap_is (x e.0) (occ20 m i (below (half m k.0)) (var m e.0)) (occ20 m i (half m k.0) (var m e.0)) (none e.0 (pair e a).var_known) (pair e a).is_one (and_from _ _ small (ap (λ (z : Half). occ m i z (var m e.0)) k.2 ∙ occ_true e h a s)) in
        absurd (omega (arith, ints, row, low, f)))
        (found (length (variables m)) (λ v. x v && occ20 m i (below (half m k.0)) (var m v)))

    module _ (plan : Plan) (shows : Shows m held plan) where
      supported : IsSupported m.ship plan
      supported stack tier side c f =
          let h : Half = record { stack = stack; tier = tier + 1; aft = side } in
          let e = fills_pair plan shows h c f in
          let d = stands_on e.0 h e.1 e.2 (omega arith) in
          let same : tier + 1 - 1 ≡ tier = omega arith in
          (d.0.1, subst (λ (t : ℕ). Fills m.ship plan (record { stack = stack; tier = t; aft = side }) d.0.1) same (pair_fills plan shows d.0 (below h) d.1 d.2))

      twenty_long : (l : Length) → l ≡ long_of.Twenty → is_twenty l ≡ true
      twenty_long l e = ap is_twenty e

      long_twenty : (l : Length) → is_twenty l ≡ true → l ≡ long_of.Twenty
      long_twenty long_of.Twenty h = refl
      long_twenty long_of.Forty h = absurd (both_ways false refl h)

      twenty : IsTwentyOnTwenty m.ship m.cargo plan
      twenty stack tier side c d f g small =
          let h : Half = record { stack = stack; tier = tier + 1; aft = side } in
          let same : tier ≡ tier + 1 - 1 = omega arith in
          let a = fills_pair plan shows h c f in
          let b = fills_pair plan shows (below h) d (subst (λ (t : ℕ). Fills m.ship plan (record { stack = stack; tier = t; aft = side }) d) same g) in
          let box : small.0 ≡ container m a.0.1 = same_Some _ _ (sym small.1 ∙ (ap (slice_get m.cargo.containers) (sym a.3) ∙ box_is a.0 a.1)) in
          let one : is_twenty (kind m (var m a.0.0).kind).long ≡ true = ap (λ (k : Kind). is_twenty k.long) (kind_same a.0 a.1) ∙ (ap (λ (k : Container). is_twenty k.long) (sym box) ∙ twenty_long _ small.2) in
          let two = twenty_on a.0 b.0 h a.1 b.1 a.2 b.2 (omega arith) one in
          (container m b.0.1, ap (slice_get m.cargo.containers) (sym b.3) ∙ box_is b.0 b.1, long_twenty _ (ap (λ (k : Kind). is_twenty k.long) (sym (kind_same b.0 b.1)) ∙ two))

      -- what stands fits
      stands_pair : (p c : ℕ) (at : Place) (box : Container) → Stands m.ship m.cargo plan p c at box → fits at (kind_of m.ship.weight_step box) ≡ true
      stands_pair p c at box s =
          let e = shows.from_plan p c s.holds in
          let there : place m (spot m e.0) ≡ at = ap (place m) e.2 ∙ get_or_from_slice_get (places m.ship) p at no_place s.is_place in
          let what : container m e.0.1 ≡ box = ap (container m) e.3 ∙ get_or_from_slice_get m.cargo.containers c box no_container s.is_container in
          ap (λ (k : Container). fits at (kind_of m.ship.weight_step k)) (sym what) ∙ (ap (λ (k : Kind). fits at k) (sym (kind_same e.0 e.1)) ∙ (ap (λ (q : Place). fits q (kind m (var m e.0.0).kind)) (sym there) ∙ facts.var_fits e.0.0 (pair e.0 e.1).var_known))

      well_formed : IsWellFormed m.ship m.cargo plan
      well_formed = record {
        each_place = shows.each_place;
        known = λ p c h. let e = shows.from_plan p c h in (container m e.0.1, ap (slice_get m.cargo.containers) (sym e.3) ∙ box_is e.0 e.1);
        fits = λ p c at box s. (fits_said at box.long box.reefer (stands_pair p c at box s)).length_fits;
        apart = λ h c d f g. let a = fills_pair plan shows h c f in let b = fills_pair plan shows h d g in
            sym a.4 ∙ (ap (spot m) (one_there a.0 b.0 h a.1 b.1 a.2 b.2) ∙ b.4);
        once = λ p q c f g. let a = shows.from_plan p c f in let b = shows.from_plan q c g in
            sym a.2 ∙ (ap (spot m) (differ_at _ held a.0 b.0 boxes_differ a.1 b.1 (a.3 ∙ sym b.3)) ∙ b.2);
      }

      plugged : IsPlugged m.ship m.cargo plan
      plugged p c at box s = (fits_said at box.long box.reefer (stands_pair p c at box s)).has_plug

      pub stowed : IsStowed m.ship m.cargo i plan
      stowed = record {
        well_formed = well_formed;
        aboard = λ c box known.
            let is_box : container m c ≡ box = get_or_from_slice_get m.cargo.containers c box no_container known in (
              (λ h. let e = shows.from_plan h.0 c h.1 in let p = pair e.0 e.1 in let b : container m e.0.1 ≡ box = ap (container m) e.3 ∙ is_box in
                  record { loaded = subst (λ (k : Container). k.load ≤ i) b p.load; stays = subst (λ (k : Container). i < k.dest) b p.dest }),
              (λ h. let e = box_pair c (slice_get_within m.cargo.containers c box known) (subst (λ (k : Container). k.load ≤ i) (sym is_box) h.loaded) (subst (λ (k : Container). i < k.dest) (sym is_box) h.stays) in
                  (spot m e.0, subst (λ (d : ℕ). Holds plan (spot m e.0) d) e.2 (shows.to_plan e.0 e.1))),
            );
        supported = supported;
        twenty = twenty;
        plugged = plugged;
      }
