-- What is known of kinds, containers and variables, from the ship's and the cargo's rules; the pairs of the arrival.
use Rattle.std.proofs.Common.{◌≡◌, ℕ, zero, suc, ◌<◌, ◌≤◌, ◌-◌, Bool, true, false, cond, pos, ◌-ℤ◌, ◌≤ℤ◌, arith, refl, sym, ◌∙◌, ap, ⊎_elim, length, Some, None}
use Rattle.std.specs.Prelude.{slice_get, ◌==◌, ◌&&◌, ◌||◌, not, nat_le, nat_lt, IsTrue}
use Rattle.std.proofs.lemmas.Bool.{cases_Bool, both_ways, cases_eq, and_parts, and_from, eqb-true, eq-eqb, ne_eqb, ltb-true, leb-true, lt-ltb}
use Rattle.std.proofs.lemmas.Option.{same_Some, slice_get_within, slice_get-get_or, get_or_from_slice_get}
use borrow.Author.Differences.{ints}
use Rattle.proof_trees.specs.Program.{where_set}
use Rattle.stow_data.specs.declared.cargoes.Container.{Container}
use Rattle.stow_data.specs.declared.geometry.Span.{Span}
use Rattle.stow_data.specs.declared.geometry.Length.{Length}
use Rattle.stow_data.specs.declared.geometry.Length.TheVariants.{Twenty, Forty}
use Rattle.stow_data.specs.Ship.{places}
use Rattle.stow_data.proofs.Fitting.{fits_shown}
use Rattle.stow_data.specs.Plans.{Plan}
use Rattle.stowage_rules.specs.Plan.{Holds}
use Rattle.stowage_rules.specs.Plan.{Stands}
use Rattle.stow_data.specs.declared.kind_list.Kind.{Kind}
use Rattle.zero_one_rows.specs.declared.program.Row.TheVariants.{Start}
use Rattle.stow_data.specs.Kinds.{kind_of}
use Rattle.zero_one_rows.specs.Variables.{Voyage, variables, var, kind, all_kinds, place, arrived, calls}
use Rattle.model_bridge.proofs.Words.{container, kind_at, fits, begun, shown_kind, kind_known, kind_is, box_at, stack_known, tier_low, half_known}
use Rattle.stow_data.specs.Plans.{no_container, no_place}
use Rattle.zero_one_rows.specs.Rows.{has, is_filled, IsSolution, bit}
use Rattle.model_bridge.proofs.Calls.{Facts}
use Rattle.model_bridge.specs.Laws.{IsProblem, Sails, EachSolutionSails}
use Rattle.plan_lifts.proofs.Whole.{ship_is_divided, cargo_in_order}
use Rattle.crossing_law.proofs.Arrivals.{arrived_is}
use Rattle.zero_one_rows.proofs.VariableList.{var_listed}
use Rattle.model_bridge.proofs.Sums.{found, none_sum, no_term, below_two, same_sum}
use Rattle.model_bridge.proofs.Carry.{IsCarried, pairs_now, shows_plan, held_plan}
use Rattle.model_bridge.proofs.Voyage.{voyage_from, costs}

-- a number below n that passes, or 0
abbrev pub some_of : (ℕ → Bool) → ℕ → ℕ
some_of t zero = 0
some_of t (suc n) = cond (t n) n (some_of t n)

pub some_of_is : (t : ℕ → Bool) (n k : ℕ) → k < n → t k ≡ true → (some_of t n < n) × (t (some_of t n) ≡ true)
some_of_is t zero k l h = absurd (omega arith)
some_of_is t (suc n) k l h = go (t n) refl (λ ne. some_of_is t n k (omega arith) h)
  where
    go : (b : Bool) → t n ≡ b → ((k ≡ n → ⊥) → (some_of t n < n) × (t (some_of t n) ≡ true)) → (cond b n (some_of t n) < suc n) × (t (cond b n (some_of t n)) ≡ true)
    go true e rest = (omega arith, e)
    go false e rest = let r = rest (λ s. both_ways (t n) e (ap t (sym s) ∙ h)) in (omega (arith, r.0), r.1)

module _ (m : Voyage) (rules : IsProblem m) where
  -- what arrived stands where it fits
  pub arrived_at : (g p : ℕ) → arrived m g p ≡ true → (c : ℕ) × Holds m.cargo.arrival p c × (kind_at m c ≡ g)
  arrived_at g p h = let a = arrived_is m g p h in (a.number, a.holds, a.of_kind)

  known_kind : (c : ℕ) → c < length m.cargo.containers → (kind_at m c < length (all_kinds m)) × (kind m (kind_at m c) ≡ shown_kind m c)
  known_kind c l = (kind_known m c l, kind_is m c l)

  arrival_fits : (p c : ℕ) → p < length (places m.ship) → Holds m.cargo.arrival p c → fits (place m p) (shown_kind m c) ≡ true
  arrival_fits p c l h =
      let k = rules.arrives.well_formed.known p c h in
      let box : container m c ≡ k.0 = get_or_from_slice_get m.cargo.containers c k.0 no_container k.1 in
      let s : Stands m.ship m.cargo m.cargo.arrival p c (place m p) k.0 = record { is_place = slice_get-get_or (places m.ship) p no_place l; holds = h; is_container = k.1 } in
      ap (λ (z : Container). fits (place m p) (kind_of m.ship.weight_step z)) box
      ∙ fits_shown (place m p) k.0.long k.0.reefer (record { length_fits = rules.arrives.well_formed.fits p c (place m p) k.0 s; has_plug = rules.arrives.plugged p c (place m p) k.0 s })

  var_test : (v : ℕ) → v < length (variables m) → ((var m v).put < (var m v).lifted) × ((var m v).lifted ≤ (kind m (var m v).kind).dest) × (cond ((var m v).put == 0) (arrived m (var m v).kind (var m v).place) (begun m (var m v).kind (var m v).put && fits (place m (var m v).place) (kind m (var m v).kind)) ≡ true)
  var_test v l = let t = (var_listed m v l).0 in let a = and_parts (nat_lt (var m v).put (var m v).lifted) _ t in let b = and_parts (nat_le (var m v).lifted (kind m (var m v).kind).dest) _ a.1 in
      (ltb-true _ _ a.0, leb-true _ _ b.0, b.1)

  cond_at : (b x y : Bool) → b ≡ true → cond b x y ≡ true → x ≡ true
  cond_at true x y e h = h
  cond_at false x y e h = absurd (both_ways false refl e)

  cond_else : (b x y : Bool) → b ≡ false → cond b x y ≡ true → y ≡ true
  cond_else false x y e h = h
  cond_else true x y e h = absurd (both_ways true e refl)

  pub facts : Facts m
  facts = record {
    in_order = λ c l. cargo_in_order m.cargo rules.cargo c (container m c) (box_at m c l);
    kind_known = λ c l. (known_kind c l).0;
    dest_of = λ c l. ap (λ (k : Kind). k.dest) (known_kind c l).1;
    var_kind = λ v l. let n = (var_listed m v l).1 in n.kind;
    var_order = λ v l. (var_test v l).0;
    var_dest = λ v l. (var_test v l).1;
    var_begun = λ v l low. (and_parts (begun m (var m v).kind (var m v).put) _ (cond_else ((var m v).put == 0) (arrived m (var m v).kind (var m v).place) _ (ne_eqb _ 0 (λ e. omega arith)) (var_test v l).2)).0;
    var_place = λ v l. let n = (var_listed m v l).1 in n.place;
    var_fits = λ v l. ⊎_elim
        (λ (e : ((var m v).put == 0) ≡ true). let a = arrived_at (var m v).kind (var m v).place (cond_at _ _ _ e (var_test v l).2) in
        let k = rules.arrives.well_formed.known (var m v).place a.0 a.1 in
        ap (fits (place m (var m v).place)) (ap (kind m) (sym a.2) ∙ (known_kind a.0 (slice_get_within m.cargo.containers a.0 k.0 k.1)).1) ∙ (let n = (var_listed m v l).1 in arrival_fits (var m v).place a.0 n.place a.1))
        (λ (e : ((var m v).put == 0) ≡ false). (and_parts (begun m (var m v).kind (var m v).put) _ (cond_else _ _ _ e (var_test v l).2)).1)
        (cases_Bool ((var m v).put == 0));
    stack_known = stack_known m;
    tier_low = tier_low m;
    kind_is = λ c l. (known_kind c l).1;
    half_known = half_known m;
  }

  module _ (x : ℕ → Bool) (solution : IsSolution m x) where
    abbrev pub begins : ℕ → ℕ → Bool
    begins p v = x v && (((var m v).put == 0) && ((var m v).place == p))

    -- the variable that begins at the place
    abbrev pub starter : ℕ → ℕ
    starter p = some_of (begins p) (length (variables m))

    start_exists : (q p c : ℕ) → q < 2 → Holds m.cargo.arrival p c → has m (Start q p) ≡ true
    start_exists q p c low h = and_from _ _ (lt-ltb q 2 low) (ap is_filled (get_or_from_slice_get m.cargo.arrival p (Some c) None h))

    place_low : (p c : ℕ) → Holds m.cargo.arrival p c → p < length (places m.ship)
    place_low p c h = let a = slice_get_within m.cargo.arrival p (Some c) h in let b = rules.arrives.well_formed.each_place in omega arith

    pub starts : (p c : ℕ) → Holds m.cargo.arrival p c → (starter p < length (variables m)) × (begins p (starter p) ≡ true)
    starts p c h = ⊎_elim
        (λ (r : (k : ℕ) × (k < length (variables m)) × (begins p k ≡ true)). some_of_is (begins p) (length (variables m)) r.0 r.1 r.2)
        (λ (none : (k : ℕ) → k < length (variables m) → begins p k ≡ false).
        let row = solution (Start 0 p) (start_exists 0 p c (omega arith) h) in
        let z = none_sum (length (variables m)) (λ v. where_set (x v) (bit (((var m v).put == 0) && ((var m v).place == p)))) (λ v l. no_term (x v) _ (λ s t. both_ways (begins p v) (none v l) (and_from _ _ s t))) in
        absurd (omega (arith, ints, row, z)))
        (found (length (variables m)) (begins p))

    pub begin_parts : (p v : ℕ) → begins p v ≡ true → (x v ≡ true) × ((var m v).put ≡ 0) × ((var m v).place ≡ p)
    begin_parts p v h = let a = and_parts (x v) _ h in let b = and_parts ((var m v).put == 0) _ a.1 in (a.0, eqb-true _ _ b.0, eqb-true _ _ b.1)

    minus_low : (t a : Bool) → where_set t (pos 0 -ℤ bit a) ≤ℤ pos 0
    minus_low true true = omega (arith, ints)
    minus_low true false = omega (arith, ints)
    minus_low false a = omega (arith, ints)

    minus_is : (t a : Bool) → (t && a) ≡ true → where_set t (pos 0 -ℤ bit a) ≡ pos 0 -ℤ pos 1
    minus_is true true h = refl
    minus_is true false h = absurd (both_ways false refl h)
    minus_is false a h = absurd (both_ways false refl h)

    pub one_start : (p c v w : ℕ) → Holds m.cargo.arrival p c → v < length (variables m) → w < length (variables m) → begins p v ≡ true → begins p w ≡ true → v ≡ w
    one_start p c v w h l k a b = ⊎_elim (λ (e : v ≡ w). e)
        (λ (ne : v ≡ w → ⊥).
        let row = solution (Start 1 p) (start_exists 1 p c (omega arith) h) in
        let two = below_two (length (variables m)) (λ v. where_set (x v) (pos 0 -ℤ bit (((var m v).put == 0) && ((var m v).place == p)))) (λ v l. minus_low (x v) _) v w l k ne in
        absurd (omega (arith, ints, row, two, minus_is (x v) (((var m v).put == 0) && ((var m v).place == p)) a, minus_is (x w) (((var m w).put == 0) && ((var m w).place == p)) b)))
        (cases_eq v w)

    -- what a variable that begins says of the arrival
    pub begun_there : (v : ℕ) → v < length (variables m) → (var m v).put ≡ 0 → (c : ℕ) × Holds m.cargo.arrival (var m v).place c × (kind_at m c ≡ (var m v).kind)
    begun_there v l e = arrived_at (var m v).kind (var m v).place (cond_at _ _ _ (eq-eqb _ 0 e) (var_test v l).2)

    same_held : (plan : Plan) (p q c d : ℕ) → Holds plan p c → Holds plan q d → p ≡ q → c ≡ d
    same_held plan p q c d h k e = same_Some c d (same_Some (Some c) (Some d) (sym h ∙ (ap (slice_get plan) e ∙ k)))

    pub arrival_carried : IsCarried m x 0 m.cargo.arrival starter
    arrival_carried = record {
      known = λ p c h. (starts p c h).0;
      is_one = λ p c h. (begin_parts p _ (starts p c h).1).0;
      put = λ p c h. let e = (begin_parts p _ (starts p c h).1).1 in omega arith;
      lifted = λ p c h. let l = facts.var_order (starter p) (starts p c h).0 in omega arith;
      there = λ p c h. (begin_parts p _ (starts p c h).1).2;
      alike = λ p c h. let b = begin_parts p _ (starts p c h).1 in let r = begun_there (starter p) (starts p c h).0 b.1 in
          sym r.2 ∙ ap (kind_at m) (same_held m.cargo.arrival (var m (starter p)).place p r.0 c r.1 h b.2);
      no_other = λ v l one put lifted. let e : (var m v).put ≡ 0 = omega arith in let r = begun_there v l e in
          let mine : begins (var m v).place v ≡ true = and_from _ _ one (and_from _ _ (eq-eqb _ 0 e) (eq-eqb (var m v).place _ refl)) in
          (r.0, r.1, one_start (var m v).place r.0 (starter (var m v).place) v r.1 (starts (var m v).place r.0 r.1).0 l (starts (var m v).place r.0 r.1).1 mine);
    }

    -- plans of a legal voyage that costs at most what it costs
    pub voyage_of : Sails m x
    voyage_of =
        let left : ℕ = calls m - 1 in
        let low = rules.cargo.calls_from in
        let v = voyage_from m x facts solution (ship_is_divided m.ship rules.ship) left 0 (omega arith) (pairs_now m x 0 m.cargo.arrival rules.arrives starter arrival_carried) (held_plan m x 0 m.cargo.arrival rules.arrives starter arrival_carried) m.cargo.arrival (shows_plan m x 0 m.cargo.arrival rules.arrives starter arrival_carried) rules.arrives in
        let e = same_sum (length (variables m)) (λ v. where_set (x v) (where_set (nat_lt 0 (var m v).lifted) (costs m v))) (λ v. where_set (x v) (costs m v)) (λ v l. ap (λ (b : Bool). where_set (x v) (where_set b (costs m v))) (lt-ltb 0 (var m v).lifted (let o = facts.var_order v l in omega arith))) in
        record { plans = v.plans; moves = v.moves; legal = record { each_call = (let a = v.as_many in omega arith); voyage = v.legal }; cheap = omega (arith, ints, v.counts, e) }

pub each_sails : EachSolutionSails
each_sails m rules x solution = voyage_of m rules x solution
