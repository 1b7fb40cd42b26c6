-- The moves that lift a closed set: covers off, lifts from above, puts from below, covers on.
use Rattle.std.specs.Prelude.{◌≡◌, ℕ, Bool, true, false, List, [], ◌∷◌, ◌++◌, Some, None, slice_get, map, ◌||◌, ◌&&◌, not, ◌==◌, ◌⊎◌, ◌↔◌, length, ◌<◌, ◌≤◌, suc, zero, cond}
use Rattle.std.proofs.Common.{refl, sym, ◌∙◌, ap, arith, subst, inl, inr, ⊎_elim}
use mathlib.Core.Path.{fun_ext}
use Rattle.std.proofs.lemmas.Bool.{cond-true, true_from_ne_false, and_from, and_parts, and_right, both_ways, eq-eqb, eqb-true, eqb-false, cases_Bool, cases_eq, ne_eqb, not_from_false, not_from_true, not-true}
use Rattle.std.proofs.lemmas.Option.{none-some, same_Some, slice_get_within}
use Rattle.std.proofs.lemmas.List.{length-map}
use Rattle.stow_data.specs.declared.geometry.Cover.{Cover}
use Rattle.stow_data.specs.declared.cargoes.Container.{Container}
use Rattle.stow_data.specs.declared.geometry.Place.{Place}
use Rattle.voyage_meaning.specs.declared.moves.Move.{Move}
use Rattle.voyage_meaning.specs.declared.moves.Move.TheVariants.{OffCover, OnCover}
use Rattle.stow_data.specs.Ship.{Ship, places, LiesUnder, StandsOn}
use Rattle.stow_data.specs.Shipment.{Cargo, IsAboard}
use Rattle.stow_data.specs.Plans.{Plan}
use Rattle.stowage_rules.specs.Plan.{Holds, IsWellFormed}
use Rattle.stowage_rules.specs.Departure.{IsStowed}
use Rattle.voyage_meaning.specs.Moves.{State, end_of, IsBare, leaves}
use Rattle.voyage_meaning.specs.Voyage.{AllOn, start}
use Rattle.plan_lifts.specs.Least.{IsOver, IsOnCoverOf, IsClosed}
use Rattle.plan_lifts.proofs.Steps.{Lifting, Putting, still_held}
use Rattle.stowage_rules.proofs.Items.{slice_get_in, same_reads}
use Rattle.plan_lifts.proofs.Phases.{LiftState, PutState, Loads, WasLifted, IsDue}
use Rattle.plan_lifts.proofs.Runs.{Reaches, then, lift_run, AfterLifts, put_run, AfterPuts, OffIs, cover_run, AfterCovers}
use Rattle.plan_lifts.specs.Passes.{covers_down, lifts_down, puts_from}

-- what is known of a call: old and new plan, and the sets that the moves go by
pub record Facts (ship : Ship) (cargo : Cargo) (call : ℕ) (old new : Plan) (lifted moved deck opened due : ℕ → Bool) : Type 0 where
  pub old_formed : IsWellFormed ship cargo old
  pub old_aboard : (c : ℕ) (container : Container) → slice_get cargo.containers c ≡ Some container → ((p : ℕ) × Holds old p c) ↔ ((container.load < call) × (call ≤ container.dest))
  pub new_stowed : IsStowed ship cargo call new
  pub in_order : (c : ℕ) (container : Container) → slice_get cargo.containers c ≡ Some container → container.load < container.dest
  pub closed : IsClosed ship old new lifted
  pub only : (p : ℕ) → lifted p ≡ true → (c : ℕ) × Holds old p c
  pub moved_true : (p : ℕ) → moved p ≡ true → (lifted p ≡ true) ⊎ (slice_get old p ≡ slice_get new p → ⊥)
  pub moved_false : (p : ℕ) → moved p ≡ false → (lifted p ≡ false) × (slice_get old p ≡ slice_get new p)
  pub due_true : (p : ℕ) → due p ≡ true → (moved p ≡ true) × ((c : ℕ) × Holds new p c)
  pub due_false : (p : ℕ) → due p ≡ false → (moved p ≡ false) ⊎ ((c : ℕ) → Holds new p c → ⊥)
  pub later : (p q : ℕ) → IsOver ship p q → q < p
  pub deck_same : (p q : ℕ) → IsOver ship p q → deck p ≡ deck q
  pub deck_stands : (p k : ℕ) (place : Place) → slice_get (places ship) p ≡ Some place → StandsOn ship place.stack k → deck p ≡ true
  pub deck_not_under : (p k : ℕ) (place : Place) → slice_get (places ship) p ≡ Some place → LiesUnder ship place.stack k → deck p ≡ false
  pub opened_by : (k q : ℕ) (place : Place) → slice_get (places ship) q ≡ Some place → LiesUnder ship place.stack k → moved q ≡ true → opened k ≡ true
  pub opened_for : (k : ℕ) → opened k ≡ true → (q : ℕ) × ((place : Place) × (slice_get (places ship) q ≡ Some place) × LiesUnder ship place.stack k) × (moved q ≡ true)

-- two places that hold nothing read alike
unheld_same : (xs ys : Plan) (p : ℕ) → length xs ≡ length ys → ((c : ℕ) → Holds xs p c → ⊥) → ((c : ℕ) → Holds ys p c → ⊥) → slice_get xs p ≡ slice_get ys p
unheld_same [] [] p e x y = refl
unheld_same [] (b ∷ ys) p e x y = absurd (omega arith)
unheld_same (a ∷ xs) [] p e x y = absurd (omega arith)
unheld_same (None ∷ xs) (None ∷ ys) zero e x y = refl
unheld_same (None ∷ xs) (Some d ∷ ys) zero e x y = absurd (y d refl)
unheld_same (Some c ∷ xs) (b ∷ ys) zero e x y = absurd (x c refl)
unheld_same (a ∷ xs) (b ∷ ys) (suc p) e x y = unheld_same xs ys p (omega arith) x y

-- a place of the list that holds nothing
unheld_is : (xs : Plan) (p : ℕ) → p < length xs → ((c : ℕ) → Holds xs p c → ⊥) → slice_get xs p ≡ Some None
unheld_is [] p l x = absurd (omega arith)
unheld_is (None ∷ xs) zero l x = refl
unheld_is (Some c ∷ xs) zero l x = absurd (x c refl)
unheld_is (a ∷ xs) (suc p) l x = unheld_is xs p (omega arith) x

-- lists that read alike are equal
-- flags of a list made by a test
flag_of : (cargo : List Container) (call c : ℕ) (container : Container) → slice_get cargo c ≡ Some container → slice_get (map (λ (d : Container). d.load == call) cargo) c ≡ Some (container.load == call)
flag_of [] call c container h = absurd (none-some container h)
flag_of (d ∷ ds) call zero container h = let e : d ≡ container = same_Some d container h in ap (λ (x : Container). Some (x.load == call)) e
flag_of (d ∷ ds) call (suc c) container h = flag_of ds call c container h

flag_from : (cargo : List Container) (call c : ℕ) → slice_get (map (λ (d : Container). d.load == call) cargo) c ≡ Some true → (container : Container) × (slice_get cargo c ≡ Some container) × (container.load ≡ call)
flag_from [] call c h = absurd (none-some true h)
flag_from (d ∷ ds) call zero h = (d, refl, eqb-true d.load call (same_Some (d.load == call) true h))
flag_from (d ∷ ds) call (suc c) h = flag_from ds call c h

off_of : (covers : List Cover) (k : ℕ) (cover : Cover) → slice_get covers k ≡ Some cover → slice_get (map (λ (_ : Cover). false) covers) k ≡ Some false
off_of [] k cover h = absurd (none-some cover h)
off_of (c ∷ cs) zero cover h = refl
off_of (c ∷ cs) (suc k) cover h = off_of cs k cover h

starts : (ship : Ship) (cargo : Cargo) (call : ℕ) (old : Plan) → LiftState cargo call old (λ p. false) (start ship cargo call old)
starts ship cargo call old = record {
  plan = record { gone_empty = λ p h. absurd (both_ways false refl h); others = λ p h. refl };
  quay_length = length-map cargo.containers (λ (d : Container). d.load == call);
  loads_wait = λ c l. flag_of cargo.containers call c l.0 l.1 ∙ ap Some (eq-eqb l.0.load call l.2);
  lifted_wait = λ c w. absurd (both_ways false refl w.is_gone);
  only_these = λ c h. inl (flag_from cargo.containers call c h);
}

pub lift_state_moved : (cargo : Cargo) (call : ℕ) (old : Plan) (gone : ℕ → Bool) (s t : State) → t.plan ≡ s.plan → t.quay ≡ s.quay → LiftState cargo call old gone s → LiftState cargo call old gone t
lift_state_moved cargo call old gone s t p q state = record {
  plan = subst (λ (x : Plan). Lifting old gone x) (sym p) state.plan;
  quay_length = ap length q ∙ state.quay_length;
  loads_wait = λ c l. ap (λ (x : List Bool). slice_get x c) q ∙ state.loads_wait c l;
  lifted_wait = λ c w. ap (λ (x : List Bool). slice_get x c) q ∙ state.lifted_wait c w;
  only_these = λ c h. state.only_these c (sym (ap (λ (x : List Bool). slice_get x c) q) ∙ h);
}

put_state_moved : (new : Plan) (waits : ℕ → Bool) (s t : State) → t.plan ≡ s.plan → t.quay ≡ s.quay → PutState new waits s → PutState new waits t
put_state_moved new waits s t p q state = record {
  plan = subst (λ (x : Plan). Putting new waits x) (sym p) state.plan;
  due_waits = λ c w. ap (λ (x : List Bool). slice_get x c) q ∙ state.due_waits c w;
  only_due = λ c h. state.only_due c (sym (ap (λ (x : List Bool). slice_get x c) q) ∙ h);
}

pub leaves_is : (cargo : Cargo) (call c : ℕ) (container : Container) → slice_get cargo.containers c ≡ Some container → leaves cargo call c ≡ (container.dest == call)
leaves_is cargo call c container known = rw known refl

module _ (ship : Ship) (cargo : Cargo) (call : ℕ) (old new : Plan) (lifted moved deck opened due : ℕ → Bool) (facts : Facts ship cargo call old new lifted moved deck opened due) where
  lengths : length old ≡ length new
  lengths = facts.old_formed.each_place ∙ sym facts.new_stowed.well_formed.each_place

  -- a place that isn't lifted and changes holds nothing before
  unheld_before : (p : ℕ) → lifted p ≡ false → (slice_get old p ≡ slice_get new p → ⊥) → (c : ℕ) → Holds old p c → ⊥
  unheld_before p stays differs c held = both_ways (lifted p) stays (facts.closed.changed p c held (λ kept. differs (held ∙ sym kept)))

  -- once the set is gone, what isn't due is as it will be, and what is due is empty
  mid_plan : (plan : Plan) → Lifting old lifted plan → Putting new due plan
  mid_plan plan s = record {
    waiting_empty = λ p d.
        let why = facts.due_true p d in
        ⊎_elim (λ (l : lifted p ≡ true). s.gone_empty p l)
        (λ (l : lifted p ≡ false). s.others p l ∙ unheld_is old p (let inside : p < length new = slice_get_within new p (Some why.1.0) why.1.1 in omega (arith, lengths))
        (unheld_before p l (⊎_elim (λ (x : lifted p ≡ true). absurd (both_ways (lifted p) l x)) (λ (x : slice_get old p ≡ slice_get new p → ⊥). x) (facts.moved_true p why.0))))
        (cases_Bool (lifted p));
    settled = λ p d. ⊎_elim
        (λ (m : moved p ≡ false). s.others p (facts.moved_false p m).0 ∙ (facts.moved_false p m).1)
        (λ (m : moved p ≡ true). no_due p m (⊎_elim (λ (x : moved p ≡ false). absurd (both_ways (moved p) x m)) (λ (x : (c : ℕ) → Holds new p c → ⊥). x) (facts.due_false p d)))
        (⊎_elim (λ (x : moved p ≡ true). inr x) (λ (x : moved p ≡ false). inl x) (cases_Bool (moved p)));
  }
    where
      no_due : (p : ℕ) → moved p ≡ true → ((c : ℕ) → Holds new p c → ⊥) → slice_get plan p ≡ slice_get new p
      no_due p m unheld = ⊎_elim
          (λ (l : lifted p ≡ true). let was = facts.only p l in s.gone_empty p l ∙ sym (unheld_is new p (let inside : p < length old = slice_get_within old p (Some was.0) was.1 in omega (arith, lengths)) unheld))
          (λ (l : lifted p ≡ false). s.others p l ∙ unheld_same old new p lengths
          (unheld_before p l (⊎_elim (λ (x : lifted p ≡ true). absurd (both_ways (lifted p) l x)) (λ (x : slice_get old p ≡ slice_get new p → ⊥). x) (facts.moved_true p m))) unheld)
          (cases_Bool (lifted p))

  -- what is due is on the quay
  due_is_there : (c : ℕ) (container : Container) → slice_get cargo.containers c ≡ Some container → IsDue new due c → Loads cargo call c ⊎ WasLifted cargo call old lifted c
  due_is_there c container known w =
      let here = (facts.new_stowed.aboard c container known).0 (w.place, w.held) in
      ⊎_elim (λ (e : container.load ≡ call). inl (container, known, e))
      (λ (ne : container.load ≡ call → ⊥).
      let before : container.load < call = omega (arith, here.loaded) in
      let place = (facts.old_aboard c container known).1 (before, omega (arith, here.stays)) in
      inr (record { from = place.0; held = place.1; is_gone = is_lifted_there place.0 place.1; stays = leaves_is cargo call c container known ∙ ne_eqb container.dest call (λ e. omega (arith, here.stays)) }))
      (cases_eq container.load call)
    where
      is_lifted_there : (q : ℕ) → Holds old q c → lifted q ≡ true
      is_lifted_there q held = ⊎_elim
          (λ (at : q ≡ w.place). ⊎_elim (λ (l : lifted w.place ≡ true). ap lifted at ∙ l) (λ (differs : slice_get old w.place ≡ slice_get new w.place → ⊥). absurd (differs (subst (λ (x : ℕ). Holds old x c) at held ∙ sym w.held))) (facts.moved_true w.place (facts.due_true w.place w.waiting).0))
          (λ (ne : q ≡ w.place → ⊥). facts.closed.changed q c held (λ kept. ne (facts.new_stowed.well_formed.once q w.place c kept w.held)))
          (cases_eq q w.place)

  -- what is on the quay is due
  there_is_due : (c : ℕ) (container : Container) → slice_get cargo.containers c ≡ Some container → Loads cargo call c ⊎ WasLifted cargo call old lifted c → IsDue new due c
  there_is_due c container known x = record { place = place.0; held = place.1; waiting = true_from_ne_false (due place.0) (λ d. ⊎_elim (λ (m : moved place.0 ≡ false). not_moved m) (λ (unheld : (d : ℕ) → Holds new place.0 d → ⊥). unheld c place.1) (facts.due_false place.0 d)) }
    where
      bounds : IsAboard call container
      bounds = ⊎_elim
          (λ (l : Loads cargo call c). let same : l.0 ≡ container = same_Some l.0 container (sym l.1 ∙ known) in let at : container.load ≡ call = sym (ap (λ (k : Container). k.load) same) ∙ l.2 in record { loaded = omega arith; stays = omega (arith, facts.in_order c container known) })
          (λ (w : WasLifted cargo call old lifted c).
          let was = (facts.old_aboard c container known).0 (w.from, w.held) in
          let ne : container.dest ≡ call → ⊥ = eqb-false container.dest call (sym (leaves_is cargo call c container known) ∙ w.stays) in
          record { loaded = omega (arith, was.0); stays = omega (arith, was.1, ne) })
          x

      place : (p : ℕ) × Holds new p c
      place = (facts.new_stowed.aboard c container known).1 bounds

      not_moved : moved place.0 ≡ false → ⊥
      not_moved m =
          let same = facts.moved_false place.0 m in
          let held : Holds old place.0 c = same.1 ∙ place.1 in
          ⊎_elim
          (λ (l : Loads cargo call c). let one : l.0 ≡ container = same_Some l.0 container (sym l.1 ∙ known) in let at : container.load ≡ call = sym (ap (λ (k : Container). k.load) one) ∙ l.2 in let was = (facts.old_aboard c container known).0 (place.0, held) in let less : container.load < call = was.0 in omega arith)
          (λ (w : WasLifted cargo call old lifted c). both_ways (lifted place.0) same.0 (ap lifted (facts.old_formed.once place.0 w.from c held w.held) ∙ w.is_gone))
          x

  mid : (s : State) → LiftState cargo call old lifted s → PutState new due s
  mid s state = record {
    plan = mid_plan s.plan state.plan;
    due_waits = λ c w.
        let box = facts.new_stowed.well_formed.known w.place c w.held in
        ⊎_elim (λ (l : Loads cargo call c). state.loads_wait c l) (λ (x : WasLifted cargo call old lifted c). state.lifted_wait c x) (due_is_there c box.0 box.1 w);
    only_due = λ c h.
        let inside : c < length s.quay = slice_get_within s.quay c true h in
        let box = slice_get_in cargo.containers c (omega (arith, state.quay_length)) in
        there_is_due c box.0 box.1 (state.only_these c h);
  }

  -- the sets of the four passes
  deck_lifts : ℕ → Bool
  deck_lifts p = lifted p && deck p

  hold_lifts : ℕ → Bool
  hold_lifts p = lifted p && not (deck p)

  hold_puts : ℕ → Bool
  hold_puts p = due p && not (deck p)

  deck_puts : ℕ → Bool
  deck_puts p = due p && deck p

  abbrev pub now_off : ℕ → Bool
  now_off k = cond (opened k) true false

  lifted_moves : (p : ℕ) → lifted p ≡ true → moved p ≡ true
  lifted_moves p l = true_from_ne_false (moved p) (λ m. both_ways (lifted p) (facts.moved_false p m).0 l)

  -- what is lifted stands in the plan
  lifted_inside : (p : ℕ) → lifted p ≡ true → p < length (places ship)
  lifted_inside p l = let was = facts.only p l in let inside : p < length old = slice_get_within old p (Some was.0) was.1 in omega (arith, facts.old_formed.each_place)

  due_inside : (p : ℕ) → due p ≡ true → p < length (places ship)
  due_inside p d = let was = (facts.due_true p d).1 in let inside : p < length new = slice_get_within new p (Some was.0) was.1 in omega (arith, facts.new_stowed.well_formed.each_place)

  -- pass 1: off the covers that are to open
  pub pass_1 : Reaches ship cargo call (start ship cargo call old) (lifts_down (λ p. lifted p && deck p) (length (places ship))) (AfterLifts cargo call old (λ p. false || (lifted p && deck p)) (start ship cargo call old).off)
  pass_1 = lift_run ship cargo call old new lifted (λ p. lifted p && deck p) (length (places ship)) (λ p. false) (start ship cargo call old) facts.old_formed facts.closed facts.only facts.later
      (record {
        due = λ p f. (and_parts (lifted p) (deck p) f).0;
        with_over = λ p q over f l. and_from (lifted q) (deck q) l (facts.deck_same q p over ∙ (and_parts (lifted p) (deck p) f).1);
        open_over = λ p k place f is under. absurd (both_ways (deck p) (facts.deck_not_under p k place is under) (and_parts (lifted p) (deck p) f).1);
      })
      (starts ship cargo call old)
      (λ p f l. let inside : p < length (places ship) = lifted_inside p (and_parts (lifted p) (deck p) f).0 in absurd (omega arith))
      (λ p f l. refl)

  -- pass 2: the covers off
  bare : (t : State) → AfterLifts cargo call old (λ p. false || (lifted p && deck p)) (start ship cargo call old).off t → (k : ℕ) → opened k ≡ true → IsBare ship t.plan k
  bare t state k o p c place is on held =
      let was = still_held {old = old} {gone = λ p. false || (lifted p && deck p)} {plan = t.plan} state.state.plan p c held in
      let why = facts.opened_for k o in
      let over : IsOnCoverOf ship p why.0 = record { upper = place; is_upper = is; lower = why.1.0; is_lower = why.1.1; cover = k; on = on; under = why.1.2 } in
      let due_to_go : lifted p ≡ true = ⊎_elim (λ (l : lifted why.0 ≡ true). facts.closed.on_cover p why.0 c was.1 over l) (λ (d : slice_get old why.0 ≡ slice_get new why.0 → ⊥). facts.closed.on_opened p why.0 c was.1 over d) (facts.moved_true why.0 why.2) in
      both_ways (lifted p && deck p) was.0 (and_from (lifted p) (deck p) due_to_go (facts.deck_stands p k place is on))

  cover_known : (k : ℕ) → opened k ≡ true → (cover : Cover) × (slice_get ship.covers k ≡ Some cover)
  cover_known k o = let why = facts.opened_for k o in (why.1.2.cover, why.1.2.is_cover)

  pub pass_2 : (t : State) → AfterLifts cargo call old (λ p. false || (lifted p && deck p)) (start ship cargo call old).off t → Reaches ship cargo call t (covers_down OffCover opened (length ship.covers)) (AfterCovers ship now_off t)
  pass_2 t state = cover_run ship cargo call OffCover true opened (length ship.covers) (λ k. false) t
      (record {
        known = cover_known;
        can = λ u k same o shut. (shut, subst (λ (x : Plan). IsBare ship x k) (sym same) (bare t state k o));
        plan_kept = λ u k. refl;
        quay_kept = λ u k. refl;
        off_set = λ u k. refl;
      })
      (λ k cover known. ap (λ (x : List Bool). slice_get x k) state.off_same ∙ off_of ship.covers k cover known)
      (λ k o l. let cover = cover_known k o in let inside : k < length ship.covers = slice_get_within ship.covers k cover.0 cover.1 in absurd (omega arith))
      (λ k o l. refl)

  -- a place under a cover, of the set or due, has its cover off
  opened_over : (off : List Bool) → OffIs ship now_off off → (p k : ℕ) (place : Place) → moved p ≡ true → slice_get (places ship) p ≡ Some place → LiesUnder ship place.stack k → slice_get off k ≡ Some true
  opened_over off is_off p k place m is under = is_off k under.cover under.is_cover ∙ ap Some (cond-true (opened k) true false (facts.opened_by k p place is under m))

  -- pass 3: out of the hold
  pub pass_3 : (t : State) → LiftState cargo call old (λ p. false || (lifted p && deck p)) t → OffIs ship now_off t.off → Reaches ship cargo call t (lifts_down (λ p. lifted p && not (deck p)) (length (places ship))) (AfterLifts cargo call old (λ p. (false || (lifted p && deck p)) || (lifted p && not (deck p))) t.off)
  pass_3 t state is_off = lift_run ship cargo call old new lifted (λ p. lifted p && not (deck p)) (length (places ship)) (λ p. false || (lifted p && deck p)) t facts.old_formed facts.closed facts.only facts.later
      (record {
        due = λ p f. (and_parts (lifted p) (not (deck p)) f).0;
        with_over = λ p q over f l. and_from (lifted q) (not (deck q)) l (ap not (facts.deck_same q p over) ∙ (and_parts (lifted p) (not (deck p)) f).1);
        open_over = λ p k place f is under. opened_over t.off is_off p k place (lifted_moves p (and_parts (lifted p) (not (deck p)) f).0) is under;
      })
      state
      (λ p f l. let inside : p < length (places ship) = lifted_inside p (and_parts (lifted p) (not (deck p)) f).0 in absurd (omega arith))
      (λ p f l. and_right (lifted p) (deck p) (not-true (deck p) (and_parts (lifted p) (not (deck p)) f).1))

  all_lifted : (p : ℕ) → ((false || (lifted p && deck p)) || (lifted p && not (deck p))) ≡ lifted p
  all_lifted p = split (lifted p) (deck p)
    where
      split : (a b : Bool) → ((false || (a && b)) || (a && not b)) ≡ a
      split true true = refl
      split true false = refl
      split false b = refl

  -- pass 4: into the hold
  pass_4 : (t : State) → PutState new due t → OffIs ship now_off t.off → Reaches ship cargo call t (puts_from (λ p. due p && not (deck p)) new 0 (length (places ship))) (AfterPuts new (λ p. due p && not (due p && not (deck p))) t.off)
  pass_4 t state is_off = put_run ship cargo call new (λ p. due p && not (deck p)) (length (places ship)) 0 due t facts.new_stowed facts.later
      (record {
        filled = λ p f. (facts.due_true p (and_parts (due p) (not (deck p)) f).0).1;
        with_under = λ p q over f w. and_from (due q) (not (deck q)) w (ap not (sym (facts.deck_same p q over)) ∙ (and_parts (due p) (not (deck p)) f).1);
        open_over = λ p k place f is under. opened_over t.off is_off p k place (facts.due_true p (and_parts (due p) (not (deck p)) f).0).0 is under;
        shut_under = λ p k place f is on. absurd (both_ways (deck p) (not-true (deck p) (and_parts (due p) (not (deck p)) f).1) (facts.deck_stands p k place is on));
      })
      state
      (λ p f l. absurd (omega arith))
      (λ p f l. (and_parts (due p) (not (deck p)) f).0)
      (λ p f. let inside : p < length (places ship) = due_inside p (and_parts (due p) (not (deck p)) f).0 in omega arith)

  -- pass 5: the covers on
  pass_5 : (t : State) → OffIs ship now_off t.off → Reaches ship cargo call t (covers_down OnCover opened (length ship.covers)) (AfterCovers ship (λ k. cond (opened k) false (now_off k)) t)
  pass_5 t is_off = cover_run ship cargo call OnCover false opened (length ship.covers) now_off t
      (record {
        known = cover_known;
        can = λ u k same o off. off;
        plan_kept = λ u k. refl;
        quay_kept = λ u k. refl;
        off_set = λ u k. refl;
      })
      is_off
      (λ k o l. let cover = cover_known k o in let inside : k < length ship.covers = slice_get_within ship.covers k cover.0 cover.1 in absurd (omega arith))
      (λ k o l. cond-true (opened k) true false o)

  all_shut : (k : ℕ) → cond (opened k) false (now_off k) ≡ false
  all_shut k = split (opened k)
    where
      split : (b : Bool) → cond b false (cond b true false) ≡ false
      split true = refl
      split false = refl

  -- pass 6: on the covers
  pass_6 : (t : State) → PutState new (λ p. due p && not (due p && not (deck p))) t → AllOn ship t.off → Reaches ship cargo call t (puts_from (λ p. due p && deck p) new 0 (length (places ship))) (AfterPuts new (λ p. (due p && not (due p && not (deck p))) && not (due p && deck p)) t.off)
  pass_6 t state on = put_run ship cargo call new (λ p. due p && deck p) (length (places ship)) 0 (λ p. due p && not (due p && not (deck p))) t facts.new_stowed facts.later
      (record {
        filled = λ p f. (facts.due_true p (and_parts (due p) (deck p) f).0).1;
        with_under = λ p q over f w. and_from (due q) (deck q) (and_parts (due q) (not (due q && not (deck q))) w).0 (sym (facts.deck_same p q over) ∙ (and_parts (due p) (deck p) f).1);
        open_over = λ p k place f is under. absurd (both_ways (deck p) (facts.deck_not_under p k place is under) (and_parts (due p) (deck p) f).1);
        shut_under = λ p k place f is is_on. on k is_on.cover is_on.is_cover;
      })
      state
      (λ p f l. absurd (omega arith))
      (λ p f l. let parts = and_parts (due p) (deck p) f in and_from (due p) (not (due p && not (deck p))) parts.0 (not_from_false (due p && not (deck p)) (and_right (due p) (not (deck p)) (not_from_true (deck p) parts.1))))
      (λ p f. let inside : p < length (places ship) = due_inside p (and_parts (due p) (deck p) f).0 in omega arith)

  none_due : (p : ℕ) → ((due p && not (due p && not (deck p))) && not (due p && deck p)) ≡ false
  none_due p = split (due p) (deck p)
    where
      split : (a b : Bool) → ((a && not (a && not b)) && not (a && b)) ≡ false
      split true true = refl
      split true false = refl
      split false b = refl

  -- the moves of the call
  abbrev pub moves : List Move
  moves = lifts_down (λ p. lifted p && deck p) (length (places ship)) ++ (covers_down OffCover opened (length ship.covers) ++ (lifts_down (λ p. lifted p && not (deck p)) (length (places ship)) ++ (puts_from (λ p. due p && not (deck p)) new 0 (length (places ship)) ++ (covers_down OnCover opened (length ship.covers) ++ puts_from (λ p. due p && deck p) new 0 (length (places ship))))))

  -- the plan is the new one, the quay is empty and all covers are on
  pub record IsDone (s : State) : Type 0 where
    pub plan : s.plan ≡ new
    pub quay_empty : (c : ℕ) → slice_get s.quay c ≡ Some true → ⊥
    pub covers_on : AllOn ship s.off

  -- the end: all passes one after another
  pub moves_reach : Reaches ship cargo call (start ship cargo call old) moves IsDone
  moves_reach =
      then ship cargo call (lifts_down (λ p. lifted p && deck p) (length (places ship))) _ (start ship cargo call old) (AfterLifts cargo call old (λ p. false || (lifted p && deck p)) (start ship cargo call old).off) IsDone pass_1 (λ t state.
      then ship cargo call (covers_down OffCover opened (length ship.covers)) _ t (AfterCovers ship now_off t) IsDone (pass_2 t state) (λ u covers.
      then ship cargo call (lifts_down (λ p. lifted p && not (deck p)) (length (places ship))) _ u (AfterLifts cargo call old (λ p. (false || (lifted p && deck p)) || (lifted p && not (deck p))) u.off) IsDone (pass_3 u (lift_state_moved cargo call old (λ p. false || (lifted p && deck p)) t u covers.plan_same covers.quay_same state.state) covers.off_is) (λ v lifts.
      let off_v : OffIs ship now_off v.off = λ k cover known. ap (λ (x : List Bool). slice_get x k) lifts.off_same ∙ covers.off_is k cover known in
      then ship cargo call (puts_from (λ p. due p && not (deck p)) new 0 (length (places ship))) _ v (AfterPuts new (λ p. due p && not (due p && not (deck p))) v.off) IsDone (pass_4 v (mid v (subst (λ (g : ℕ → Bool). LiftState cargo call old g v) (fun_ext all_lifted) lifts.state)) off_v) (λ w puts.
      let off_w : OffIs ship now_off w.off = λ k cover known. ap (λ (x : List Bool). slice_get x k) puts.off_same ∙ off_v k cover known in
      then ship cargo call (covers_down OnCover opened (length ship.covers)) _ w (AfterCovers ship (λ k. cond (opened k) false (now_off k)) w) IsDone (pass_5 w off_w) (λ x shut.
      let on : AllOn ship x.off = λ k cover known. shut.off_is k cover known ∙ ap Some (all_shut k) in
      let last = pass_6 x (put_state_moved new (λ p. due p && not (due p && not (deck p))) w x shut.plan_same shut.quay_same puts.state) on in (
        last.0,
        record {
          plan = same_reads (end_of cargo call x (puts_from (λ p. due p && deck p) new 0 (length (places ship)))).plan new (λ p. last.1.state.plan.settled p (none_due p));
          quay_empty = λ c h. let d = last.1.state.only_due c h in both_ways _ (none_due d.place) d.waiting;
          covers_on = λ k cover known. ap (λ (y : List Bool). slice_get y k) last.1.off_same ∙ on k cover known;
        },
      ))))))
