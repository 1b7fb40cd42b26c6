-- What every allowed list of moves lifts.
use Rattle.std.specs.Prelude.{◌≡◌, ℕ, Bool, true, false, List, [], ◌∷◌, Option, Some, None, slice_get, slice_set, ◌==◌, ◌+◌}
use Rattle.std.specs.List.{list_any}
use Rattle.std.proofs.Common.{refl, sym, ◌∙◌, ap, subst, ⊎_elim}
use Rattle.std.proofs.lemmas.Bool.{or_parts, or_cases, or_left, or_right, eqb-false, eqb-true, both_ways, cases_eq, false_from_ne_true, true_from_ne_false}
use Rattle.std.proofs.lemmas.Option.{same_Some}
use Rattle.stow_data.specs.declared.geometry.Place.{Place}
use Rattle.stow_data.specs.declared.geometry.Span.{Span}
use Rattle.stow_data.specs.declared.geometry.Span.TheVariants.{Fore, Aft, Both}
use Rattle.voyage_meaning.specs.declared.moves.Move.{Move}
use Rattle.voyage_meaning.specs.declared.moves.Move.TheVariants.{OffCover, OnCover, Lift, Put}
use Rattle.stow_data.specs.Ship.{Ship, places, LiesUnder, StandsOn, TakesSide}
use Rattle.stow_data.specs.Shipment.{Cargo}
use Rattle.stowage_rules.proofs.Items.{slice_get-set_other, slice_get-set_same}
use Rattle.stowage_rules.specs.Plan.{Holds}
use Rattle.voyage_meaning.specs.Moves.{State, Allowed, AllAllowed, after, end_of, CanPut}
use Rattle.voyage_meaning.specs.Voyage.{AllOn}
use Rattle.plan_lifts.specs.Least.{IsOver, IsOnCoverOf, IsClosed}

-- the move lifts from place p; some move of a list does
abbrev pub lifts_from : ℕ → Move → Bool
lifts_from p (Lift q) = p == q
lifts_from p (Put c q) = false
lifts_from p (OffCover k) = false
lifts_from p (OnCover k) = false

abbrev pub is_lifted : List Move → ℕ → Bool
is_lifted ms p = list_any (lifts_from p) ms

-- every place has a half-cell
abbrev side_of : Span → Bool
side_of Fore = false
side_of Aft = true
side_of Both = false

takes_its_side : (s : Span) → TakesSide s (side_of s)
takes_its_side Fore = refl
takes_its_side Aft = refl
takes_its_side Both = tt

-- a put doesn't reach a place that is filled
pub put_elsewhere : (ship : Ship) (cargo : Cargo) (call : ℕ) (s : State) (p q c d : ℕ) → Holds s.plan p c → CanPut ship cargo s d q → p ≡ q → ⊥
put_elsewhere ship cargo call s p q c d held can e =
    can.empty (side_of can.place.span) c (takes_its_side can.place.span) (record { number = p; place = can.place; is_place = ap (slice_get (places ship)) e ∙ can.is_place; has_half = record { same_stack = refl; same_tier = refl; side = takes_its_side can.place.span }; holds = held })

-- one move keeps what it doesn't lift
pub step_keeps : (ship : Ship) (cargo : Cargo) (call : ℕ) (s : State) (m : Move) (p c : ℕ) → Holds s.plan p c → Allowed ship cargo s m → lifts_from p m ≡ false → Holds (after cargo call s m).plan p c
step_keeps ship cargo call s (Lift q) p c held can stays = slice_get-set_other s.plan q p None (eqb-false p q stays) ∙ held
step_keeps ship cargo call s (Put d q) p c held can stays = slice_get-set_other s.plan q p (Some d) (put_elsewhere ship cargo call s p q c d held can) ∙ held
step_keeps ship cargo call s (OffCover k) p c held can stays = held
step_keeps ship cargo call s (OnCover k) p c held can stays = held

-- what isn't lifted stays
pub run_keeps : (ship : Ship) (cargo : Cargo) (call : ℕ) (ms : List Move) (s : State) (p c : ℕ) → Holds s.plan p c → AllAllowed ship cargo call s ms → is_lifted ms p ≡ false → Holds (end_of cargo call s ms).plan p c
run_keeps ship cargo call [] s p c held all stays = held
run_keeps ship cargo call (m ∷ ms) s p c held all stays =
    let parts = or_parts (lifts_from p m) (is_lifted ms p) stays in
    run_keeps ship cargo call ms (after cargo call s m) p c (step_keeps ship cargo call s m p c held all.0 parts.0) all.1 parts.1

-- where something stands over a place, nothing is lifted from the place
lift_is_clear : (ship : Ship) (cargo : Cargo) (call : ℕ) (s : State) (m : Move) (p q c : ℕ) → Holds s.plan p c → IsOver ship p q → Allowed ship cargo s m → lifts_from q m ≡ true → ⊥
lift_is_clear ship cargo call s (Lift r) p q c held over can hits =
    let same : ◌≡◌ {A = Option Place} (Some over.lower) (Some can.place) = sym over.is_lower ∙ (ap (slice_get (places ship)) (eqb-true q r hits) ∙ can.is_place) in
    let one : over.lower ≡ can.place = cc in
    can.clear over.side c (subst (λ (x : Place). TakesSide x.span over.side) one over.lower_has)
    (record { number = p; place = over.upper; is_place = over.is_upper; holds = held; has_half = record { same_stack = sym (over.same_stack ∙ ap (λ (x : Place). x.stack) one); same_tier = sym (over.next_tier ∙ ap (λ (x : Place). x.tier + 1) one); side = over.upper_has } })
lift_is_clear ship cargo call s (Put d r) p q c held over can hits = both_ways false refl hits
lift_is_clear ship cargo call s (OffCover k) p q c held over can hits = both_ways false refl hits
lift_is_clear ship cargo call s (OnCover k) p q c held over can hits = both_ways false refl hits

-- so what stands over a lifted place is lifted
over_stays : (ship : Ship) (cargo : Cargo) (call : ℕ) (ms : List Move) (s : State) (p q c : ℕ) → Holds s.plan p c → IsOver ship p q → AllAllowed ship cargo call s ms → is_lifted ms p ≡ false → is_lifted ms q ≡ true → ⊥
over_stays ship cargo call [] s p q c held over all stays hits = both_ways false refl hits
over_stays ship cargo call (m ∷ ms) s p q c held over all stays hits =
    let parts = or_parts (lifts_from p m) (is_lifted ms p) stays in
    let P : Type 0 = ⊥ in
    ⊎_elim (λ (h : lifts_from q m ≡ true). lift_is_clear ship cargo call s m p q c held over all.0 h)
    (λ (h : is_lifted ms q ≡ true). over_stays ship cargo call ms (after cargo call s m) p q c (step_keeps ship cargo call s m p c held all.0 parts.0) over all.1 parts.1 h)
    (or_cases (lifts_from q m) (is_lifted ms q) hits)

-- whether the move opens the cover; whether it lifts from the place or puts on it
abbrev pub opens : ℕ → Move → Bool
opens k (OffCover j) = k == j
opens k (Lift q) = false
opens k (Put c q) = false
opens k (OnCover j) = false

abbrev pub touches : ℕ → Move → Bool
touches p (Lift q) = p == q
touches p (Put c q) = p == q
touches p (OffCover k) = false
touches p (OnCover k) = false

-- a cover that is on stays on where the move doesn't open it
step_keeps_on : (cargo : Cargo) (call : ℕ) (s : State) (m : Move) (k : ℕ) → slice_get s.off k ≡ Some false → opens k m ≡ false → slice_get (after cargo call s m).off k ≡ Some false
step_keeps_on cargo call s (Lift q) k on shut = on
step_keeps_on cargo call s (Put c q) k on shut = on
step_keeps_on cargo call s (OffCover j) k on shut = slice_get-set_other s.off j k true (eqb-false k j shut) ∙ on
step_keeps_on cargo call s (OnCover j) k on shut =
    ⊎_elim (λ (e : k ≡ j). subst (λ (x : ℕ). slice_get (slice_set s.off x false) k ≡ Some false) e (slice_get-set_same s.off k false false on))
    (λ (ne : k ≡ j → ⊥). slice_get-set_other s.off j k false ne ∙ on)
    (cases_eq k j)

-- a touch of a place wants the cover over it off
touch_wants_off : (ship : Ship) (cargo : Cargo) (call : ℕ) (s : State) (m : Move) (p k : ℕ) (place : Place) → slice_get (places ship) p ≡ Some place → LiesUnder ship place.stack k → Allowed ship cargo s m → touches p m ≡ true → slice_get s.off k ≡ Some true
touch_wants_off ship cargo call s (Lift q) p k place is under can hits =
    let same : ◌≡◌ {A = Option Place} (Some place) (Some can.place) = sym is ∙ (ap (slice_get (places ship)) (eqb-true p q hits) ∙ can.is_place) in
    let one : place ≡ can.place = cc in
    can.cover_off k (subst (λ (x : Place). LiesUnder ship x.stack k) one under)
touch_wants_off ship cargo call s (Put c q) p k place is under can hits =
    let same : ◌≡◌ {A = Option Place} (Some place) (Some can.place) = sym is ∙ (ap (slice_get (places ship)) (eqb-true p q hits) ∙ can.is_place) in
    let one : place ≡ can.place = cc in
    can.cover_off k (subst (λ (x : Place). LiesUnder ship x.stack k) one under)
touch_wants_off ship cargo call s (OffCover j) p k place is under can hits = absurd (both_ways false refl hits)
touch_wants_off ship cargo call s (OnCover j) p k place is under can hits = absurd (both_ways false refl hits)

-- a cover that carries something isn't opened
opening_is_bare : (ship : Ship) (cargo : Cargo) (call : ℕ) (s : State) (m : Move) (p k c : ℕ) (place : Place) → slice_get (places ship) p ≡ Some place → StandsOn ship place.stack k → Holds s.plan p c → Allowed ship cargo s m → opens k m ≡ true → ⊥
opening_is_bare ship cargo call s (Lift q) p k c place is on held can hits = both_ways false refl hits
opening_is_bare ship cargo call s (Put d q) p k c place is on held can hits = both_ways false refl hits
opening_is_bare ship cargo call s (OffCover j) p k c place is on held can hits = can.1 p c place is (subst (λ (x : ℕ). StandsOn ship place.stack x) (eqb-true k j hits) on) held
opening_is_bare ship cargo call s (OnCover j) p k c place is on held can hits = both_ways false refl hits

-- while something stays on a cover that is on, no place under it is touched
under_stays : (ship : Ship) (cargo : Cargo) (call : ℕ) (ms : List Move) (s : State) (p q c : ℕ) → Holds s.plan p c → (over : IsOnCoverOf ship p q) → slice_get s.off over.cover ≡ Some false → AllAllowed ship cargo call s ms → is_lifted ms p ≡ false → list_any (touches q) ms ≡ true → ⊥
under_stays ship cargo call [] s p q c held over on all stays hits = both_ways false refl hits
under_stays ship cargo call (m ∷ ms) s p q c held over on all stays hits =
    let parts = or_parts (lifts_from p m) (is_lifted ms p) stays in
    let shut : opens over.cover m ≡ false = false_from_ne_true _ (λ h. opening_is_bare ship cargo call s m p over.cover c over.upper over.is_upper over.on held all.0 h) in
    ⊎_elim (λ (h : touches q m ≡ true). let off = touch_wants_off ship cargo call s m q over.cover over.lower over.is_lower over.under all.0 h in both_ways true (same_Some _ _ (sym off ∙ on)) refl)
    (λ (h : list_any (touches q) ms ≡ true). under_stays ship cargo call ms (after cargo call s m) p q c (step_keeps ship cargo call s m p c held all.0 parts.0) over (step_keeps_on cargo call s m over.cover on shut) all.1 parts.1 h)
    (or_cases (touches q m) (list_any (touches q) ms) hits)

-- what isn't touched stays as it is
step_same : (cargo : Cargo) (call : ℕ) (s : State) (m : Move) (p : ℕ) → touches p m ≡ false → slice_get (after cargo call s m).plan p ≡ slice_get s.plan p
step_same cargo call s (Lift q) p shut = slice_get-set_other s.plan q p None (eqb-false p q shut)
step_same cargo call s (Put c q) p shut = slice_get-set_other s.plan q p (Some c) (eqb-false p q shut)
step_same cargo call s (OffCover k) p shut = refl
step_same cargo call s (OnCover k) p shut = refl

run_same : (cargo : Cargo) (call : ℕ) (ms : List Move) (s : State) (p : ℕ) → list_any (touches p) ms ≡ false → slice_get (end_of cargo call s ms).plan p ≡ slice_get s.plan p
run_same cargo call [] s p shut = refl
run_same cargo call (m ∷ ms) s p shut =
    let parts = or_parts (touches p m) (list_any (touches p) ms) shut in
    run_same cargo call ms (after cargo call s m) p parts.1 ∙ step_same cargo call s m p parts.0

-- a lift touches
lift_touches : (p : ℕ) (m : Move) → lifts_from p m ≡ true → touches p m ≡ true
lift_touches p (Lift q) h = h
lift_touches p (Put c q) h = absurd (both_ways false refl h)
lift_touches p (OffCover k) h = absurd (both_ways false refl h)
lift_touches p (OnCover k) h = absurd (both_ways false refl h)

lifted_is_touched : (p : ℕ) (ms : List Move) → is_lifted ms p ≡ true → list_any (touches p) ms ≡ true
lifted_is_touched p [] h = absurd (both_ways false refl h)
lifted_is_touched p (m ∷ ms) h =
    ⊎_elim (λ (x : lifts_from p m ≡ true). or_left _ _ (lift_touches p m x)) (λ (x : is_lifted ms p ≡ true). or_right _ _ (lifted_is_touched p ms x)) (or_cases (lifts_from p m) (is_lifted ms p) h)

-- The places that an allowed list of moves lifts from are a closed set.
pub lifted_closed : (ship : Ship) (cargo : Cargo) (call : ℕ) (ms : List Move) (s : State) → AllOn ship s.off → AllAllowed ship cargo call s ms → IsClosed ship s.plan (end_of cargo call s ms).plan (is_lifted ms)
lifted_closed ship cargo call ms s on all = record {
  changed = λ p c held moved. true_from_ne_false _ (λ stays. moved (run_keeps ship cargo call ms s p c held all stays));
  over = λ p q c held over hits. true_from_ne_false _ (λ stays. over_stays ship cargo call ms s p q c held over all stays hits);
  on_cover = λ p q c held over hits. true_from_ne_false _ (λ stays. under_stays ship cargo call ms s p q c held over (cover_on over) all stays (lifted_is_touched q ms hits));
  on_opened = λ p q c held over moved. true_from_ne_false _ (λ stays. moved (sym (run_same cargo call ms s q (false_from_ne_true _ (λ hits. under_stays ship cargo call ms s p q c held over (cover_on over) all stays hits)))));
}
  where
    cover_on : {p q : ℕ} (over : IsOnCoverOf ship p q) → slice_get s.off over.cover ≡ Some false
    cover_on over = on over.cover over.on.cover over.on.is_cover
