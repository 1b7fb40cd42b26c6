-- One lift, and one put, of the moves that lift a closed set and put what is due.
use Rattle.std.specs.Prelude.{◌≡◌, ℕ, Bool, true, false, Some, None, slice_get, slice_set, ◌||◌, ◌&&◌, not, ◌==◌, length, ◌<◌, ◌+◌}
use Rattle.std.proofs.Common.{refl, sym, ◌∙◌, ap, arith, subst, ⊎_elim}
use Rattle.std.proofs.lemmas.Bool.{and_parts, and_cases, not-true, not-false, both_ways, or_cases, or_parts, eqb-true, eqb-false, false_from_ne_true, cases_eq}
use Rattle.std.proofs.lemmas.Option.{none-some, same_Some, slice_get_within}
use Rattle.stow_data.specs.declared.geometry.Place.{Place}
use Rattle.stow_data.specs.declared.geometry.Length.{Length}
use Rattle.stow_data.specs.declared.geometry.Length.TheVariants.{Twenty, Forty}
use Rattle.stow_data.specs.Ship.{Ship, places, half_at, LiesUnder, StandsOn}
use Rattle.stow_data.specs.Shipment.{Cargo}
use Rattle.stow_data.specs.Plans.{Plan}
use Rattle.stowage_rules.specs.Plan.{Holds, Fills, IsWellFormed, Stands}
use Rattle.stowage_rules.specs.Departure.{IsStowed, IsTwenty}
use Rattle.voyage_meaning.specs.Moves.{State, CanPut, CanLift, Bears}
use Rattle.plan_lifts.specs.Least.{IsOver, IsClosed}
use Rattle.stowage_rules.proofs.Items.{slice_get-set_other, slice_get-set_same, slice_get_in}

-- s is the old plan without the places that are gone
pub record Lifting (old : Plan) (gone : ℕ → Bool) (plan : Plan) : Type 0 where
  pub gone_empty : (p : ℕ) → gone p ≡ true → slice_get plan p ≡ Some None
  pub others : (p : ℕ) → gone p ≡ false → slice_get plan p ≡ slice_get old p

-- what is still there was there
pub still_held : {old : Plan} {gone : ℕ → Bool} {plan : Plan} (s : Lifting old gone plan) (p c : ℕ) → Holds plan p c → (gone p ≡ false) × Holds old p c
still_held {old} {gone} s p c held =
    let stays : gone p ≡ false = false_from_ne_true (gone p) (λ h. none-some c (same_Some None (Some c) (sym (s.gone_empty p h) ∙ held))) in
    (stays, sym (s.others p stays) ∙ held)

-- one more place is gone
pub lifting_more : (old : Plan) (gone : ℕ → Bool) (plan : Plan) (n c : ℕ) → Lifting old gone plan → Holds plan n c → Lifting old (λ p. p == n || gone p) (slice_set plan n None)
lifting_more old gone plan n c s held = record {
  gone_empty = λ p h. ⊎_elim (λ (e : p ≡ n). subst (λ (x : ℕ). slice_get (slice_set plan n None) x ≡ Some None) (sym e) (slice_get-set_same plan n None (Some c) held))
      (λ (ne : p ≡ n → ⊥). slice_get-set_other plan n p None ne ∙ s.gone_empty p (⊎_elim (λ (e : (p == n) ≡ true). absurd (ne (eqb-true p n e))) (λ (x : gone p ≡ true). x) (or_cases (p == n) (gone p) h)))
      (cases_eq p n);
  others = λ p h. slice_get-set_other plan n p None (eqb-false p n (or_parts (p == n) (gone p) h).0) ∙ s.others p (or_parts (p == n) (gone p) h).1;
}

pub place_of : (ship : Ship) (cargo : Cargo) (plan : Plan) → IsWellFormed ship cargo plan → (p c : ℕ) → Holds plan p c → (place : Place) × (slice_get (places ship) p ≡ Some place)
place_of ship cargo plan formed p c held =
    let inside : p < length plan = slice_get_within plan p (Some c) held in
    slice_get_in (places ship) p (omega (arith, formed.each_place))

-- a place of the set is lifted, once all above it of the set are gone
pub can_lift : (ship : Ship) (cargo : Cargo) (old new : Plan) (lifted gone : ℕ → Bool) (s : State) (n : ℕ)
    → IsWellFormed ship cargo old
    → IsClosed ship old new lifted
    → Lifting old gone s.plan → (c : ℕ) → Holds s.plan n c → lifted n ≡ true
    → ((q : ℕ) → IsOver ship q n → lifted q ≡ true → gone q ≡ true)
    → ((k : ℕ) (place : Place) → slice_get (places ship) n ≡ Some place → LiesUnder ship place.stack k → slice_get s.off k ≡ Some true)
    → CanLift ship s n
can_lift ship cargo old new lifted gone s n formed closed state c held due above_gone covers_off =
    let place = place_of ship cargo old formed n c (still_held state n c held).1 in
    record {
      place = place.0;
      is_place = place.1;
      container = c;
      filled = held;
      clear = λ side d has fills.
          let was = still_held state fills.number d fills.holds in
          let up : IsOver ship fills.number n = record { upper = fills.place; is_upper = fills.is_place; lower = place.0; is_lower = place.1; side = side; upper_has = fills.has_half.side; lower_has = has; same_stack = sym fills.has_half.same_stack; next_tier = sym fills.has_half.same_tier } in
          both_ways (gone fills.number) was.0 (above_gone fills.number up (closed.over fills.number n d was.1 up due));
      cover_off = λ k under. covers_off k place.0 place.1 under;
    }

-- s is the new plan without the places that wait
pub record Putting (new : Plan) (waits : ℕ → Bool) (plan : Plan) : Type 0 where
  pub waiting_empty : (p : ℕ) → waits p ≡ true → slice_get plan p ≡ Some None
  pub settled : (p : ℕ) → waits p ≡ false → slice_get plan p ≡ slice_get new p

-- what is there already is in its place
pub settled_held : {new : Plan} {waits : ℕ → Bool} {plan : Plan} (s : Putting new waits plan) (p c : ℕ) → Holds plan p c → (waits p ≡ false) × Holds new p c
settled_held {new} {waits} s p c held =
    let stays : waits p ≡ false = false_from_ne_true (waits p) (λ h. none-some c (same_Some None (Some c) (sym (s.waiting_empty p h) ∙ held))) in
    (stays, sym (s.settled p stays) ∙ held)

-- one more place is settled
pub putting_more : (new : Plan) (waits : ℕ → Bool) (plan : Plan) (n c : ℕ) → Putting new waits plan → Holds new n c → waits n ≡ true → Putting new (λ p. waits p && not (p == n)) (slice_set plan n (Some c))
putting_more new waits plan n c s held due = record {
  waiting_empty = λ p h. let parts = and_parts (waits p) (not (p == n)) h in slice_get-set_other plan n p (Some c) (eqb-false p n (not-true (p == n) parts.1)) ∙ s.waiting_empty p parts.0;
  settled = λ p h. ⊎_elim (λ (e : p ≡ n). subst (λ (x : ℕ). slice_get (slice_set plan n (Some c)) x ≡ slice_get new x) (sym e) (slice_get-set_same plan n (Some c) None (s.waiting_empty n due) ∙ sym held))
      (λ (ne : p ≡ n → ⊥). slice_get-set_other plan n p (Some c) ne ∙ s.settled p (⊎_elim (λ (x : waits p ≡ false). x) (λ (x : not (p == n) ≡ false). absurd (ne (eqb-true p n (not-false (p == n) x)))) (and_cases (waits p) (not (p == n)) h)))
      (cases_eq p n);
}

bears_from : (cargo : Cargo) (long : Length) (d : ℕ) → (long ≡ Twenty → IsTwenty cargo d) → Bears cargo long d
bears_from cargo Twenty d h = h refl
bears_from cargo Forty d h = tt

-- a place that waits is filled, once all below it are settled
pub can_put : (ship : Ship) (cargo : Cargo) (call : ℕ) (new : Plan) (waits : ℕ → Bool) (s : State) (n c : ℕ)
    → IsStowed ship cargo call new
    → Putting new waits s.plan → Holds new n c → waits n ≡ true
    → ((q : ℕ) → IsOver ship n q → waits q ≡ false)
    → slice_get s.quay c ≡ Some true
    → ((k : ℕ) (place : Place) → slice_get (places ship) n ≡ Some place → LiesUnder ship place.stack k → slice_get s.off k ≡ Some true)
    → ((k : ℕ) (place : Place) → slice_get (places ship) n ≡ Some place → StandsOn ship place.stack k → slice_get s.off k ≡ Some false)
    → CanPut ship cargo s c n
can_put ship cargo call new waits s n c stowed state held due below_settled on_quay covers_off covers_on =
    let place = place_of ship cargo new stowed.well_formed n c held in
    let box = stowed.well_formed.known n c held in
    let stands : Stands ship cargo new n c place.0 box.0 = record { is_place = place.1; holds = held; is_container = box.1 } in
    record {
      place = place.0;
      is_place = place.1;
      container = box.0;
      is_container = box.1;
      on_quay = on_quay;
      fits = record { length_fits = stowed.well_formed.fits n c place.0 box.0 stands; has_plug = stowed.plugged n c place.0 box.0 stands };
      cover_off = λ k under. covers_off k place.0 place.1 under;
      cover_on = λ k on. covers_on k place.0 place.1 on;
      empty = λ side d has fills.
          let was = settled_held state fills.number d fills.holds in
          let here : Fills ship new (half_at place.0 side) c = record { number = n; place = place.0; is_place = place.1; has_half = record { same_stack = refl; same_tier = refl; side = has }; holds = held } in
          let there : Fills ship new (half_at place.0 side) d = record { number = fills.number; place = fills.place; is_place = fills.is_place; has_half = fills.has_half; holds = was.1 } in
          both_ways (waits n) (ap waits (stowed.well_formed.apart (half_at place.0 side) c d here there) ∙ was.0) due;
      borne = λ side t has e.
          let here : Fills ship new (record { stack = place.0.stack; tier = t + 1; aft = side }) c = record { number = n; place = place.0; is_place = place.1; has_half = record { same_stack = refl; same_tier = sym e; side = has }; holds = held } in
          let low = stowed.supported place.0.stack t side c here in
          let fills = low.1 in
          let down : IsOver ship n fills.number = record { upper = place.0; is_upper = place.1; lower = fills.place; is_lower = fills.is_place; side = side; upper_has = has; lower_has = fills.has_half.side; same_stack = fills.has_half.same_stack; next_tier = e ∙ ap (λ (x : ℕ). x + 1) fills.has_half.same_tier } in (
            low.0,
            record { number = fills.number; place = fills.place; is_place = fills.is_place; has_half = fills.has_half; holds = state.settled fills.number (below_settled fills.number down) ∙ fills.holds },
            bears_from cargo box.0.long low.0 (λ twenty. stowed.twenty place.0.stack t side c low.0 here fills (box.0, box.1, twenty)),
          );
    }
