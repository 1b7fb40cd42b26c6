-- A move is allowed exactly where it has no fault.
use Rattle.std.specs.Prelude.{◌≡◌, ℕ, ◌+◌, ◌<◌, ◌⊎◌, Bool, true, false, List, Option, Some, None, length, slice_get}
use Rattle.std.proofs.Common.{arith, refl, sym, ◌∙◌, ap, subst, inl, inr, ⊎_elim}
use Rattle.std.proofs.lemmas.Bool.{true≢false, false_from_ne_true, true_from_ne_false}
use Rattle.std.proofs.lemmas.Option.{same_Some, none-some, slice_get_within}
use Rattle.stow_data.specs.declared.geometry.Half.{Half}
use Rattle.stow_data.specs.declared.geometry.Length.{Length}
use Rattle.stow_data.specs.declared.geometry.Length.TheVariants.{Twenty, Forty}
use Rattle.stow_data.specs.declared.geometry.Place.{Place}
use Rattle.stow_data.specs.declared.geometry.Span.{Span}
use Rattle.stow_data.specs.declared.geometry.Span.TheVariants.{Fore, Aft, Both}
use Rattle.stow_data.specs.declared.cargoes.Container.{Container}
use Rattle.stow_data.specs.Ship.{Ship, places, TakesSide, half_at, Fits, FitsAt, fits, LiesUnder, StandsOn}
use Rattle.stow_data.specs.Shipment.{Cargo}
use Rattle.stow_data.proofs.Fitting.{fits_said, fits_shown}
use Rattle.stowage_rules.specs.Plan.{Fills}
use Rattle.stowage_rules.specs.Departure.{half_of, IsTwenty}
use Rattle.stowage_rules.specs.Faults.{OfHalf}
use Rattle.stowage_rules.proofs.Items.{slice_get_in}
use Rattle.stowage_rules.proofs.Standing.{half_number, filled_or_not}
use Rattle.voyage_meaning.specs.declared.moves.Move.{Move}
use Rattle.voyage_meaning.specs.declared.moves.Move.TheVariants.{OffCover, OnCover, Lift, Put}
use Rattle.voyage_meaning.specs.declared.refusals.MoveFault.{MoveFault}
use Rattle.voyage_meaning.specs.declared.refusals.MoveFault.TheVariants.{NotThere, NotOnQuay, DoesNotFit, CoverOver, CoverMissing, Blocked, Taken, Unsupported, Standing, AlreadySo}
use Rattle.voyage_meaning.specs.Moves.{State, Allowed, CanLift, CanPut, Bears, IsBare}
use Rattle.voyage_meaning.specs.Berths.{BelongsTo, IsInRange}
use Rattle.voyage_meaning.specs.Refusals.{OfPlace, IsShutOver, IsOpenUnder, IsFilledIn, IsBearing, IsWeakBelow, IsOnCover, IsMoveFault}
use Rattle.voyage_meaning.proofs.Judged.{placed, contained}
use Rattle.voyage_meaning.proofs.TierSides.{in_tier, below_listed, one_held}
use Rattle.voyage_meaning.proofs.CoversHold.{not_both}

-- a flag is one of both
set_unless : (flags : List Bool) (k : ℕ) → k < length flags → (slice_get flags k ≡ Some false → ⊥) → slice_get flags k ≡ Some true
set_unless flags k l never = let b = slice_get_in flags k l in b.1 ∙ ap Some (true_from_ne_false b.0 (λ f. never (b.1 ∙ ap Some f)))

clear_unless : (flags : List Bool) (k : ℕ) → k < length flags → (slice_get flags k ≡ Some true → ⊥) → slice_get flags k ≡ Some false
clear_unless flags k l never = let b = slice_get_in flags k l in b.1 ∙ ap Some (false_from_ne_true b.0 (λ t. never (b.1 ∙ ap Some t)))

-- a span takes a side
some_side : (s : Span) → (side : Bool) × TakesSide s side
some_side Fore = (false, refl)
some_side Aft = (true, refl)
some_side Both = (false, tt)

twenty_or_not : (cargo : Cargo) (c : ℕ) (o : Option Container) → slice_get cargo.containers c ≡ o → IsTwenty cargo c ⊎ (IsTwenty cargo c → ⊥)
twenty_or_not cargo c None e = inr (λ t. none-some t.0 (sym e ∙ t.1))
twenty_or_not cargo c (Some x) e = by_length x.long refl
  where
    by_length : (long : Length) → x.long ≡ long → IsTwenty cargo c ⊎ (IsTwenty cargo c → ⊥)
    by_length Twenty f = inl (x, e, f)
    by_length Forty f = inr (λ t. let one : t.0 ≡ x = same_Some (t.0) x (sym t.1 ∙ e) in let no : Twenty ≡ Forty = sym t.2 ∙ (ap (λ (z : Container). z.long) one ∙ f) in cc)

bears_or_not : (cargo : Cargo) (long : Length) (d : ℕ) → Bears cargo long d ⊎ (Bears cargo long d → ⊥)
bears_or_not cargo Forty d = inl tt
bears_or_not cargo Twenty d = twenty_or_not cargo d (slice_get cargo.containers d) refl

module _ (ship : Ship) (cargo : Cargo) (s : State) (b : BelongsTo ship cargo s) where
  -- what fills a half-cell bears a container of this length, or not
  bearing_or_not : (long : Length) (h : Half) → IsBearing ship cargo s.plan long h ⊎ (IsBearing ship cargo s.plan long h → ⊥)
  bearing_or_not long h = ⊎_elim
      (λ (x : (d : ℕ) × Fills ship s.plan h d). ⊎_elim
      (λ (y : Bears cargo long x.0). inl (x.0, x.1, y))
      (λ (no : Bears cargo long x.0 → ⊥). inr (λ z. no (subst (λ (d : ℕ). Bears cargo long d) (one_held ship s.plan h z.0 x.0 b.apart z.1 x.1) z.2)))
      (bears_or_not cargo long x.0))
      (λ (none : (d : ℕ) → Fills ship s.plan h d → ⊥). inr (λ z. none z.0 z.1))
      (filled_or_not ship s.plan h)

  -- a filled half-cell of the tier has a number
  filled_number : (place : Place) (tier : ℕ) (side : Bool) (c : ℕ) → TakesSide place.span side → Fills ship s.plan (half_of place.stack tier side) c → (n : ℕ) × OfHalf ship (IsFilledIn ship s.plan place tier) n
  filled_number place tier side c takes x =
      let number = half_number ship x.number x.place (half_of place.stack tier side) x.is_place x.has_half in
      (number.0, record { half = half_of place.stack tier side; is_half = number.1; holds = record { is_in = record { same_stack = refl; same_tier = refl; side = takes }; taken = (c, x) } })

  -- each cover over a stack is off; each cover under it is on
  all_off : (p : ℕ) (place : Place) → slice_get (places ship) p ≡ Some place → ((n : ℕ) → OfPlace ship (λ z. IsShutOver ship s.off z.stack n) p → ⊥) → (k : ℕ) → LiesUnder ship place.stack k → slice_get s.off k ≡ Some true
  all_off p place is none k under = set_unless s.off k
      (let l : k < length ship.covers = slice_get_within ship.covers k under.cover under.is_cover in omega (arith, b.each_cover))
      (λ f. none k (record { place = place; is_place = is; holds = record { under = under; is_on = f } }))

  all_on : (p : ℕ) (place : Place) → slice_get (places ship) p ≡ Some place → ((n : ℕ) → OfPlace ship (λ z. IsOpenUnder ship s.off z.stack n) p → ⊥) → (k : ℕ) → StandsOn ship place.stack k → slice_get s.off k ≡ Some false
  all_on p place is none k on = clear_unless s.off k
      (let l : k < length ship.covers = slice_get_within ship.covers k on.cover on.is_cover in omega (arith, b.each_cover))
      (λ f. none k (record { place = place; is_place = is; holds = record { on = on; is_off = f } }))

  -- a container fits a place, or not
  fit_unless : (c p : ℕ) (place : Place) (container : Container) → slice_get (places ship) p ≡ Some place → slice_get cargo.containers c ≡ Some container → (IsMoveFault ship cargo s (Put c p) DoesNotFit → ⊥) → Fits place container.long container.reefer
  fit_unless c p place container is at none = fits_said place container.long container.reefer (true_from_ne_false (fits place container.long container.reefer) (λ f. none (record {
    container = container;
    is_container = at;
    holds = λ x. true≢false (sym (fits_shown place container.long container.reefer (subst (λ (z : Place). Fits z container.long container.reefer) (same_Some x.place place (sym x.is_place ∙ is)) x.fits)) ∙ f);
  })))

  lift_allowed : (p : ℕ) → p < length s.plan → ((f : MoveFault) → IsMoveFault ship cargo s (Lift p) f → ⊥) → CanLift ship s p
  lift_allowed p l none =
      let entry = slice_get_in s.plan p l in
      let place = slice_get_in (places ship) p (omega (arith, b.each_place)) in
      by_entry (entry.0) place.0 entry.1 place.1
    where
      by_entry : (o : Option ℕ) (place : Place) → slice_get s.plan p ≡ Some o → slice_get (places ship) p ≡ Some place → CanLift ship s p
      by_entry None place e is = absurd (none NotThere e)
      by_entry (Some c) place e is = record {
        place = place;
        is_place = is;
        container = c;
        filled = e;
        clear = λ side d takes x. let n = filled_number place (place.tier + 1) side d takes x in none (Blocked (n.0)) (record { place = place; is_place = is; holds = n.1 });
        cover_off = all_off p place is (λ n x. none (CoverOver n) x);
      }

  put_allowed : (c p : ℕ) → p < length s.plan → c < length s.quay → ((f : MoveFault) → IsMoveFault ship cargo s (Put c p) f → ⊥) → CanPut ship cargo s c p
  put_allowed c p l m none =
      let found = slice_get_in (places ship) p (omega (arith, b.each_place)) in
      let held = slice_get_in cargo.containers c (omega (arith, b.each_container)) in
      let place = found.0 in
      let container = held.0 in
      record {
        place = place;
        is_place = found.1;
        container = container;
        is_container = held.1;
        on_quay = set_unless s.quay c m (λ f. none NotOnQuay f);
        fits = fit_unless c p place container found.1 held.1 (none DoesNotFit);
        cover_off = all_off p place found.1 (λ n x. none (CoverOver n) x);
        cover_on = all_on p place found.1 (λ n x. none (CoverMissing n) x);
        empty = λ side d takes x. let n = filled_number place place.tier side d takes x in none (Taken (n.0)) (record { place = place; is_place = found.1; holds = n.1 });
        borne = λ side t takes up. ⊎_elim
            (λ (x : IsBearing ship cargo s.plan container.long (half_of place.stack t side)). x)
            (λ (no : IsBearing ship cargo s.plan container.long (half_of place.stack t side) → ⊥).
            let n = below_listed ship p place t side found.1 up takes in
            absurd (none (Unsupported (n.0)) (record { container = container; is_container = held.1; holds = record { place = place; is_place = found.1; holds = record { half = half_of place.stack t side; is_half = n.1; holds = record { tier = t; is_above = up; is_in = record { same_stack = refl; same_tier = refl; side = takes }; fails = no } } } })))
            (bearing_or_not container.long (half_of place.stack t side));
      }

  bare : (k : ℕ) → ((f : MoveFault) → IsMoveFault ship cargo s (OffCover k) f → ⊥) → IsBare ship s.plan k
  bare k none p c place is on held =
      let side = some_side place.span in
      let x : Fills ship s.plan (half_at place (side.0)) c = record { number = p; place = place; is_place = is; has_half = record { same_stack = refl; same_tier = refl; side = side.1 }; holds = held } in
      let n = half_number ship p place (half_at place (side.0)) is x.has_half in
      none (Standing (n.0)) (record { half = half_at place (side.0); is_half = n.1; holds = record { on = on; taken = (c, x) } })

  -- where there is no fault, the move is allowed
  pub allowed_from : (m : Move) → IsInRange s m → ((f : MoveFault) → IsMoveFault ship cargo s m f → ⊥) → Allowed ship cargo s m
  allowed_from (Lift p) l none = lift_allowed p l none
  allowed_from (Put c p) l none = put_allowed c p l.0 l.1 none
  allowed_from (OffCover k) l none = (clear_unless s.off k l (λ f. none (AlreadySo k) (refl, f)), bare k none)
  allowed_from (OnCover k) l none = set_unless s.off k l (λ f. none (AlreadySo k) (refl, f))

module _ (ship : Ship) (cargo : Cargo) (s : State) where
  not_off : (stack k : ℕ) → ((n : ℕ) → LiesUnder ship stack n → slice_get s.off n ≡ Some true) → IsShutOver ship s.off stack k → ⊥
  not_off stack k all x = not_both s.off k (all k x.under) x.is_on

  -- a filled half-cell of the tier is in the way
  in_way : (place : Place) (tier h : ℕ) → ((side : Bool) (c : ℕ) → TakesSide place.span side → Fills ship s.plan (half_of place.stack tier side) c → ⊥) → OfHalf ship (IsFilledIn ship s.plan place tier) h → ⊥
  in_way place tier h none x = none x.half.aft (x.holds.taken.0) x.holds.is_in.side (subst (λ (z : Half). Fills ship s.plan z (x.holds.taken.0)) (in_tier place tier x.half x.holds.is_in) (x.holds.taken.1))

  weak : (place : Place) (long : Length) (h : ℕ) → ((side : Bool) (t : ℕ) → TakesSide place.span side → place.tier ≡ t + 1 → IsBearing ship cargo s.plan long (half_of place.stack t side)) → OfHalf ship (IsWeakBelow ship cargo s.plan place long) h → ⊥
  weak place long h all x =
      let y = x.holds in
      y.fails (subst (λ (z : Half). IsBearing ship cargo s.plan long z) (sym (in_tier place y.tier x.half y.is_in)) (all x.half.aft y.tier y.is_in.side y.is_above))

  standing : (k h : ℕ) → IsBare ship s.plan k → OfHalf ship (IsOnCover ship s.plan k) h → ⊥
  standing k h all x =
      let fills = x.holds.taken.1 in
      all fills.number (x.holds.taken.0) fills.place fills.is_place (subst (λ (n : ℕ). StandsOn ship n k) fills.has_half.same_stack x.holds.on) fills.holds

  -- where the move is allowed, there is no fault
  pub no_fault : (m : Move) (f : MoveFault) → Allowed ship cargo s m → IsMoveFault ship cargo s m f → ⊥
  no_fault (Lift p) NotThere can x = none-some (can.container) (same_Some None (Some can.container) (sym x ∙ can.filled))
  no_fault (Lift p) (CoverOver k) can x = not_off can.place.stack k can.cover_off (placed ship p can.place (λ z. IsShutOver ship s.off z.stack k) can.is_place x)
  no_fault (Lift p) (Blocked h) can x = in_way can.place (can.place.tier + 1) h can.clear (placed ship p can.place (λ z. OfHalf ship (IsFilledIn ship s.plan z (z.tier + 1)) h) can.is_place x)
  no_fault (Put c p) NotOnQuay can x = not_both s.quay c can.on_quay x
  no_fault (Put c p) DoesNotFit can x = contained cargo c can.container (λ z. FitsAt ship p z.long z.reefer → ⊥) can.is_container x (record { place = can.place; is_place = can.is_place; fits = can.fits })
  no_fault (Put c p) (CoverOver k) can x = not_off can.place.stack k can.cover_off (placed ship p can.place (λ z. IsShutOver ship s.off z.stack k) can.is_place x)
  no_fault (Put c p) (CoverMissing k) can x = let y = placed ship p can.place (λ z. IsOpenUnder ship s.off z.stack k) can.is_place x in not_both s.off k y.is_off (can.cover_on k y.on)
  no_fault (Put c p) (Taken h) can x = in_way can.place can.place.tier h can.empty (placed ship p can.place (λ z. OfHalf ship (IsFilledIn ship s.plan z z.tier) h) can.is_place x)
  no_fault (Put c p) (Unsupported h) can x = weak can.place can.container.long h can.borne (placed ship p can.place (λ z. OfHalf ship (IsWeakBelow ship cargo s.plan z can.container.long) h) can.is_place (contained cargo c can.container (λ y. OfPlace ship (λ z. OfHalf ship (IsWeakBelow ship cargo s.plan z y.long) h) p) can.is_container x))
  no_fault (OffCover k) (Standing h) can x = standing k h can.1 x
  no_fault (OffCover k) (AlreadySo n) can x = not_both s.off k x.1 can.0
  no_fault (OnCover k) (AlreadySo n) can x = not_both s.off k can x.1
  no_fault (Lift p) other can x = absurd x
  no_fault (Put c p) other can x = absurd x
  no_fault (OffCover k) other can x = absurd x
  no_fault (OnCover k) other can x = absurd x
