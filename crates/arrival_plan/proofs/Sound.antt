-- What holds of all that the groups of a bay plan bring aboard.
use Rattle.std.proofs.Common.{◌≡◌, ◌≢◌, ℕ, zero, suc, ◌+◌, ◌<◌, ◌≤◌, Bool, true, false, ◌||◌, List, [], ◌∷◌, ◌++◌, length, get_or, Option, Some, None, Ok, refl, sym, ◌∙◌, ap, subst, arith, ◌⊎◌, inl, inr, ⊎_elim, length-set}
use Rattle.std.specs.Prelude.{All, AllPairs, IfSome, replicate, slice_get, slice_set}
use Rattle.std.specs.List.{list_any}
use Rattle.std.specs.Str.{bytes_eq}
use Rattle.std.proofs.lemmas.Bool.{both_ways, cases_eq}
use Rattle.std.proofs.lemmas.List.{length-append}
use Rattle.std.proofs.lemmas.List.Elements.{All-nil, All-push}
use Rattle.std.proofs.lemmas.List.Folds.{list_any_at}
use Rattle.std.proofs.lemmas.List.Quantifiers.{all_pairs_push}
use Rattle.std.proofs.lemmas.Slice.Eq.{bytes_eq-Decides}
use Rattle.std.proofs.lemmas.Option.{none-some, same_Some}
use Rattle.stow_data.specs.declared.geometry.Half.{Half}
use Rattle.stow_data.specs.declared.geometry.Place.{Place}
use Rattle.stow_data.specs.declared.cargoes.Container.{Container}
use Rattle.stow_data.specs.declared.geometry.Span.{Span}
use Rattle.stow_data.specs.declared.geometry.Span.TheVariants.{Fore, Aft, Both}
use Rattle.stow_data.specs.Ship.{Ship, HasHalf, Takes, TakesSide, half_at, places}
use Rattle.stow_data.specs.Plans.{Plan, place_at}
use Rattle.stow_data.proofs.PlanLookups.{is_place, place_is}
use Rattle.stowage_rules.specs.Plan.{Fills, Holds}
use Rattle.stowage_rules.proofs.Items.{slice_get-set_other, slice_get-set_same, slice_get_in}
use Rattle.toml_values.proofs.ValueLaws.{bound, same_Ok}
use Rattle.bookings.specs.declared.shipment.Bookings.{Bookings}
use Rattle.bookings.specs.Reading.{has_id}
use Rattle.baplie.specs.declared.parts.CellGroup.{CellGroup}
use Rattle.baplie.specs.declared.parts.Facts.{Facts}
use Rattle.arrival_plan.specs.declared.stowage.Placed.{Placed}
use Rattle.arrival_plan.specs.declared.stowage.Stowage.{Stowage}
use Rattle.arrival_plan.specs.Cells.{is_taken}
use Rattle.arrival_plan.specs.Arriving.{nothing, placed, with_facts, with_groups, with_placed}
use Rattle.arrival_plan.proofs.CellLaws.{taken_from}
use Rattle.arrival_plan.proofs.Steps.{IsFree, is_free}

-- ## Lists

-- of a list with one item more
pub get_pushed : {X : Type 0} (xs : List X) (x : X) → slice_get (xs ++ x ∷ []) (length xs) ≡ Some x
get_pushed [] x = refl
get_pushed (y ∷ ys) x = get_pushed ys x

pub get_kept : {X : Type 0} (xs ys : List X) (k : ℕ) → k < length xs → slice_get (xs ++ ys) k ≡ slice_get xs k
get_kept [] ys k l = absurd (omega arith)
get_kept (x ∷ xs) ys zero l = refl
get_kept (x ∷ xs) ys (suc k) l = get_kept xs ys k (omega arith)

pub set_get : {X : Type 0} (xs : List X) (i : ℕ) (x y : X) → slice_get (slice_set xs i x) i ≡ Some y → y ≡ x
set_get [] i x y h = absurd (none-some y h)
set_get (z ∷ zs) zero x y h = sym (same_Some x y h)
set_get (z ∷ zs) (suc i) x y h = set_get zs i x y h

pub get_replicated : {X : Type 0} (n k : ℕ) (x y : X) → slice_get (replicate n x) k ≡ Some y → y ≡ x
get_replicated zero k x y h = absurd (none-some y h)
get_replicated (suc n) zero x y h = sym (same_Some x y h)
get_replicated (suc n) (suc k) x y h = get_replicated n k x y h

pub length_replicated : {X : Type 0} (n : ℕ) (x : X) → length (replicate n x) ≡ n
length_replicated zero x = refl
length_replicated (suc n) x = ap suc (length_replicated n x)

-- what stands after a put: the container that was put, or what stood elsewhere
pub put_from : (plan : Plan) (p c q d : ℕ) → Holds (slice_set plan p (Some c)) q d → ((q ≡ p) × (d ≡ c)) ⊎ ((q ≡ p → ⊥) × Holds plan q d)
put_from plan p c q d h = ⊎_elim
    (λ (e : q ≡ p). inl (e, same_Some d c (set_get plan p (Some c) (Some d) (subst (λ (n : ℕ). slice_get (slice_set plan p (Some c)) n ≡ Some (Some d)) e h))))
    (λ (ne : q ≡ p → ⊥). inr (ne, sym (slice_get-set_other plan p q (Some c) ne) ∙ h))
    (cases_eq q p)

-- how many places are filled
abbrev pub filled : Plan → ℕ
filled [] = 0
filled (None ∷ os) = filled os
filled (Some c ∷ os) = suc (filled os)

filled_nowhere : (n : ℕ) → filled (replicate n None) ≡ 0
filled_nowhere zero = refl
filled_nowhere (suc n) = filled_nowhere n

pub filled_low : (plan : Plan) → filled plan ≤ length plan
filled_low [] = omega arith
filled_low (None ∷ os) = omega (arith, filled_low os)
filled_low (Some c ∷ os) = omega (arith, filled_low os)

-- a put at an empty place fills one more
filled_put : (plan : Plan) (p c : ℕ) → p < length plan → ((d : ℕ) → Holds plan p d → ⊥) → filled (slice_set plan p (Some c)) ≡ suc (filled plan)
filled_put [] p c l none = absurd (omega arith)
filled_put (None ∷ os) zero c l none = refl
filled_put (Some d ∷ os) zero c l none = absurd (none d refl)
filled_put (None ∷ os) (suc p) c l none = filled_put os p c (omega arith) (λ d h. none d h)
filled_put (Some d ∷ os) (suc p) c l none = ap suc (filled_put os p c (omega arith) (λ e h. none e h))

or_false : (a b : Bool) → (a || b) ≡ false → (a ≡ false) × (b ≡ false)
or_false true b h = absurd (both_ways true h refl)
or_false false b h = (refl, h)

pub some_side : (span : Span) → (side : Bool) × TakesSide span side
some_side Fore = (false, refl)
some_side Aft = (true, refl)
some_side Both = (false, tt)

-- ## What holds

-- aboard, and bound for a call
pub record IsArrived (calls : ℕ) (c : Container) : Type 0 where
  pub load : c.load ≡ 0
  pub dest_from : 1 ≤ c.dest
  pub dest_to : c.dest ≤ calls
  pub kg_to : c.kg ≤ 99999

pub record IsSound (ship : Ship) (bookings : Bookings) (s : Stowage) : Type 0 where
  pub each_place : length s.plan ≡ length (places ship)
  pub known : (p c : ℕ) → Holds s.plan p c → c < length s.containers
  pub each_stands : length s.containers ≡ filled s.plan
  pub fits : (p c : ℕ) (place : Place) (x : Container) → slice_get (places ship) p ≡ Some place → Holds s.plan p c → slice_get s.containers c ≡ Some x → Takes place x.long
  pub apart : (h : Half) (c d : ℕ) (x : Fills ship s.plan h c) (y : Fills ship s.plan h d) → x.number ≡ y.number
  pub once : (p q c : ℕ) → Holds s.plan p c → Holds s.plan q c → p ≡ q
  pub somewhere : (c : ℕ) → c < length s.containers → (p : ℕ) × Holds s.plan p c
  pub each : All (IsArrived (length bookings.rotation)) s.containers
  pub ids_differ : AllPairs (λ c d. c.id ≢ d.id) s.containers
  pub not_booked : All (λ c. has_id c.id bookings.containers ≡ false) s.containers

pub sound_first : (ship : Ship) (bookings : Bookings) → IsSound ship bookings (nothing ship)
sound_first ship bookings = record {
  each_place = length_replicated (length (places ship)) None;
  known = λ p c h. absurd (empty p c h);
  each_stands = sym (filled_nowhere (length (places ship)));
  fits = λ p c place x is h e. absurd (empty p c h);
  apart = λ h c d x y. absurd (empty x.number c x.holds);
  once = λ p q c h k. absurd (empty p c h);
  somewhere = λ c l. absurd (omega arith);
  each = All-nil (IsArrived (length bookings.rotation));
  ids_differ = λ i j d l k. absurd (omega arith);
  not_booked = All-nil (λ c. has_id c.id bookings.containers ≡ false);
}
  where
    empty : (p c : ℕ) → Holds (replicate (length (places ship)) None) p c → ⊥
    empty p c h = none-some c (sym (get_replicated (length (places ship)) p None (Some c) h))

-- ## One container more

module _ (ship : Ship) (bookings : Bookings) (s : Stowage) (f : Facts) (p : Placed) (sound : IsSound ship bookings s) (free : IsFree ship bookings s f p) (light : f.kg ≤ 99999) where
  abbrev after : Plan
  after = slice_set s.plan p.place (Some (length s.containers))

  -- nothing stands in the way
  no_half : (h : Half) (d : ℕ) → HasHalf (place_at ship p.place) h → Fills ship s.plan h d → ⊥
  no_half h d has x =
      let same : h ≡ half_at (place_at ship p.place) h.aft = ap (λ (n : ℕ). record { stack = n; tier = h.tier; aft = h.aft }) has.same_stack ∙ ap (λ (n : ℕ). record { stack = (place_at ship p.place).stack; tier = n; aft = h.aft }) has.same_tier in
      both_ways (is_taken ship s.plan p.place) free.free (taken_from ship s.plan p.place h.aft (has.side, (d, subst (λ (z : Half). Fills ship s.plan z d) same x)))

  -- what fills a half-cell now is at the new place, or filled it before
  fills_now : (h : Half) (d : ℕ) (x : Fills ship after h d) → ((x.number ≡ p.place) × HasHalf (place_at ship p.place) h) ⊎ Holds s.plan x.number d
  fills_now h d x = ⊎_elim
      (λ (e : (x.number ≡ p.place) × (d ≡ length s.containers)). inl (e.0, subst (λ (z : Place). HasHalf z h) (sym (place_is ship x.number x.place x.is_place) ∙ ap (place_at ship) e.0) x.has_half))
      (λ (o : (x.number ≡ p.place → ⊥) × Holds s.plan x.number d). inr o.1)
      (put_from s.plan p.place (length s.containers) x.number d x.holds)

  before_at : (h : Half) (d : ℕ) (x : Fills ship after h d) → Holds s.plan x.number d → Fills ship s.plan h d
  before_at h d x k = record { number = x.number; place = x.place; is_place = x.is_place; has_half = x.has_half; holds = k }

  apart_now : (h : Half) (c d : ℕ) (x : Fills ship after h c) (y : Fills ship after h d) → x.number ≡ y.number
  unfolding before_at
  apart_now h c d x y = ⊎_elim
      (λ (i : (x.number ≡ p.place) × HasHalf (place_at ship p.place) h). ⊎_elim
      (λ (j : (y.number ≡ p.place) × HasHalf (place_at ship p.place) h). i.0 ∙ sym j.0)
      (λ (j : Holds s.plan y.number d). absurd (no_half h d i.1 (before_at h d y j)))
      (fills_now h d y))
      (λ (i : Holds s.plan x.number c). ⊎_elim
      (λ (j : (y.number ≡ p.place) × HasHalf (place_at ship p.place) h). absurd (no_half h c j.1 (before_at h c x i)))
      (λ (j : Holds s.plan y.number d). sound.apart h c d (before_at h c x i) (before_at h d y j))
      (fills_now h d y))
      (fills_now h c x)

  -- a container that stood is not the new one
  older : (q d : ℕ) → Holds s.plan q d → d < length s.containers
  older q d h = sound.known q d h

  known_now : (q d : ℕ) → Holds after q d → d < length (s.containers ++ p.container ∷ [])
  known_now q d h = ⊎_elim
      (λ (e : (q ≡ p.place) × (d ≡ length s.containers)). omega (arith, e.1, length-append s.containers (p.container ∷ [])))
      (λ (o : (q ≡ p.place → ⊥) × Holds s.plan q d). omega (arith, older q d o.1, length-append s.containers (p.container ∷ [])))
      (put_from s.plan p.place (length s.containers) q d h)

  fits_now : (q d : ℕ) (place : Place) (x : Container) → slice_get (places ship) q ≡ Some place → Holds after q d → slice_get (s.containers ++ p.container ∷ []) d ≡ Some x → Takes place x.long
  fits_now q d place x is h at = ⊎_elim
      (λ (e : (q ≡ p.place) × (d ≡ length s.containers)).
      let here : place_at ship p.place ≡ place = ap (place_at ship) (sym e.0) ∙ place_is ship q place is in
      let new : p.container ≡ x = same_Some p.container x (sym (get_pushed s.containers p.container) ∙ (ap (slice_get (s.containers ++ p.container ∷ [])) (sym e.1) ∙ at)) in
      subst (λ (z : Place). Takes z x.long) here (subst (λ (c : Container). Takes (place_at ship p.place) c.long) new free.length_fits))
      (λ (o : (q ≡ p.place → ⊥) × Holds s.plan q d). sound.fits q d place x is o.1 (sym (get_kept s.containers (p.container ∷ []) d (older q d o.1)) ∙ at))
      (put_from s.plan p.place (length s.containers) q d h)

  once_now : (q r d : ℕ) → Holds after q d → Holds after r d → q ≡ r
  once_now q r d h k = ⊎_elim
      (λ (e : (q ≡ p.place) × (d ≡ length s.containers)). ⊎_elim
      (λ (g : (r ≡ p.place) × (d ≡ length s.containers)). e.0 ∙ sym g.0)
      (λ (o : (r ≡ p.place → ⊥) × Holds s.plan r d). absurd (omega (arith, older r d o.1, e.1)))
      (put_from s.plan p.place (length s.containers) r d k))
      (λ (o : (q ≡ p.place → ⊥) × Holds s.plan q d). ⊎_elim
      (λ (g : (r ≡ p.place) × (d ≡ length s.containers)). absurd (omega (arith, older q d o.1, g.1)))
      (λ (w : (r ≡ p.place → ⊥) × Holds s.plan r d). sound.once q r d o.1 w.1)
      (put_from s.plan p.place (length s.containers) r d k))
      (put_from s.plan p.place (length s.containers) q d h)

  -- the new place was empty
  empty_before : (d : ℕ) → Holds s.plan p.place d → ⊥
  empty_before d h =
      let side = some_side (place_at ship p.place).span in
      no_half (half_at (place_at ship p.place) side.0) d (record { same_stack = refl; same_tier = refl; side = side.1 }) (record { number = p.place; place = place_at ship p.place; is_place = is_place ship p.place free.inside; has_half = record { same_stack = refl; same_tier = refl; side = side.1 }; holds = h })

  -- what stood elsewhere stands on
  pub stands_on : (q d : ℕ) → Holds s.plan q d → Holds after q d
  stands_on q d h = ⊎_elim
      (λ (e : q ≡ p.place). absurd (empty_before d (subst (λ (n : ℕ). Holds s.plan n d) e h)))
      (λ (ne : q ≡ p.place → ⊥). slice_get-set_other s.plan p.place q (Some (length s.containers)) ne ∙ h)
      (cases_eq q p.place)

  somewhere_now : (c : ℕ) → c < length (s.containers ++ p.container ∷ []) → (q : ℕ) × Holds after q c
  somewhere_now c l = ⊎_elim
      (λ (e : c ≡ length s.containers).
      let there = slice_get_in s.plan p.place (omega (arith, free.inside, sound.each_place)) in
      (p.place, slice_get-set_same s.plan p.place (Some (length s.containers)) there.0 there.1 ∙ ap (λ (n : ℕ). Some (Some n)) (sym e)))
      (λ (ne : c ≡ length s.containers → ⊥). let low : c < length s.containers = omega (arith, l, length-append s.containers (p.container ∷ [])) in let r = sound.somewhere c low in (r.0, stands_on r.0 c r.1))
      (cases_eq c (length s.containers))

  named_parts : (has_id p.container.id bookings.containers ≡ false) × (list_any (λ c. bytes_eq c.id p.container.id) s.containers ≡ false)
  named_parts = or_false (has_id p.container.id bookings.containers) (list_any (λ c. bytes_eq c.id p.container.id) s.containers) free.new

  differs : (k : ℕ) (d : Container) → k < length s.containers → (get_or s.containers k d).id ≢ p.container.id
  differs k d l e = both_ways (list_any (λ c. bytes_eq c.id p.container.id) s.containers) named_parts.1 (list_any_at (λ c. bytes_eq c.id p.container.id) s.containers k d l ((bytes_eq-Decides (get_or s.containers k d).id p.container.id).1 e))

  pub sound_more : IsSound ship bookings (with_placed s p)
  sound_more = record {
    each_place = length-set s.plan p.place (Some (length s.containers)) ∙ sound.each_place;
    known = known_now;
    each_stands = let put = filled_put s.plan p.place (length s.containers) (omega (arith, free.inside, sound.each_place)) empty_before in omega (arith, put, sound.each_stands, length-append s.containers (p.container ∷ []));
    fits = fits_now;
    apart = apart_now;
    once = once_now;
    somewhere = somewhere_now;
    each = All-push (IsArrived (length bookings.rotation)) s.containers p.container sound.each (record { load = free.load; dest_from = free.dest_from; dest_to = free.dest_to; kg_to = let e = free.kg in omega (arith, e, light) });
    ids_differ = all_pairs_push (λ (c d : Container). c.id ≢ d.id) s.containers p.container sound.ids_differ differs;
    not_booked = All-push (λ (c : Container). has_id c.id bookings.containers ≡ false) s.containers p.container sound.not_booked named_parts.0;
  }

-- ## Group after group

pub sound_facts : (ship : Ship) (bookings : Bookings) (before after : Stowage) (i : ℕ) (g : CellGroup) (o : Option Facts) → IfSome o (λ f. f.kg ≤ 99999) → with_facts ship bookings before i g o ≡ Ok after → IsSound ship bookings before → IsSound ship bookings after
sound_facts ship bookings before after i g None light h sound = subst (IsSound ship bookings) (same_Ok before after h) sound
sound_facts ship bookings before after i g (Some f) light h sound =
    let p = bound (placed ship bookings before i g f) (λ p. Ok (with_placed before p)) after h in
    subst (IsSound ship bookings) (same_Ok (with_placed before p.value) after p.goes_on) (sound_more ship bookings before f p.value sound (is_free ship bookings before i g f p.value p.is) light)

pub sound_groups : (ship : Ship) (bookings : Bookings) (before after : Stowage) (i : ℕ) (gs : List CellGroup) → All (λ g. IfSome g.facts (λ f. f.kg ≤ 99999)) gs → with_groups ship bookings before i gs ≡ Ok after → IsSound ship bookings before → IsSound ship bookings after
unfolding with_groups
sound_groups ship bookings before after i [] light h sound = subst (IsSound ship bookings) (same_Ok before after h) sound
sound_groups ship bookings before after i (g ∷ gs) light h sound =
    let one = bound (with_facts ship bookings before i g g.facts) (λ s. with_groups ship bookings s (i + 1) gs) after h in
    sound_groups ship bookings one.value after (i + 1) gs (λ k d l. light (suc k) d (omega arith)) one.goes_on (sound_facts ship bookings before one.value i g g.facts (light 0 g (omega arith)) one.is sound)
