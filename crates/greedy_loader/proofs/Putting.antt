-- One container more in a plan: what then holds of it.
use Rattle.std.proofs.Common.{◌≡◌, ℕ, zero, suc, ◌+◌, ◌*◌, ◌/◌, ◌-◌, ◌<◌, ◌≤◌, Bool, true, false, cond, List, [], ◌∷◌, ◌++◌, length, Option, Some, None, refl, sym, ◌∙◌, ap, subst, arith, ◌⊎◌, inl, inr, ⊎_elim, length-set}
use Rattle.std.specs.Prelude.{◌==◌, ◌↔◌, if◌then◌else◌, is_some, nat_lt, slice_get, slice_set, zip, sum_by, All}
use Rattle.std.proofs.Math.Nat.{mul_comm, div-mul-le_self}
use Rattle.std.proofs.lemmas.Bool.{both_ways, cases_eq, cases_lt, cond-true, cond-false, eq-eqb, le-ltb, lt-ltb, ne_eqb}
use Rattle.std.proofs.lemmas.Option.{none-some, same_Some, slice_get_within, get_or_from_slice_get}
use Rattle.std.proofs.lemmas.List.Sums.{sum_by-cons}
use Rattle.stow_data.specs.declared.geometry.Half.{Half}
use Rattle.stow_data.specs.declared.geometry.Place.{Place}
use Rattle.stow_data.specs.declared.cargoes.Container.{Container}
use Rattle.stow_data.specs.Kinds.{rounded}
use Rattle.stow_data.specs.Ship.{Ship, places, HasHalf, Takes, LiesUnder, StandsOn, half_at}
use Rattle.stow_data.specs.Profile.{IsShip}
use Rattle.stow_data.specs.Shipment.{Cargo, IsCargo, IsShipped}
use Rattle.stow_data.specs.Plans.{Plan}
use Rattle.stowage_rules.specs.Plan.{Holds, Fills, Stands, IsWellFormed}
use Rattle.stowage_rules.specs.Departure.{weight_in, stack_weight}
use Rattle.stowage_rules.proofs.Items.{slice_get-set_other, slice_get-set_same, slice_get_in}
use Rattle.std.proofs.lemmas.List.Elements.{All-append, All-cons, All-nil, Contains-append_left, Contains-append_right}
use Rattle.voyage_meaning.specs.Moves.{IsBare}
use Rattle.greedy_loader.specs.Rule.{NoneEarlierUnder}
use Rattle.greedy_loader.specs.Kept.{CanStand, AreTops, AreWeights, AreLaden, AreEarliest, AreClassed}

-- what holds of all items holds of each
pub each_is : {X : Type 0} (P : X → Type 0) (xs : List X) (k : ℕ) (x : X) → All P xs → slice_get xs k ≡ Some x → P x
each_is P xs k x all h = subst P (get_or_from_slice_get xs k x x h) (all k x (slice_get_within xs k x h))

set_get : {X : Type 0} (xs : List X) (i : ℕ) (x y : X) → slice_get (slice_set xs i x) i ≡ Some y → y ≡ x
set_get [] i x y h = absurd (none-some y h)
set_get (z ∷ zs) zero x y h = sym (same_Some x y h)
set_get (z ∷ zs) (suc i) x y h = set_get zs i x y h

pub none_of : {X : Type 0} (o : Option X) → is_some o ≡ false → o ≡ None
none_of None h = refl
none_of (Some x) h = absurd cc

-- what is read after a write: what was written, or what was there elsewhere
pub read_after : {X : Type 0} (xs : List X) (i j : ℕ) (x y : X) → slice_get (slice_set xs i x) j ≡ Some y → ((j ≡ i) × (y ≡ x)) ⊎ ((j ≡ i → ⊥) × (slice_get xs j ≡ Some y))
read_after xs i j x y h = ⊎_elim
    (λ (e : j ≡ i). inl (e, set_get xs i x y (subst (λ (n : ℕ). slice_get (slice_set xs i x) n ≡ Some y) e h)))
    (λ (ne : j ≡ i → ⊥). inr (ne, sym (slice_get-set_other xs i j x ne) ∙ h))
    (cases_eq j i)

-- what stands after a put: the container that was put, or what stood elsewhere
pub put_from : (plan : Plan) (p c q d : ℕ) → Holds (slice_set plan p (Some c)) q d → ((q ≡ p) × (d ≡ c)) ⊎ Holds plan q d
put_from plan p c q d h = ⊎_elim
    (λ (e : (q ≡ p) × (Some d ≡ Some c)). inl (e.0, same_Some d c e.1))
    (λ (o : (q ≡ p → ⊥) × Holds plan q d). inr o.1)
    (read_after plan p q (Some c) (Some d) h)

pub put_there : (plan : Plan) (p c : ℕ) → p < length plan → Holds (slice_set plan p (Some c)) p c
put_there plan p c l = let r = slice_get_in plan p l in slice_get-set_same plan p (Some c) r.0 r.1

pub put_keeps : (plan : Plan) (p c q d : ℕ) → slice_get plan p ≡ Some None → Holds plan q d → Holds (slice_set plan p (Some c)) q d
put_keeps plan p c q d free h = slice_get-set_other plan p q (Some c) (λ (s : q ≡ p). none-some d (same_Some None (Some d) (sym free ∙ (ap (slice_get plan) (sym s) ∙ h)))) ∙ h

stands_after : (ship : Ship) (cargo : Cargo) (plan : Plan) (p c q d : ℕ) (place other : Place) (x y : Container) → CanStand ship cargo plan p c place x → Stands ship cargo (slice_set plan p (Some c)) q d other y → ((other ≡ place) × (y ≡ x)) ⊎ Stands ship cargo plan q d other y
stands_after ship cargo plan p c q d place other x y can s = ⊎_elim
    (λ (e : (q ≡ p) × (d ≡ c)). inl (
      same_Some other place (sym s.is_place ∙ (ap (slice_get (places ship)) e.0 ∙ can.is_place)),
      same_Some y x (sym s.is_container ∙ (ap (slice_get cargo.containers) e.1 ∙ can.is_container)),
    ))
    (λ (h : Holds plan q d). inr (record { is_place = s.is_place; holds = h; is_container = s.is_container }))
    (put_from plan p c q d s.holds)

-- nothing fills a half-cell of an empty place
half_is : (place : Place) (h : Half) → h.stack ≡ place.stack → h.tier ≡ place.tier → h ≡ half_at place h.aft
half_is place h s t = ap (λ (n : ℕ). record { stack = n; tier = h.tier; aft = h.aft }) s ∙ ap (λ (n : ℕ). record { stack = place.stack; tier = n; aft = h.aft }) t

-- what fills a half-cell after a put isn't in the way of what filled one before
not_filled : (ship : Ship) (cargo : Cargo) (plan : Plan) (p c d : ℕ) (place : Place) (x : Container) (h : Half) → CanStand ship cargo plan p c place x → HasHalf place h → Fills ship plan h d → ⊥
not_filled ship cargo plan p c d place x h can has b =
    can.empty h.aft has.side (d, subst (λ (z : Half). Fills ship plan z d) (half_is place h has.same_stack has.same_tier) b)

still_fills : (ship : Ship) (cargo : Cargo) (plan : Plan) (p c d : ℕ) (place : Place) (x : Container) (h : Half) → CanStand ship cargo plan p c place x → (a : Fills ship (slice_set plan p (Some c)) h d) → ((a.number ≡ p) × HasHalf place h) ⊎ Holds plan a.number d
still_fills ship cargo plan p c d place x h can a = ⊎_elim
    (λ (e : (a.number ≡ p) × (d ≡ c)). inl (e.0, subst (λ (z : Place). HasHalf z h) (same_Some a.place place (sym a.is_place ∙ (ap (slice_get (places ship)) e.0 ∙ can.is_place))) a.has_half))
    (λ (k : Holds plan a.number d). inr k)
    (put_from plan p c a.number d a.holds)

filled_at : (ship : Ship) (plan after : Plan) (h : Half) (d : ℕ) (a : Fills ship after h d) → Holds plan a.number d → Fills ship plan h d
filled_at ship plan after h d a k = record { number = a.number; place = a.place; is_place = a.is_place; has_half = a.has_half; holds = k }

apart_put : (ship : Ship) (cargo : Cargo) (plan : Plan) (p c : ℕ) (place : Place) (x : Container) → IsWellFormed ship cargo plan → CanStand ship cargo plan p c place x → (h : Half) (d e : ℕ) (a : Fills ship (slice_set plan p (Some c)) h d) (b : Fills ship (slice_set plan p (Some c)) h e) → a.number ≡ b.number
unfolding filled_at
apart_put ship cargo plan p c place x formed can h d e a b = ⊎_elim
    (λ (i : (a.number ≡ p) × HasHalf place h). ⊎_elim
    (λ (j : (b.number ≡ p) × HasHalf place h). i.0 ∙ sym j.0)
    (λ (j : Holds plan b.number e). absurd (not_filled ship cargo plan p c e place x h can i.1 (filled_at ship plan (slice_set plan p (Some c)) h e b j)))
    (still_fills ship cargo plan p c e place x h can b))
    (λ (i : Holds plan a.number d). ⊎_elim
    (λ (j : (b.number ≡ p) × HasHalf place h). absurd (not_filled ship cargo plan p c d place x h can j.1 (filled_at ship plan (slice_set plan p (Some c)) h d a i)))
    (λ (j : Holds plan b.number e). formed.apart h d e (filled_at ship plan (slice_set plan p (Some c)) h d a i) (filled_at ship plan (slice_set plan p (Some c)) h e b j))
    (still_fills ship cargo plan p c e place x h can b))
    (still_fills ship cargo plan p c d place x h can a)

fits_put : (ship : Ship) (cargo : Cargo) (plan : Plan) (p c q d : ℕ) (place other : Place) (x y : Container) → IsWellFormed ship cargo plan → CanStand ship cargo plan p c place x → Stands ship cargo (slice_set plan p (Some c)) q d other y → Takes other y.long
fits_put ship cargo plan p c q d place other x y formed can s = ⊎_elim
    (λ (e : (other ≡ place) × (y ≡ x)). subst (λ (z : Place). Takes z y.long) (sym e.0) (subst (λ (z : Container). Takes place z.long) (sym e.1) can.length_fits))
    (λ (k : Stands ship cargo plan q d other y). formed.fits q d other y k)
    (stands_after ship cargo plan p c q d place other x y can s)

pub formed_put : (ship : Ship) (cargo : Cargo) (plan : Plan) (p c : ℕ) (place : Place) (x : Container) → IsWellFormed ship cargo plan → CanStand ship cargo plan p c place x → IsWellFormed ship cargo (slice_set plan p (Some c))
formed_put ship cargo plan p c place x formed can = record {
  each_place = length-set plan p (Some c) ∙ formed.each_place;
  known = λ q d h. ⊎_elim
      (λ (e : (q ≡ p) × (d ≡ c)). (x, ap (slice_get cargo.containers) e.1 ∙ can.is_container))
      (λ (k : Holds plan q d). formed.known q d k)
      (put_from plan p c q d h);
  fits = λ q d other y s. fits_put ship cargo plan p c q d place other x y formed can s;
  apart = λ h d e a b. apart_put ship cargo plan p c place x formed can h d e a b;
  once = λ q r d h i. ⊎_elim
      (λ (e : (q ≡ p) × (d ≡ c)). ⊎_elim
      (λ (g : (r ≡ p) × (d ≡ c)). e.0 ∙ sym g.0)
      (λ (k : Holds plan r d). absurd (can.fresh r (subst (λ (z : ℕ). Holds plan r z) e.1 k)))
      (put_from plan p c r d i))
      (λ (k : Holds plan q d). ⊎_elim
      (λ (g : (r ≡ p) × (d ≡ c)). absurd (can.fresh q (subst (λ (z : ℕ). Holds plan q z) g.1 k)))
      (λ (m : Holds plan r d). formed.once q r d k m)
      (put_from plan p c r d i))
      (put_from plan p c q d h);
}

-- ## Weights

sum_set : {X Y : Type 0} (f : X × Y → ℕ) (xs : List X) (ys : List Y) (k : ℕ) (x : X) (o v : Y) → slice_get xs k ≡ Some x → slice_get ys k ≡ Some o → sum_by f (zip xs (slice_set ys k v)) + f (x, o) ≡ sum_by f (zip xs ys) + f (x, v)
sum_set f [] ys k x o v h i = absurd (none-some x h)
sum_set f (a ∷ xs) [] k x o v h i = absurd (none-some o i)
sum_set f (a ∷ xs) (b ∷ ys) zero x o v h i =
    let p : f (a, b) ≡ f (x, o) = ap (λ (z : _). f (z, b)) (same_Some a x h) ∙ ap (λ (z : _). f (x, z)) (same_Some b o i) in
    let q : f (a, v) ≡ f (x, v) = ap (λ (z : _). f (z, v)) (same_Some a x h) in
    omega (arith, sum_by-cons f (a, v) (zip xs ys), sum_by-cons f (a, b) (zip xs ys), p, q)
sum_set f (a ∷ xs) (b ∷ ys) (suc k) x o v h i =
    omega (arith, sum_by-cons f (a, b) (zip xs (slice_set ys k v)), sum_by-cons f (a, b) (zip xs ys), sum_set f xs ys k x o v h i)

cond_same : (b : Bool) → cond {A = ℕ} b 0 0 ≡ 0
cond_same true = refl
cond_same false = refl

pub weighs_none : (step : ℕ) (cargo : Cargo) (s : ℕ) (place : Place) → weight_in step cargo s (place, None) ≡ 0
weighs_none step cargo s place = cond_same (place.stack == s)

weighs_some : (step : ℕ) (cargo : Cargo) (s c : ℕ) (place : Place) (x : Container) → slice_get cargo.containers c ≡ Some x → weight_in step cargo s (place, Some c) ≡ cond {A = ℕ} (place.stack == s) (rounded step x.kg) 0
weighs_some step cargo s c place x e = rw e refl

stack_put : (ship : Ship) (cargo : Cargo) (plan : Plan) (p c s : ℕ) (place : Place) (x : Container) → CanStand ship cargo plan p c place x → stack_weight ship cargo (slice_set plan p (Some c)) s ≡ stack_weight ship cargo plan s + cond {A = ℕ} (place.stack == s) (rounded ship.weight_step x.kg) 0
stack_put ship cargo plan p c s place x can =
    omega (arith, sum_set (weight_in ship.weight_step cargo s) (places ship) plan p place None (Some c) can.is_place can.free, weighs_none ship.weight_step cargo s place, weighs_some ship.weight_step cargo s c place x can.is_container)

pub weights_put : (ship : Ship) (cargo : Cargo) (plan : Plan) (weights : List ℕ) (p c w : ℕ) (place : Place) (x : Container) → CanStand ship cargo plan p c place x → AreWeights ship cargo plan weights → slice_get weights place.stack ≡ Some w → AreWeights ship cargo (slice_set plan p (Some c)) (slice_set weights place.stack (w + rounded ship.weight_step x.kg))
weights_put ship cargo plan weights p c w place x can are at s v h = ⊎_elim
    (λ (e : (s ≡ place.stack) × (v ≡ w + rounded ship.weight_step x.kg)).
    let old : w ≡ stack_weight ship cargo plan s = are s w (ap (slice_get weights) (e.0) ∙ at) in
    let here : cond {A = ℕ} (place.stack == s) (rounded ship.weight_step x.kg) 0 ≡ rounded ship.weight_step x.kg = cond-true (place.stack == s) (rounded ship.weight_step x.kg) 0 (eq-eqb place.stack s (sym e.0)) in
    omega (arith, e.1, old, here, stack_put ship cargo plan p c s place x can))
    (λ (o : (s ≡ place.stack → ⊥) × (slice_get weights s ≡ Some v)).
    let old : v ≡ stack_weight ship cargo plan s = are s v o.1 in
    let here : cond {A = ℕ} (place.stack == s) (rounded ship.weight_step x.kg) 0 ≡ 0 = cond-false (place.stack == s) (rounded ship.weight_step x.kg) 0 (ne_eqb place.stack s (λ (e : place.stack ≡ s). o.0 (sym e))) in
    omega (arith, old, here, stack_put ship cargo plan p c s place x can))
    (read_after weights place.stack s (w + rounded ship.weight_step x.kg) v h)

-- a stack's weight is small
cond_most : (b : Bool) (n : ℕ) → n ≤ 110000 → cond {A = ℕ} b n 0 ≤ 110000
cond_most true n h = h
cond_most false n h = omega arith

rounded_small : (step kg : ℕ) → step ≤ 10000 → kg ≤ 99999 → rounded step kg ≤ 110000
rounded_small step kg h k = omega (arith, mul_comm step ((kg + step - 1) / step), div-mul-le_self (kg + step - 1) step)

one_small : (step : ℕ) (cargo : Cargo) (s : ℕ) (place : Place) (o : Option ℕ) → step ≤ 10000 → ((c : ℕ) (x : Container) → slice_get cargo.containers c ≡ Some x → x.kg ≤ 99999) → weight_in step cargo s (place, o) ≤ 110000
one_small step cargo s place None h light = omega (arith, weighs_none step cargo s place)
one_small step cargo s place (Some c) h light = ⊎_elim
    (λ (e : slice_get cargo.containers c ≡ None). rw e (omega (arith, cond_same (place.stack == s))))
    (λ (e : (x : Container) × (slice_get cargo.containers c ≡ Some x)). omega (arith, weighs_some step cargo s c place e.0 e.1, cond_most (place.stack == s) (rounded step (e.0).kg) (rounded_small step (e.0).kg h (light c e.0 e.1))))
    (none_or (slice_get cargo.containers c))
  where
    none_or : (o : Option Container) → (o ≡ None) ⊎ ((x : Container) × (o ≡ Some x))
    none_or None = inl refl
    none_or (Some x) = inr (x, refl)

all_small : {X Y : Type 0} (f : X × Y → ℕ) (xs : List X) (ys : List Y) → ((x : X) (y : Y) → f (x, y) ≤ 110000) → sum_by f (zip xs ys) ≤ 110000 * length xs
all_small f [] ys h = omega arith
all_small f (x ∷ xs) [] h = omega arith
all_small f (x ∷ xs) (y ∷ ys) h = omega (arith, sum_by-cons f (x, y) (zip xs ys), h x y, all_small f xs ys h)

pub weight_small : (ship : Ship) (cargo : Cargo) (plan : Plan) (s : ℕ) → IsShip ship → IsCargo cargo → stack_weight ship cargo plan s ≤ 330000000
weight_small ship cargo plan s rules obeys =
    let few = rules.few_places in
    omega (arith, few, all_small (weight_in ship.weight_step cargo s) (places ship) plan (λ place o. one_small ship.weight_step cargo s place o rules.step_to (λ c x e. (each_is (IsShipped (length cargo.rotation)) cargo.containers c x obeys.each_shipped e).kg_to)))

-- ## Tops

pub at_least : (a b : ℕ) → (a ≤ (if nat_lt a b then b else a)) × (b ≤ (if nat_lt a b then b else a))
at_least a b = ⊎_elim
    (λ (l : a < b). let e : (if nat_lt a b then b else a) ≡ b = cond-true (nat_lt a b) b a (lt-ltb a b l) in (omega (arith, e, l), omega (arith, e)))
    (λ (l : b ≤ a). let e : (if nat_lt a b then b else a) ≡ a = cond-false (nat_lt a b) b a (le-ltb a b l) in (omega (arith, e), omega (arith, e, l)))
    (cases_lt a b)

pub tops_put : (ship : Ship) (cargo : Cargo) (plan : Plan) (tops : List ℕ) (p c old new : ℕ) (place : Place) (x : Container) → CanStand ship cargo plan p c place x → AreTops ship cargo plan tops → slice_get tops place.stack ≡ Some old → old ≤ new → place.tier ≤ new → AreTops ship cargo (slice_set plan p (Some c)) (slice_set tops place.stack new)
tops_put ship cargo plan tops p c old new place x can are at more high s t q d other y h stands same = ⊎_elim
    (λ (e : (other ≡ place) × (y ≡ x)).
    let stack : s ≡ place.stack = sym same ∙ ap (λ (z : Place). z.stack) e.0 in
    let tier : other.tier ≡ place.tier = ap (λ (z : Place). z.tier) e.0 in
    ⊎_elim
    (λ (r : (s ≡ place.stack) × (t ≡ new)). let is : t ≡ new = r.1 in omega (arith, is, tier, high))
    (λ (r : (s ≡ place.stack → ⊥) × (slice_get tops s ≡ Some t)). absurd (r.0 stack))
    (read_after tops place.stack s new t h))
    (λ (k : Stands ship cargo plan q d other y). ⊎_elim
    (λ (r : (s ≡ place.stack) × (t ≡ new)).
    let is : t ≡ new = r.1 in
    let below : other.tier ≤ old = are place.stack old q d other y at k (same ∙ r.0) in
    omega (arith, is, below, more))
    (λ (r : (s ≡ place.stack → ⊥) × (slice_get tops s ≡ Some t)). are s t q d other y r.1 k same)
    (read_after tops place.stack s new t h))
    (stands_after ship cargo plan p c q d place other x y can stands)

-- ## Covers

stands_new : (ship : Ship) (cargo : Cargo) (plan : Plan) (p c : ℕ) (place : Place) (x : Container) → CanStand ship cargo plan p c place x → Stands ship cargo (slice_set plan p (Some c)) p c place x
stands_new ship cargo plan p c place x can = record { is_place = can.is_place; holds = put_there plan p c (slice_get_within plan p None can.free); is_container = can.is_container }

stands_still : (ship : Ship) (cargo : Cargo) (plan : Plan) (p c q d : ℕ) (place other : Place) (x y : Container) → CanStand ship cargo plan p c place x → Stands ship cargo plan q d other y → Stands ship cargo (slice_set plan p (Some c)) q d other y
stands_still ship cargo plan p c q d place other x y can s = record { is_place = s.is_place; holds = put_keeps plan p c q d can.free s.holds; is_container = s.is_container }

bare_before : (ship : Ship) (cargo : Cargo) (plan : Plan) (p c k : ℕ) (place : Place) (x : Container) → CanStand ship cargo plan p c place x → IsBare ship (slice_set plan p (Some c)) k → IsBare ship plan k
bare_before ship cargo plan p c k place x can bare q d other is on h = bare q d other is on (put_keeps plan p c q d can.free h)

bare_after : (ship : Ship) (cargo : Cargo) (plan : Plan) (p c k : ℕ) (place : Place) (x : Container) → CanStand ship cargo plan p c place x → (StandsOn ship place.stack k → ⊥) → IsBare ship plan k → IsBare ship (slice_set plan p (Some c)) k
bare_after ship cargo plan p c k place x can off bare q d other is on h = ⊎_elim
    (λ (e : (q ≡ p) × (d ≡ c)). off (subst (λ (z : Place). StandsOn ship z.stack k) (same_Some other place (sym is ∙ (ap (slice_get (places ship)) e.0 ∙ can.is_place))) on))
    (λ (g : Holds plan q d). bare q d other is on g)
    (put_from plan p c q d h)

-- no cover under the place
pub laden_off : (ship : Ship) (cargo : Cargo) (plan : Plan) (laden : List Bool) (p c : ℕ) (place : Place) (x : Container) → CanStand ship cargo plan p c place x → ((k : ℕ) → StandsOn ship place.stack k → ⊥) → AreLaden ship plan laden → AreLaden ship (slice_set plan p (Some c)) laden
laden_off ship cargo plan laden p c place x can off are k flag h =
    let was = are k flag h in (λ e. bare_after ship cargo plan p c k place x can (off k) (was.0 e), λ b. was.1 (bare_before ship cargo plan p c k place x can b))

-- cover n under it
pub laden_put : (ship : Ship) (cargo : Cargo) (plan : Plan) (laden : List Bool) (p c n : ℕ) (place : Place) (x : Container) → CanStand ship cargo plan p c place x → StandsOn ship place.stack n → ((k : ℕ) → StandsOn ship place.stack k → k ≡ n) → AreLaden ship plan laden → AreLaden ship (slice_set plan p (Some c)) (slice_set laden n true)
laden_put ship cargo plan laden p c n place x can on only are k flag h = ⊎_elim
    (λ (e : (k ≡ n) × (flag ≡ true)). (
      λ f. absurd (both_ways flag f e.1),
      λ b. absurd (b p c place can.is_place (subst (λ (z : ℕ). StandsOn ship place.stack z) (sym e.0) on) (put_there plan p c (slice_get_within plan p None can.free))),
    ))
    (λ (o : (k ≡ n → ⊥) × (slice_get laden k ≡ Some flag)).
    let was = are k flag o.1 in (
      λ e. bare_after ship cargo plan p c k place x can (λ (s : StandsOn ship place.stack k). o.0 (only k s)) (was.0 e),
      λ b. was.1 (bare_before ship cargo plan p c k place x can b),
    ))
    (read_after laden n k true flag h)

none_before_put : (ship : Ship) (cargo : Cargo) (plan : Plan) (p c v k : ℕ) (place : Place) (x : Container) → CanStand ship cargo plan p c place x → NoneEarlierUnder ship cargo (slice_set plan p (Some c)) v k → NoneEarlierUnder ship cargo plan v k
none_before_put ship cargo plan p c v k place x can none q d lower y s under = none q d lower y (stands_still ship cargo plan p c q d place lower x y can s) under

none_after_put : (ship : Ship) (cargo : Cargo) (plan : Plan) (p c v k : ℕ) (place : Place) (x : Container) → CanStand ship cargo plan p c place x → (LiesUnder ship place.stack k → v ≤ x.dest) → NoneEarlierUnder ship cargo plan v k → NoneEarlierUnder ship cargo (slice_set plan p (Some c)) v k
none_after_put ship cargo plan p c v k place x can here none q d lower y s under = ⊎_elim
    (λ (e : (lower ≡ place) × (y ≡ x)). subst (λ (z : Container). v ≤ z.dest) (sym e.1) (here (subst (λ (z : Place). LiesUnder ship z.stack k) e.0 under)))
    (λ (g : Stands ship cargo plan q d lower y). none q d lower y g under)
    (stands_after ship cargo plan p c q d place lower x y can s)

-- no cover over the place
pub earliest_off : (ship : Ship) (cargo : Cargo) (plan : Plan) (earliest : List ℕ) (p c : ℕ) (place : Place) (x : Container) → CanStand ship cargo plan p c place x → ((k : ℕ) → LiesUnder ship place.stack k → ⊥) → AreEarliest ship cargo plan earliest → AreEarliest ship cargo (slice_set plan p (Some c)) earliest
earliest_off ship cargo plan earliest p c place x can off are k m v h l =
    let was = are k m v h l in (λ e. none_after_put ship cargo plan p c v k place x can (λ u. absurd (off k u)) (was.0 e), λ n. was.1 (none_before_put ship cargo plan p c v k place x can n))

-- cover n over it
pub earliest_put : (ship : Ship) (cargo : Cargo) (plan : Plan) (earliest : List ℕ) (p c n old new : ℕ) (place : Place) (x : Container) → CanStand ship cargo plan p c place x → LiesUnder ship place.stack n → ((k : ℕ) → LiesUnder ship place.stack k → k ≡ n) → slice_get earliest n ≡ Some old → ((v : ℕ) → (v ≤ new) ↔ ((v ≤ old) × (v ≤ x.dest))) → AreEarliest ship cargo plan earliest → AreEarliest ship cargo (slice_set plan p (Some c)) (slice_set earliest n new)
earliest_put ship cargo plan earliest p c n old new place x can under only at least are k m v h l = ⊎_elim
    (λ (e : (k ≡ n) × (m ≡ new)).
    let was = are k old v (ap (slice_get earliest) e.0 ∙ at) l in
    let both = least v in (
      λ f. let b = both.0 (subst (λ (z : ℕ). v ≤ z) e.1 f) in none_after_put ship cargo plan p c v k place x can (λ u. b.1) (was.0 b.0),
      λ none. subst (λ (z : ℕ). v ≤ z) (sym e.1) (both.1 (was.1 (none_before_put ship cargo plan p c v k place x can none), none p c place x (stands_new ship cargo plan p c place x can) (subst (λ (z : ℕ). LiesUnder ship place.stack z) (sym e.0) under))),
    ))
    (λ (o : (k ≡ n → ⊥) × (slice_get earliest k ≡ Some m)).
    let was = are k m v o.1 l in (
      λ f. none_after_put ship cargo plan p c v k place x can (λ u. absurd (o.0 (only k u))) (was.0 f),
      λ none. was.1 (none_before_put ship cargo plan p c v k place x can none),
    ))
    (read_after earliest n k new m h)

-- ## Classes

pub classed_put : (ship : Ship) (cargo : Cargo) (plan : Plan) (classed : List ℕ) (p c : ℕ) (place : Place) (x : Container) → CanStand ship cargo plan p c place x → AreClassed ship cargo plan classed → AreClassed ship cargo (slice_set plan p (Some c)) (classed ++ p ∷ [])
classed_put ship cargo plan classed p c place x can are = record {
  inside = All-append (λ (q : ℕ). q < length (places ship)) classed (p ∷ []) are.inside (All-cons (λ (q : ℕ). q < length (places ship)) p [] (slice_get_within (places ship) p place can.is_place) (All-nil (λ (q : ℕ). q < length (places ship))));
  each = λ q d other y s named. ⊎_elim
      (λ (e : (q ≡ p) × (d ≡ c)). Contains-append_right classed (p ∷ []) q (0, omega arith, sym e.0))
      (λ (h : Holds plan q d). Contains-append_left classed (p ∷ []) q (are.each q d other y (record { is_place = s.is_place; holds = h; is_container = s.is_container }) named))
      (put_from plan p c q d s.holds);
}

pub classed_off : (ship : Ship) (cargo : Cargo) (plan : Plan) (classed : List ℕ) (p c : ℕ) (place : Place) (x : Container) → CanStand ship cargo plan p c place x → x.class ≡ None → AreClassed ship cargo plan classed → AreClassed ship cargo (slice_set plan p (Some c)) classed
classed_off ship cargo plan classed p c place x can none are = record {
  inside = are.inside;
  each = λ q d other y s named. ⊎_elim
      (λ (e : (other ≡ place) × (y ≡ x)). absurd (named (ap (λ (z : Container). z.class) e.1 ∙ none)))
      (λ (k : Stands ship cargo plan q d other y). are.each q d other y k named)
      (stands_after ship cargo plan p c q d place other x y can s);
}
