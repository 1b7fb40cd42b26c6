-- The place of a cell, and what is in its way.
use Rattle.std.proofs.Common.{◌≡◌, ℕ, ◌<◌, Bool, true, false, List, [], ◌∷◌, length, get_or, Option, Some, None, refl, sym, ◌∙◌, ap, subst, arith, ◌⊎◌, inl, inr, ⊎_elim}
use Rattle.std.specs.Prelude.{◌==◌, ◌&&◌, ◌||◌, ◌↔◌, IfSome, IsTrue, MatchOption, is_some, nat_lt, position, slice_get, slice_index_or}
use Rattle.std.specs.List.{list_any, position_or_len}
use Rattle.std.proofs.lemmas.Bool.{and_from, and_parts, both_ways, cond-false, cond-true, eq-eqb, eqb-true, false_from_ne_true, le-ltb, lt-ltb}
use Rattle.std.proofs.lemmas.List.Sums.{position_or_len_is}
use Rattle.std.proofs.lemmas.Option.{get_or_from_slice_get, same_Some, slice_get-get_or, slice_get_within}
use Rattle.stow_data.specs.declared.geometry.Half.{Half}
use Rattle.stow_data.specs.declared.geometry.Place.{Place}
use Rattle.stow_data.specs.declared.geometry.Stack.{Stack}
use Rattle.stow_data.specs.Ship.{Ship, HasHalf, HasNumber, half_at, number_in, places}
use Rattle.stow_data.specs.Plans.{Plan, held, no_stack, place_at, place_numbers}
use Rattle.stow_data.proofs.Listed.{place_from}
use Rattle.stow_data.proofs.Members.{Member, range_at, range_from}
use Rattle.stow_data.proofs.PlanLookups.{held_is, is_held, is_place, place_is}
use Rattle.stowage_rules.specs.Plan.{Fills}
use Rattle.stow_data.specs.Near.{meets}
use Rattle.stowage_rules.proofs.PlansHold.{meeting_half, meets_from}
use Rattle.arrival_plan.specs.Cells.{IsTakenOn, cell_of, is_same_cell, is_taken, place_of}

-- ## The first index at which a test passes, where it passes at one index at most

position_past : {X : Type 0} (t : X → Bool) (xs : List X) → position_or_len t xs ≡ length xs → position t xs ≡ None
position_past t xs e = cond-false (nat_lt (position_or_len t xs) (length xs)) (Some (position_or_len t xs)) None (le-ltb (position_or_len t xs) (length xs) (omega arith))

position_at : {X : Type 0} (t : X → Bool) (xs : List X) (p : ℕ) → p < length xs → position_or_len t xs ≡ p → position t xs ≡ Some p
position_at t xs p l e = cond-true (nat_lt (position_or_len t xs) (length xs)) (Some (position_or_len t xs)) None (lt-ltb (position_or_len t xs) (length xs) (omega arith)) ∙ ap (λ (n : ℕ). Some n) e

pub position_is : {X : Type 0} (t : X → Bool) (xs : List X) (d : X) (o : Option ℕ) → MatchOption o ((k : ℕ) → k < length xs → t (get_or xs k d) ≡ true → ⊥) (λ p. (p < length xs) × (t (get_or xs p d) ≡ true)) → ((k : ℕ) → k < length xs → t (get_or xs k d) ≡ true → o ≡ Some k) → o ≡ position t xs
position_is t xs d None h back = sym (position_past t xs (position_or_len_is t xs (length xs) d (omega arith) (λ k l. false_from_ne_true (t (get_or xs k d)) (h k l)) (λ l. absurd (omega arith))))
position_is t xs d (Some p) h back = sym (position_at t xs p h.0 (position_or_len_is t xs p d (omega (arith, h.0)) (λ k l. false_from_ne_true (t (get_or xs k d)) (λ is. let same : p ≡ k = same_Some p k (back k (omega (arith, h.0)) is) in absurd (omega arith))) (λ l. h.1)))

-- ## The place of a cell

cells_from : (a b : ℕ × ℕ × ℕ) → is_same_cell a b ≡ true → a ≡ b
cells_from (a, b, c) (x, y, z) h =
    let p = and_parts (a == x) ((b == y) && (c == z)) h in
    let q = and_parts (b == y) (c == z) p.1 in
    let e : a ≡ x = eqb-true a x p.0 in
    let f : b ≡ y = eqb-true b y q.0 in
    let g : c ≡ z = eqb-true c z q.1 in
    rw (e, f, g) refl

cell_same : (a : ℕ × ℕ × ℕ) → is_same_cell a a ≡ true
cell_same (a, b, c) = and_from (a == a) ((b == b) && (c == c)) (eq-eqb a a refl) (and_from (b == b) (c == c) (eq-eqb b b refl) (eq-eqb c c refl))

pub number_from : (ship : Ship) (cell : ℕ × ℕ × ℕ) (p : ℕ) (place : Place) → slice_get (places ship) p ≡ Some place → is_same_cell (cell_of ship place) cell ≡ true → HasNumber ship p cell
number_from ship cell p place is h =
    let of = place_from ship p place is in
    let stack : slice_index_or ship.stacks place.stack no_stack ≡ of.stack_at = get_or_from_slice_get ship.stacks place.stack of.stack_at no_stack of.is_stack in
    record {
      place = place;
      is_place = is;
      stack = of.stack_at;
      is_stack = of.is_stack;
      is_number = ap (λ (s : Stack). number_in s place) (sym stack) ∙ cells_from (cell_of ship place) cell h;
    }

cell_from : (ship : Ship) (cell : ℕ × ℕ × ℕ) (p : ℕ) (d : Place) → HasNumber ship p cell → (p < length (places ship)) × (is_same_cell (cell_of ship (get_or (places ship) p d)) cell ≡ true)
cell_from ship cell p d x =
    let at : get_or (places ship) p d ≡ x.place = get_or_from_slice_get (places ship) p x.place d x.is_place in
    let stack : slice_index_or ship.stacks x.place.stack no_stack ≡ x.stack = get_or_from_slice_get ship.stacks x.place.stack x.stack no_stack x.is_stack in
    let same : cell_of ship (get_or (places ship) p d) ≡ cell = ap (cell_of ship) at ∙ (ap (λ (s : Stack). number_in s x.place) stack ∙ x.is_number) in
    (slice_get_within (places ship) p x.place x.is_place, subst (λ (z : ℕ × ℕ × ℕ). is_same_cell z cell ≡ true) (sym same) (cell_same cell))

-- a place that a ship tells of a number is the place of it
pub place_told : (ship : Ship) (cell : ℕ × ℕ × ℕ) (o : Option ℕ) → MatchOption o ((p : ℕ) → HasNumber ship p cell → ⊥) (λ p. HasNumber ship p cell) → ((p : ℕ) → HasNumber ship p cell → o ≡ Some p) → o ≡ place_of ship cell
unfolding place_of
place_told ship cell o has back = position_is (λ place. is_same_cell (cell_of ship place) cell) (places ship) no_place_here o (turned o has) (λ k l is. back k (number_from ship cell k (get_or (places ship) k no_place_here) (slice_get-get_or (places ship) k no_place_here l) is))
  where
    no_place_here : Place
    no_place_here = place_at ship 0

    turned : (o : Option ℕ) → MatchOption o ((p : ℕ) → HasNumber ship p cell → ⊥) (λ p. HasNumber ship p cell) → MatchOption o ((k : ℕ) → k < length (places ship) → is_same_cell (cell_of ship (get_or (places ship) k no_place_here)) cell ≡ true → ⊥) (λ p. (p < length (places ship)) × (is_same_cell (cell_of ship (get_or (places ship) p no_place_here)) cell ≡ true))
    turned None h = λ k l is. h k (number_from ship cell k (get_or (places ship) k no_place_here) (slice_get-get_or (places ship) k no_place_here l) is)
    turned (Some p) h = cell_from ship cell p no_place_here h

pub told_inside : (ship : Ship) (cell : ℕ × ℕ × ℕ) (o : Option ℕ) → MatchOption o ((p : ℕ) → HasNumber ship p cell → ⊥) (λ p. HasNumber ship p cell) → IfSome o (λ p. p < length (places ship))
told_inside ship cell None h = tt
told_inside ship cell (Some p) h = slice_get_within (places ship) p h.place h.is_place

-- ## What is in the way

pub or_first : (a b : Bool) → a ≡ true → (a || b) ≡ true
or_first true b h = refl
or_first false b h = absurd (both_ways false refl h)

pub or_second : (a b : Bool) → b ≡ true → (a || b) ≡ true
or_second true b h = refl
or_second false b h = h

any_step : {X : Type 0} (t : X → Bool) (x : X) (xs : List X) (b : Bool) → t x ≡ b → (b || list_any t xs) ≡ true → (list_any t xs ≡ true → (y : X) × Member y xs × (t y ≡ true)) → (y : X) × Member y (x ∷ xs) × (t y ≡ true)
any_step t x xs true e h rest = (x, inl refl, e)
any_step t x xs false e h rest = let r = rest h in (r.0, inr r.1, r.2)

any_from : {X : Type 0} (t : X → Bool) (xs : List X) → list_any t xs ≡ true → (x : X) × Member x xs × (t x ≡ true)
any_from t [] h = absurd (both_ways false refl h)
any_from t (x ∷ xs) h = any_step t x xs (t x) refl h (λ k. any_from t xs k)

any_of : {X : Type 0} (t : X → Bool) (xs : List X) (x : X) → Member x xs → t x ≡ true → list_any t xs ≡ true
any_of t [] x m h = absurd m
any_of {X} t (y ∷ ys) x (inl e) h = or_first (t y) (list_any t ys) (subst (λ (z : X). t z ≡ true) e h)
any_of t (y ∷ ys) x (inr m) h = or_second (t y) (list_any t ys) (any_of t ys x m h)

some_held : (o : Option ℕ) → is_some o ≡ true → (c : ℕ) × (o ≡ Some c)
some_held None h = absurd (both_ways false refl h)
some_held (Some c) h = (c, refl)

half_here : (place : Place) (h : Half) → HasHalf place h → h ≡ half_at place h.aft
half_here place h has = ap (λ (n : ℕ). record { stack = n; tier = h.tier; aft = h.aft }) has.same_stack ∙ ap (λ (n : ℕ). record { stack = place.stack; tier = n; aft = h.aft }) has.same_tier

-- where something is in the way, it fills a half-cell of the place
pub taken_somewhere : (ship : Ship) (plan : Plan) (p : ℕ) → is_taken ship plan p ≡ true → (side : Bool) × IsTakenOn ship plan (place_at ship p) side
unfolding is_taken
taken_somewhere ship plan p h =
    let q = any_from (λ q. is_some (held plan q) && meets (place_at ship p) (place_at ship q)) (place_numbers ship) h in
    let both = and_parts (is_some (held plan q.0)) (meets (place_at ship p) (place_at ship q.0)) q.2 in
    let c = some_held (held plan q.0) both.0 in
    let half = meeting_half (place_at ship p) (place_at ship q.0) both.1 in
    let inside = range_at 0 (length (places ship)) q.0 q.1 in
    let low : q.0 < length (places ship) = omega (arith, inside.1) in
    let fills : Fills ship plan half.0 c.0 = record { number = q.0; place = place_at ship q.0; is_place = is_place ship q.0 low; has_half = half.2; holds = is_held plan q.0 c.0 c.1 } in
    (half.0.aft, (half.1.side, (c.0, subst (λ (z : Half). Fills ship plan z c.0) (half_here (place_at ship p) half.0 half.1) fills)))

-- and what fills a half-cell of the place is in the way
pub taken_from : (ship : Ship) (plan : Plan) (p : ℕ) (side : Bool) → IsTakenOn ship plan (place_at ship p) side → is_taken ship plan p ≡ true
unfolding is_taken
taken_from ship plan p side x =
    let c = x.1.0 in
    let f = x.1.1 in
    let low = slice_get_within (places ship) f.number f.place f.is_place in
    let same : f.place ≡ place_at ship f.number = sym (place_is ship f.number f.place f.is_place) in
    let m : meets (place_at ship p) (place_at ship f.number) ≡ true = subst (λ (z : Place). meets (place_at ship p) z ≡ true) same (meets_from (place_at ship p) f.place (half_at (place_at ship p) side) (record { same_stack = refl; same_tier = refl; side = x.0 }) f.has_half) in
    let full : is_some (held plan f.number) ≡ true = ap (λ (o : Option ℕ). is_some o) (held_is plan f.number (Some c) f.holds) in
    any_of (λ q. is_some (held plan q) && meets (place_at ship p) (place_at ship q)) (place_numbers ship) f.number (range_from 0 (length (places ship)) f.number (omega arith) (omega (arith, low))) (and_from (is_some (held plan f.number)) (meets (place_at ship p) (place_at ship f.number)) full m)

one_value : (a b : Bool) → (a ≡ true → b ≡ true) → (b ≡ true → a ≡ true) → a ≡ b
one_value true b f g = sym (f refl)
one_value false true f g = g refl
one_value false false f g = refl

or_cases : (a b : Bool) → (a || b) ≡ true → (a ≡ true) ⊎ (b ≡ true)
or_cases true b h = inl refl
or_cases false b h = inr h

-- what is found on the two sides is whether something is in the way
pub taken_by_sides : (ship : Ship) (plan : Plan) (p : ℕ) (fore aft : Bool) → (IsTrue fore ↔ IsTakenOn ship plan (place_at ship p) false) → (IsTrue aft ↔ IsTakenOn ship plan (place_at ship p) true) → (fore || aft) ≡ is_taken ship plan p
taken_by_sides ship plan p fore aft f a = one_value (fore || aft) (is_taken ship plan p)
    (λ h. ⊎_elim (λ (k : fore ≡ true). taken_from ship plan p false (f.0 k)) (λ (k : aft ≡ true). taken_from ship plan p true (a.0 k)) (or_cases fore aft h))
    (λ h. let s = taken_somewhere ship plan p h in by_side s.0 s.1)
  where
    by_side : (side : Bool) → IsTakenOn ship plan (place_at ship p) side → (fore || aft) ≡ true
    by_side false x = or_first fore aft (f.1 x)
    by_side true x = or_second fore aft (a.1 x)
