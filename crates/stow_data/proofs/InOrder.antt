-- Places and half-cells by their numbers: each stands once, and they rise by stack and tier.
use Rattle.std.proofs.Common.{◌≡◌, ℕ, zero, suc, ◌<◌, ◌≤◌, ◌+◌, ◌-◌, Bool, false, List, [], ◌∷◌, ◌++◌, arith, refl, sym, ◌∙◌, ap, ◌⊎◌, inl, inr, ⊎_elim, subst, length, Some}
use Rattle.std.specs.Prelude.{slice_get, slice_index_or, flat_map, map}
use Rattle.std.specs.List.{range_with_len, enumerate_from}
use Rattle.std.proofs.lemmas.Bool.{false≢true, cases_order}
use Rattle.std.proofs.lemmas.Option.{none-some, same_Some, slice_get_within}
use Rattle.stow_data.specs.declared.geometry.Stack.{Stack}
use Rattle.stow_data.specs.declared.geometry.Span.{Span}
use Rattle.stow_data.specs.declared.geometry.Lengths.{Lengths}
use Rattle.stow_data.specs.declared.geometry.Lengths.TheVariants.{Forty, Twenty, Mixed, ForeOnly, AftOnly}
use Rattle.stow_data.specs.declared.geometry.Place.{Place}
use Rattle.stow_data.specs.declared.geometry.Half.{Half}
use Rattle.stow_data.specs.Ship.{Ship, places, halves, spans, sides, stack_places, stack_halves, tier_places, tier_halves, IsAbove, IsDirectlyAbove}
use Rattle.stow_data.proofs.Members.{Member, flat_at, flat_from, map_at, map_from, range_from, index_of, numbered, listed, member_of}
use Rattle.stow_data.proofs.Distinct.{Distinct, distinct_flat, distinct_map, distinct_range, differ_numbers, distinct_get}
use Rattle.stow_data.proofs.Listed.{half_from}

-- an item of two lists joined is one of the first or of the second
pub split_get : {X : Type 0} (xs ys : List X) (k : ℕ) (z : X) → slice_get (xs ++ ys) k ≡ Some z → ((k < length xs) × (slice_get xs k ≡ Some z)) ⊎ ((j : ℕ) × (k ≡ length xs + j) × (slice_get ys j ≡ Some z))
split_get [] ys k z h = inr (k, omega arith, h)
split_get (x ∷ xs) ys zero z h = inl (omega arith, h)
split_get {X} (x ∷ xs) ys (suc k) z h = ⊎_elim
    (λ (a : (k < length xs) × (slice_get xs k ≡ Some z)). inl (omega (arith, a.0), a.1))
    (λ (b : (j : ℕ) × (k ≡ length xs + j) × (slice_get ys j ≡ Some z)). inr (b.0, omega (arith, b.1), b.2))
    (split_get xs ys k z h)

pub get_left : {X : Type 0} (xs ys : List X) (k : ℕ) (z : X) → slice_get xs k ≡ Some z → slice_get (xs ++ ys) k ≡ Some z
get_left [] ys k z h = absurd (none-some z h)
get_left (x ∷ xs) ys zero z h = h
get_left (x ∷ xs) ys (suc k) z h = get_left xs ys k z h

pub get_right : {X : Type 0} (xs ys : List X) (k j : ℕ) → j ≡ length xs + k → slice_get (xs ++ ys) j ≡ slice_get ys k
get_right [] ys k j e = ap (slice_get ys) (let f : j ≡ k = omega arith in f)
get_right (x ∷ xs) ys k zero e = absurd (omega arith)
get_right (x ∷ xs) ys k (suc j) e = get_right xs ys k j (omega arith)

-- each half-cell of a stack has a number
pub half_listed : (ship : Ship) (n t : ℕ) (side : Bool) (stack : Stack) → slice_get ship.stacks n ≡ Some stack → t < stack.tiers → Member side (sides stack.lengths) → (k : ℕ) × (slice_get (halves ship) k ≡ Some (record { stack = n; tier = t; aft = side }))
unfolding halves
half_listed ship n t side stack is low m =
    let here : Member (n, stack) (enumerate_from 0 ship.stacks) = subst (λ (i : ℕ). Member (i, stack) (enumerate_from 0 ship.stacks)) (let q : 0 + n ≡ n = omega arith in q) (listed ship.stacks 0 n stack is) in
    let one : Half = record { stack = n; tier = t; aft = side } in
    index_of (halves ship) one (flat_from stack_halves (enumerate_from 0 ship.stacks) (n, stack) one here
    (flat_from (tier_halves n stack) (range_with_len 0 stack.tiers) t one (range_from 0 stack.tiers t (omega arith) (omega arith))
    (map_from (λ (s : Bool). record { stack = n; tier = t; aft = s }) (sides stack.lengths) side m)))

-- each place of a stack has a number
pub place_listed : (ship : Ship) (n t : ℕ) (span : Span) (stack : Stack) → slice_get ship.stacks n ≡ Some stack → t < stack.tiers → Member span (spans stack.lengths) → (k : ℕ) × (slice_get (places ship) k ≡ Some (record { stack = n; tier = t; span = span; plug = slice_index_or stack.plugs t false }))
unfolding places
place_listed ship n t span stack is low m =
    let here : Member (n, stack) (enumerate_from 0 ship.stacks) = subst (λ (i : ℕ). Member (i, stack) (enumerate_from 0 ship.stacks)) (let q : 0 + n ≡ n = omega arith in q) (listed ship.stacks 0 n stack is) in
    let one : Place = record { stack = n; tier = t; span = span; plug = slice_index_or stack.plugs t false } in
    index_of (places ship) one (flat_from stack_places (enumerate_from 0 ship.stacks) (n, stack) one here
    (flat_from (tier_places n stack) (range_with_len 0 stack.tiers) t one (range_from 0 stack.tiers t (omega arith) (omega arith))
    (map_from (λ (s : Span). record { stack = n; tier = t; span = s; plug = slice_index_or stack.plugs t false }) (spans stack.lengths) span m)))

distinct_sides : (l : Lengths) → Distinct (sides l)
distinct_sides Forty = (((λ e. false≢true e), tt), (tt, tt))
distinct_sides Twenty = (((λ e. false≢true e), tt), (tt, tt))
distinct_sides Mixed = (((λ e. false≢true e), tt), (tt, tt))
distinct_sides ForeOnly = (tt, tt)
distinct_sides AftOnly = (tt, tt)

distinct_spans : (l : Lengths) → Distinct (spans l)
distinct_spans Forty = (tt, tt)
distinct_spans Twenty = (((λ e. cc), tt), (tt, tt))
distinct_spans Mixed = (((λ e. cc), ((λ e. cc), tt)), (((λ e. cc), tt), (tt, tt)))
distinct_spans ForeOnly = (tt, tt)
distinct_spans AftOnly = (tt, tt)

pub distinct_halves : (ship : Ship) → Distinct (halves ship)
unfolding halves
distinct_halves ship = distinct_flat stack_halves (λ (h : Half). h.stack) (λ (s : ℕ × Stack). s.0) (enumerate_from 0 ship.stacks) (differ_numbers 0 ship.stacks)
    (λ s h m. let b = flat_at _ (range_with_len 0 s.1.tiers) h m in let c = map_at _ (sides s.1.lengths) h b.2 in ap (λ (z : Half). z.stack) c.2)
    (λ s. distinct_flat (tier_halves s.0 s.1) (λ (h : Half). h.tier) (λ (t : ℕ). t) (range_with_len 0 s.1.tiers) (distinct_range 0 s.1.tiers)
    (λ t h m. let c = map_at _ (sides s.1.lengths) h m in ap (λ (z : Half). z.tier) c.2)
    (λ t. distinct_map (λ (side : Bool). record { stack = s.0; tier = t; aft = side }) (λ (h : Half). h.aft) (sides s.1.lengths) (λ x. refl) (distinct_sides s.1.lengths)))

pub distinct_places : (ship : Ship) → Distinct (places ship)
unfolding places
distinct_places ship = distinct_flat stack_places (λ (p : Place). p.stack) (λ (s : ℕ × Stack). s.0) (enumerate_from 0 ship.stacks) (differ_numbers 0 ship.stacks)
    (λ s p m. let b = flat_at _ (range_with_len 0 s.1.tiers) p m in let c = map_at _ (spans s.1.lengths) p b.2 in ap (λ (z : Place). z.stack) c.2)
    (λ s. distinct_flat (tier_places s.0 s.1) (λ (p : Place). p.tier) (λ (t : ℕ). t) (range_with_len 0 s.1.tiers) (distinct_range 0 s.1.tiers)
    (λ t p m. let c = map_at _ (spans s.1.lengths) p m in ap (λ (z : Place). z.tier) c.2)
    (λ t. distinct_map (λ (span : Span). record { stack = s.0; tier = t; span = span; plug = slice_index_or s.1.plugs t false }) (λ (p : Place). p.span) (spans s.1.lengths) (λ x. refl) (distinct_spans s.1.lengths)))

-- a half-cell, and a place, has one number
pub half_once : (ship : Ship) (i j : ℕ) (h : Half) → slice_get (halves ship) i ≡ Some h → slice_get (halves ship) j ≡ Some h → i ≡ j
half_once ship i j h a b = distinct_get (halves ship) i j h (distinct_halves ship) a b

pub place_once : (ship : Ship) (i j : ℕ) (p : Place) → slice_get (places ship) i ≡ Some p → slice_get (places ship) j ≡ Some p → i ≡ j
place_once ship i j p a b = distinct_get (places ship) i j p (distinct_places ship) a b

-- the half-cell of the next tier
abbrev pub up : Half → Half
up h = record { stack = h.stack; tier = h.tier + 1; aft = h.aft }

abbrev shelf : ℕ → List Bool → ℕ → List Half
shelf s sides t = map (λ (side : Bool). record { stack = s; tier = t; aft = side }) sides

shelf_up : (s : ℕ) (sides : List Bool) (t k : ℕ) (h : Half) → slice_get (shelf s sides t) k ≡ Some h → (slice_get (shelf s sides (t + 1)) k ≡ Some (up h)) × (h.tier ≡ t) × (h.stack ≡ s)
shelf_up s [] t k h e = absurd (none-some h e)
shelf_up s (b ∷ bs) t zero h e = let f : record { stack = s; tier = t; aft = b } ≡ h = same_Some _ h e in (ap (λ (x : Half). Some (up x)) f, sym (ap (λ (x : Half). x.tier) f), sym (ap (λ (x : Half). x.stack) f))
shelf_up s (b ∷ bs) t (suc k) h e = shelf_up s bs t k h e

length-shelf : (s : ℕ) (sides : List Bool) (t : ℕ) → length (shelf s sides t) ≡ length sides
length-shelf s [] t = refl
length-shelf s (b ∷ bs) t = let e : length (shelf s bs t) ≡ length bs = length-shelf s bs t in omega arith

-- as many further as the stack has sides stands the half-cell of the next tier
tower_up : (s : ℕ) (sides : List Bool) (a n k : ℕ) (h : Half) → slice_get (flat_map (shelf s sides) (range_with_len a n)) k ≡ Some h → h.tier + 1 < a + n → slice_get (flat_map (shelf s sides) (range_with_len a n)) (k + length sides) ≡ Some (up h)
tower_up s sides a zero k h e l = absurd (none-some h e)
tower_up s sides a (suc n) k h e l = ⊎_elim
    (λ (u : (k < length (shelf s sides a)) × (slice_get (shelf s sides a) k ≡ Some h)). let r = shelf_up s sides a k h u.1 in first n r.0 r.1 l)
    (λ (u : (j : ℕ) × (k ≡ length (shelf s sides a) + j) × (slice_get (flat_map (shelf s sides) (range_with_len (a + 1) n)) j ≡ Some h)).
    get_right (shelf s sides a) (flat_map (shelf s sides) (range_with_len (a + 1) n)) (u.0 + length sides) (k + length sides) (omega (arith, u.1)) ∙ tower_up s sides (a + 1) n u.0 h u.2 (omega arith))
    (split_get (shelf s sides a) (flat_map (shelf s sides) (range_with_len (a + 1) n)) k h e)
  where
    first : (n : ℕ) → slice_get (shelf s sides (a + 1)) k ≡ Some (up h) → h.tier ≡ a → h.tier + 1 < a + suc n → slice_get (shelf s sides a ++ flat_map (shelf s sides) (range_with_len (a + 1) n)) (k + length sides) ≡ Some (up h)
    first zero r t l = absurd (omega (arith, t))
    first (suc m) r t l = get_right (shelf s sides a) (shelf s sides (a + 1) ++ flat_map (shelf s sides) (range_with_len (a + 1 + 1) m)) k (k + length sides) (omega (arith, length-shelf s sides a)) ∙ get_left (shelf s sides (a + 1)) (flat_map (shelf s sides) (range_with_len (a + 1 + 1) m)) k (up h) r

tower_stack : (s : ℕ) (sides : List Bool) (a n k : ℕ) (h : Half) → slice_get (flat_map (shelf s sides) (range_with_len a n)) k ≡ Some h → h.stack ≡ s
tower_stack s sides a n k h e =
    let b = flat_at (shelf s sides) (range_with_len a n) h (member_of (flat_map (shelf s sides) (range_with_len a n)) k h e) in
    let c = map_at (λ (side : Bool). record { stack = s; tier = b.0; aft = side }) sides h b.2 in ap (λ (z : Half). z.stack) c.2

later_stack : (m : ℕ) (xs : List Stack) (k : ℕ) (h : Half) → slice_get (flat_map stack_halves (enumerate_from m xs)) k ≡ Some h → m ≤ h.stack
later_stack m xs k h e =
    let a = flat_at stack_halves (enumerate_from m xs) h (member_of (flat_map stack_halves (enumerate_from m xs)) k h e) in
    let n = numbered xs m a.0 a.1 in
    let b = flat_at (tier_halves a.0.0 a.0.1) (range_with_len 0 a.0.1.tiers) h a.2 in
    let c = map_at (λ (side : Bool). record { stack = a.0.0; tier = b.0; aft = side }) (sides a.0.1.lengths) h b.2 in
    let same : h.stack ≡ a.0.0 = ap (λ (z : Half). z.stack) c.2 in
    omega (arith, n.1, same)

-- the item after the first
past_first : {X : Type 0} (x : X) (xs : List X) (n : ℕ) (y : X) → 0 < n → slice_get (x ∷ xs) n ≡ Some y → (j : ℕ) × (n ≡ j + 1) × (slice_get xs j ≡ Some y)
past_first x xs zero y l e = absurd (omega arith)
past_first x xs (suc n) y l e = (n, omega arith, e)

all_up : (m : ℕ) (xs : List Stack) (k n : ℕ) (h : Half) (stack : Stack) → slice_get (flat_map stack_halves (enumerate_from m xs)) k ≡ Some h → h.stack ≡ m + n → slice_get xs n ≡ Some stack → h.tier + 1 < stack.tiers → slice_get (flat_map stack_halves (enumerate_from m xs)) (k + length (sides stack.lengths)) ≡ Some (up h)
all_up m [] k n h stack e s i l = absurd (none-some stack i)
all_up m (x ∷ xs) k n h stack e s i l = ⊎_elim
    (λ (u : (k < length (stack_halves (m, x))) × (slice_get (stack_halves (m, x)) k ≡ Some h)).
    let here : h.stack ≡ m = tower_stack m (sides x.lengths) 0 x.tiers k h u.1 in
    let first : n ≡ 0 = omega (arith, here) in
    let same : x ≡ stack = same_Some x stack (subst (λ (z : ℕ). slice_get (x ∷ xs) z ≡ Some stack) first i) in
    subst (λ (z : Stack). slice_get (flat_map stack_halves (enumerate_from m (x ∷ xs))) (k + length (sides z.lengths)) ≡ Some (up h)) same
    (get_left (stack_halves (m, x)) (flat_map stack_halves (enumerate_from (m + 1) xs)) (k + length (sides x.lengths)) (up h)
    (tower_up m (sides x.lengths) 0 x.tiers k h u.1 (let low : h.tier + 1 < x.tiers = subst (λ (z : Stack). h.tier + 1 < z.tiers) (sym same) l in omega (arith, low)))))
    (λ (u : (j : ℕ) × (k ≡ length (stack_halves (m, x)) + j) × (slice_get (flat_map stack_halves (enumerate_from (m + 1) xs)) j ≡ Some h)).
    let far : m + 1 ≤ h.stack = later_stack (m + 1) xs u.0 h u.2 in
    let r = past_first x xs n stack (omega (arith, far)) i in
    get_right (stack_halves (m, x)) (flat_map stack_halves (enumerate_from (m + 1) xs)) (u.0 + length (sides stack.lengths)) (k + length (sides stack.lengths)) (omega (arith, u.1)) ∙ all_up (m + 1) xs u.0 r.0 h stack u.2 (omega (arith, r.1)) r.2 l)
    (split_get (stack_halves (m, x)) (flat_map stack_halves (enumerate_from (m + 1) xs)) k h e)

pub half_up : (ship : Ship) (k : ℕ) (h : Half) (stack : Stack) → slice_get (halves ship) k ≡ Some h → slice_get ship.stacks h.stack ≡ Some stack → h.tier + 1 < stack.tiers → slice_get (halves ship) (k + length (sides stack.lengths)) ≡ Some (up h)
unfolding halves
half_up ship k h stack e is l = all_up 0 ship.stacks k h.stack h stack e (omega arith) is l

-- as many back as the stack has sides stands the half-cell of the tier before
pub half_down : (ship : Ship) (k : ℕ) (h : Half) (stack : Stack) → slice_get (halves ship) k ≡ Some h → slice_get ship.stacks h.stack ≡ Some stack → 0 < h.tier → (j : ℕ) × (k ≡ j + length (sides stack.lengths)) × (slice_get (halves ship) j ≡ Some (record { stack = h.stack; tier = h.tier - 1; aft = h.aft }))
half_down ship k h stack e is l =
    let from = half_from ship k h e in
    let same : from.stack_at ≡ stack = same_Some _ _ (sym from.is_stack ∙ is) in
    let low : h.tier < stack.tiers = subst (λ (s : Stack). h.tier < s.tiers) same from.low in
    let side : Member h.aft (sides stack.lengths) = subst (λ (s : Stack). Member h.aft (sides s.lengths)) same from.side in
    let r = half_listed ship h.stack (h.tier - 1) h.aft stack is (omega arith) side in
    let back : h.tier - 1 + 1 ≡ h.tier = omega arith in
    let over = half_up ship r.0 (record { stack = h.stack; tier = h.tier - 1; aft = h.aft }) stack r.1 is (omega (arith, low)) in
    let again : slice_get (halves ship) (r.0 + length (sides stack.lengths)) ≡ Some h = over ∙ ap (λ (t : ℕ). Some (record { stack = h.stack; tier = t; aft = h.aft })) back in
    (r.0, half_once ship k (r.0 + length (sides stack.lengths)) h e again, r.1)

-- a half-cell has at most one directly above, and at most one directly below
pub one_above : (ship : Ship) (u v h : ℕ) → IsAbove ship u h → IsAbove ship v h → u ≡ v
one_above ship u v h a b =
    let same : a.lower ≡ b.lower = same_Some _ _ (sym a.is_lower ∙ b.is_lower) in
    half_once ship u v a.upper a.is_upper (b.is_upper ∙ ap (λ (z : Half). Some z) (sym (directly a.upper b.upper a.lower b.lower same a.directly b.directly)))
  where
    directly : (x y p q : Half) → p ≡ q → IsDirectlyAbove x p → IsDirectlyAbove y q → x ≡ y
    directly x y p q e f g =
        ap (λ (s : ℕ). record { stack = s; tier = x.tier; aft = x.aft }) (f.same_stack ∙ ap (λ (z : Half). z.stack) e ∙ sym g.same_stack)
        ∙ ap (λ (t : ℕ). record { stack = y.stack; tier = t; aft = x.aft }) (f.next_tier ∙ ap (λ (z : Half). z.tier + 1) e ∙ sym g.next_tier)
        ∙ ap (λ (s : Bool). record { stack = y.stack; tier = y.tier; aft = s }) (f.same_side ∙ ap (λ (z : Half). z.aft) e ∙ sym g.same_side)

-- one place comes before the other by stack, then tier
pub record IsEarlier (p q : Place) : Type 0 where
  pub stacks : p.stack ≤ q.stack
  pub tiers : p.stack ≡ q.stack → p.tier ≤ q.tier

abbrev Rises : List Place → Type 0
Rises xs = (i j : ℕ) (x y : Place) → i < j → slice_get xs i ≡ Some x → slice_get xs j ≡ Some y → IsEarlier x y

rises_append : (xs ys : List Place) → Rises xs → Rises ys → ((i j : ℕ) (x y : Place) → slice_get xs i ≡ Some x → slice_get ys j ≡ Some y → IsEarlier x y) → Rises (xs ++ ys)
rises_append xs ys a b across i j x y l h k = ⊎_elim
    (λ (u : (i < length xs) × (slice_get xs i ≡ Some x)). ⊎_elim
    (λ (v : (j < length xs) × (slice_get xs j ≡ Some y)). a i j x y l u.1 v.1)
    (λ (v : (m : ℕ) × (j ≡ length xs + m) × (slice_get ys m ≡ Some y)). across i v.0 x y u.1 v.2)
    (split_get xs ys j y k))
    (λ (u : (m : ℕ) × (i ≡ length xs + m) × (slice_get ys m ≡ Some x)). ⊎_elim
    (λ (v : (j < length xs) × (slice_get xs j ≡ Some y)). absurd (omega (arith, u.1, v.0)))
    (λ (v : (m : ℕ) × (j ≡ length xs + m) × (slice_get ys m ≡ Some y)). b u.0 v.0 x y (omega (arith, u.1, v.1)) u.2 v.2)
    (split_get xs ys j y k))
    (split_get xs ys i x h)

tier_is : (s : ℕ × Stack) (t k : ℕ) (p : Place) → slice_get (tier_places s.0 s.1 t) k ≡ Some p → (p.stack ≡ s.0) × (p.tier ≡ t)
tier_is s t k p h =
    let c = map_at (λ (span : Span). record { stack = s.0; tier = t; span = span; plug = slice_index_or s.1.plugs t false }) (spans s.1.lengths) p (member_of (tier_places s.0 s.1 t) k p h) in
    (ap (λ (z : Place). z.stack) c.2, ap (λ (z : Place). z.tier) c.2)

tiers_are : (s : ℕ × Stack) (a n k : ℕ) (p : Place) → slice_get (flat_map (tier_places s.0 s.1) (range_with_len a n)) k ≡ Some p → (p.stack ≡ s.0) × (a ≤ p.tier)
tiers_are s a zero k p h = absurd (none-some p h)
tiers_are s a (suc n) k p h = ⊎_elim
    (λ (u : (k < length (tier_places s.0 s.1 a)) × (slice_get (tier_places s.0 s.1 a) k ≡ Some p)). let r = tier_is s a k p u.1 in (r.0, omega (arith, r.1)))
    (λ (u : (j : ℕ) × (k ≡ length (tier_places s.0 s.1 a) + j) × (slice_get (flat_map (tier_places s.0 s.1) (range_with_len (a + 1) n)) j ≡ Some p)). let r = tiers_are s (a + 1) n u.0 p u.2 in (r.0, omega (arith, r.1)))
    (split_get (tier_places s.0 s.1 a) (flat_map (tier_places s.0 s.1) (range_with_len (a + 1) n)) k p h)

tiers_rise : (s : ℕ × Stack) (a n : ℕ) → Rises (flat_map (tier_places s.0 s.1) (range_with_len a n))
tiers_rise s a zero = λ i j x y l h k. absurd (none-some x h)
tiers_rise s a (suc n) = rises_append (tier_places s.0 s.1 a) (flat_map (tier_places s.0 s.1) (range_with_len (a + 1) n))
    (λ i j x y l h k. let u = tier_is s a i x h in let v = tier_is s a j y k in record { stacks = omega (arith, u.0, v.0); tiers = λ e. omega (arith, u.1, v.1) })
    (tiers_rise s (a + 1) n)
    (λ i j x y h k. let u = tier_is s a i x h in let v = tiers_are s (a + 1) n j y k in record { stacks = omega (arith, u.0, v.0); tiers = λ e. omega (arith, u.1, v.1) })

stacks_are : (m : ℕ) (xs : List Stack) (k : ℕ) (p : Place) → slice_get (flat_map stack_places (enumerate_from m xs)) k ≡ Some p → m ≤ p.stack
stacks_are m [] k p h = absurd (none-some p h)
stacks_are m (x ∷ xs) k p h = ⊎_elim
    (λ (u : (k < length (stack_places (m, x))) × (slice_get (stack_places (m, x)) k ≡ Some p)). let r = tiers_are (m, x) 0 x.tiers k p u.1 in omega (arith, r.0))
    (λ (u : (j : ℕ) × (k ≡ length (stack_places (m, x)) + j) × (slice_get (flat_map stack_places (enumerate_from (m + 1) xs)) j ≡ Some p)). let r : m + 1 ≤ p.stack = stacks_are (m + 1) xs u.0 p u.2 in omega arith)
    (split_get (stack_places (m, x)) (flat_map stack_places (enumerate_from (m + 1) xs)) k p h)

stacks_rise : (m : ℕ) (xs : List Stack) → Rises (flat_map stack_places (enumerate_from m xs))
stacks_rise m [] = λ i j x y l h k. absurd (none-some x h)
stacks_rise m (s ∷ xs) = rises_append (stack_places (m, s)) (flat_map stack_places (enumerate_from (m + 1) xs)) (tiers_rise (m, s) 0 s.tiers) (stacks_rise (m + 1) xs)
    (λ i j x y h k. let u = tiers_are (m, s) 0 s.tiers i x h in let v : m + 1 ≤ y.stack = stacks_are (m + 1) xs j y k in record { stacks = omega (arith, u.0); tiers = λ e. absurd (omega (arith, u.0)) })

-- of two places of one stack, the higher one has the greater number
pub higher_is_later : (ship : Ship) (p q : ℕ) (upper lower : Place) → slice_get (places ship) p ≡ Some upper → slice_get (places ship) q ≡ Some lower → upper.stack ≡ lower.stack → lower.tier < upper.tier → q < p
unfolding places
higher_is_later ship p q upper lower a b same high = ⊎_elim
    (λ (e : p ≡ q).
    let one : upper ≡ lower = same_Some upper lower (sym a ∙ (ap (slice_get (places ship)) e ∙ b)) in
    let level : upper.tier ≡ lower.tier = ap (λ (x : Place). x.tier) one in absurd (omega arith))
    (λ (o : (p < q) ⊎ (q < p)). ⊎_elim (λ (l : p < q). let r = stacks_rise 0 ship.stacks p q upper lower l a b in let t = r.tiers same in absurd (omega (arith, t))) (λ (l : q < p). l) o)
    (cases_order p q)

-- what bounds a half-cell
pub half_stack_in : (ship : Ship) (k : ℕ) (h : Half) → slice_get (halves ship) k ≡ Some h → h.stack < length ship.stacks
half_stack_in ship k h e = let from = half_from ship k h e in slice_get_within ship.stacks h.stack from.stack_at from.is_stack

pub half_low : (ship : Ship) (k : ℕ) (h : Half) (stack : Stack) → slice_get (halves ship) k ≡ Some h → slice_get ship.stacks h.stack ≡ Some stack → h.tier < stack.tiers
half_low ship k h stack e is = let from = half_from ship k h e in subst (λ (s : Stack). h.tier < s.tiers) (same_Some _ _ (sym from.is_stack ∙ is)) from.low

-- the half-cell above, by number
pub above_at : (ship : Ship) (k : ℕ) (h : Half) (stack : Stack) → slice_get (halves ship) k ≡ Some h → slice_get ship.stacks h.stack ≡ Some stack → h.tier + 1 < stack.tiers → IsAbove ship (k + length (sides stack.lengths)) k
above_at ship k h stack e is l = record { upper = up h; is_upper = half_up ship k h stack e is l; lower = h; is_lower = e; directly = record { same_stack = refl; same_side = refl; next_tier = refl } }

-- nothing is above the highest half-cell of a column, or below the lowest
pub none_above : (ship : Ship) (k : ℕ) (h : Half) (stack : Stack) → slice_get (halves ship) k ≡ Some h → slice_get ship.stacks h.stack ≡ Some stack → h.tier + 1 ≡ stack.tiers → (u : ℕ) → IsAbove ship u k → ⊥
none_above ship k h stack e is top u a =
    let same : a.lower ≡ h = same_Some _ _ (sym a.is_lower ∙ e) in
    let stacks : a.upper.stack ≡ h.stack = a.directly.same_stack ∙ ap (λ (z : Half). z.stack) same in
    let low = half_low ship u a.upper stack a.is_upper (ap (slice_get ship.stacks) stacks ∙ is) in
    let tier : a.upper.tier ≡ h.tier + 1 = a.directly.next_tier ∙ ap (λ (z : Half). z.tier + 1) same in
    omega (arith, low, tier)

pub none_below : (ship : Ship) (k : ℕ) (h : Half) → slice_get (halves ship) k ≡ Some h → h.tier ≡ 0 → (b : ℕ) → IsAbove ship k b → ⊥
none_below ship k h e bottom b a =
    let tier : h.tier ≡ a.lower.tier + 1 = ap (λ (z : Half). z.tier) (same_Some _ _ (sym e ∙ a.is_upper)) ∙ a.directly.next_tier in
    omega (arith, tier)

-- the half-cell below, by number
pub below_at : (ship : Ship) (k : ℕ) (h : Half) (stack : Stack) → slice_get (halves ship) k ≡ Some h → slice_get ship.stacks h.stack ≡ Some stack → 0 < h.tier → (j : ℕ) × (k ≡ j + length (sides stack.lengths)) × IsAbove ship k j
below_at ship k h stack e is l = let r = half_down ship k h stack e is l in
    (r.0, r.1, record { upper = h; is_upper = e; lower = record { stack = h.stack; tier = h.tier - 1; aft = h.aft }; is_lower = r.2; directly = record { same_stack = refl; same_side = refl; next_tier = let q : h.tier ≡ h.tier - 1 + 1 = omega arith in q } })
