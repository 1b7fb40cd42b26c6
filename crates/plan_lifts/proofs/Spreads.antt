-- How a set spreads, pass by pass.
use Rattle.std.specs.Prelude.{◌≡◌, ◌↔◌, ◌⊎◌, ℕ, ◌+◌, ◌<◌, ◌≤◌, Bool, true, false, List, Some, length, slice_get, slice_set, ◌||◌, ◌&&◌, IsTrue, replicate, suc, zero}
use Rattle.std.proofs.Common.{refl, sym, ◌∙◌, ap, arith, subst, inl, inr, ⊎_elim}
use Rattle.std.proofs.lemmas.Bool.{and_from, and_parts, both_ways, or_cases, or_left, or_right, cases_eq}
use Rattle.std.proofs.lemmas.List.{get_or-set_other, get_or-set_same}
use Rattle.std.proofs.lemmas.Option.{same_Some, slice_get_within, get_or_from_slice_get}
use Rattle.stow_data.specs.declared.geometry.Place.{Place}
use Rattle.stow_data.specs.Ship.{Ship, places, LiesUnder, StandsOn}
use Rattle.stow_data.specs.Plans.{Plan}
use Rattle.stow_data.proofs.InOrder.{higher_is_later}
use Rattle.stowage_rules.specs.Plan.{Holds}
use Rattle.stowage_rules.proofs.Rising.{rising}
use Rattle.plan_lifts.specs.Least.{IsOver, IsFilled, IsDivided}
use Rattle.plan_lifts.specs.Spread.{has, HasAll, IsAboveOne, IsFar, IsUpward, IsLeastUpward, IsLeastSpread, IsOnOpened, IsOpened, IsOpenedBy, OpensUnder}
use Rattle.plan_lifts.proofs.Order.{over_is_later}
use Rattle.plan_lifts.proofs.Closed.{is_held, held_by}

-- a number added to a set where that is asked
pub added : (set : List Bool) (n : ℕ) (also : Bool) (q : ℕ) → n < length set → (has (slice_set set n (has set n || also)) q ≡ true) ↔ ((has set q ≡ true) ⊎ ((q ≡ n) × (also ≡ true)))
added set n also q l = (
  λ h. ⊎_elim
      (λ (e : q ≡ n).
      let r : (has set n || also) ≡ true = sym (get_or-set_same set n (has set n || also) false l) ∙ (ap (has (slice_set set n (has set n || also))) (sym e) ∙ h) in
      ⊎_elim (λ (x : has set n ≡ true). inl (ap (has set) e ∙ x)) (λ (x : also ≡ true). inr (e, x)) (or_cases (has set n) also r))
      (λ (ne : q ≡ n → ⊥). inl (sym (get_or-set_other set n q (has set n || also) false ne) ∙ h))
      (cases_eq q n),
  λ x. ⊎_elim
      (λ (e : q ≡ n). ap (has (slice_set set n (has set n || also))) e ∙ (get_or-set_same set n (has set n || also) false l ∙ ⊎_elim (λ (h : has set q ≡ true). or_left (has set n) also (ap (has set) (sym e) ∙ h)) (λ (h : (q ≡ n) × (also ≡ true)). or_right (has set n) also h.1) x))
      (λ (ne : q ≡ n → ⊥). get_or-set_other set n q (has set n || also) false ne ∙ ⊎_elim (λ (h : has set q ≡ true). h) (λ (h : (q ≡ n) × (also ≡ true)). absurd (ne h.0)) x)
      (cases_eq q n),
)

-- a place that is far below has nothing directly above it at this place, and neither has any before it
pub none_before : (ship : Ship) (p q : ℕ) (upper here : Place) → slice_get (places ship) p ≡ Some upper → slice_get (places ship) q ≡ Some here → q < p → IsFar upper here → (r : ℕ) → r ≤ q → IsOver ship p r → ⊥
none_before ship p q upper here is_upper is_here before far r l over =
    let top : over.upper ≡ upper = same_Some over.upper upper (sym over.is_upper ∙ is_upper) in
    let stack : over.lower.stack ≡ upper.stack = sym over.same_stack ∙ ap (λ (z : Place). z.stack) top in
    let tier : upper.tier ≡ over.lower.tier + 1 = sym (ap (λ (z : Place). z.tier) top) ∙ over.next_tier in
    ⊎_elim
    (λ (e : r ≡ q).
    let same : over.lower ≡ here = same_Some over.lower here (sym over.is_lower ∙ (ap (slice_get (places ship)) e ∙ is_here)) in
    let here_stack : over.lower.stack ≡ here.stack = ap (λ (z : Place). z.stack) same in
    let here_tier : over.lower.tier ≡ here.tier = ap (λ (z : Place). z.tier) same in
    ⊎_elim (λ (x : here.stack ≡ upper.stack → ⊥). x (sym here_stack ∙ stack)) (λ (x : here.tier + 1 < upper.tier). absurd (omega arith)) far)
    (λ (ne : r ≡ q → ⊥).
    let less : r < q = omega arith in
    let low : over.lower.stack ≤ here.stack = rising ship r q over.lower here less over.is_lower is_here in
    let high : here.stack ≤ upper.stack = rising ship q p here upper before is_here is_upper in
    let same : here.stack ≡ upper.stack = omega arith in
    ⊎_elim (λ (x : here.stack ≡ upper.stack → ⊥). x same)
    (λ (x : here.tier + 1 < upper.tier). let wrong : q < r = higher_is_later ship r q over.lower here over.is_lower is_here (stack ∙ sym same) (omega arith) in absurd (omega arith))
    far)
    (cases_eq r q)

-- the set after the places below n: it holds the seeds and what stands above, and no more than it must
pub record UpTo (ship : Ship) (plan : Plan) (seeds set : ℕ → Bool) (n : ℕ) : Type 0 where
  pub seeded : HasAll seeds set
  pub over : (p q c : ℕ) → p < n → Holds plan p c → IsOver ship p q → set q ≡ true → set p ≡ true
  pub least : (other : ℕ → Bool) → HasAll seeds other → IsUpward ship plan other → HasAll set other

pub up_none : (ship : Ship) (plan : Plan) (seeds : ℕ → Bool) → UpTo ship plan seeds seeds 0
up_none ship plan seeds = record { seeded = λ p h. h; over = λ p q c l. absurd (omega arith); least = λ other seeded closed. seeded }

pub up_more : (ship : Ship) (plan : Plan) (seeds set new : ℕ → Bool) (n : ℕ) (also : Bool) → UpTo ship plan seeds set n
    → (IsTrue also ↔ IsAboveOne ship plan set n)
    → ((q : ℕ) → (new q ≡ true) ↔ ((set q ≡ true) ⊎ ((q ≡ n) × (also ≡ true))))
    → UpTo ship plan seeds new (n + 1)
up_more ship plan seeds set new n also before asks adds = record {
  seeded = λ p h. (adds p).1 (inl (before.seeded p h));
  over = λ p q c l held over h.
      let low : q < p = over_is_later ship p q over in
      let was : set q ≡ true = ⊎_elim (λ (x : set q ≡ true). x) (λ (x : (q ≡ n) × (also ≡ true)). absurd (omega (arith, x.0))) ((adds q).0 h) in
      ⊎_elim
      (λ (e : p ≡ n). (adds p).1 (inr (e, asks.1 (record { container = c; holds = subst (λ (x : ℕ). Holds plan x c) e held; below = q; above = record { over = subst (λ (x : ℕ). IsOver ship x q) e over; in_set = was } }))))
      (λ (ne : p ≡ n → ⊥). (adds p).1 (inl (before.over p q c (omega arith) held over was)))
      (cases_eq p n);
  least = λ other seeded closed p h. ⊎_elim
      (λ (x : set p ≡ true). before.least other seeded closed p x)
      (λ (x : (p ≡ n) × (also ≡ true)). let w = asks.0 x.1 in ap other x.0 ∙ closed n w.below w.container w.holds w.above.over (before.least other seeded closed w.below w.above.in_set))
      ((adds p).0 h);
}

pub up_all : (ship : Ship) (plan : Plan) (seeds set : ℕ → Bool) (n : ℕ) → length (places ship) ≤ n → UpTo ship plan seeds set n → IsLeastUpward ship plan seeds set
up_all ship plan seeds set n all up = record {
  seeded = up.seeded;
  over = λ p q c held over h. let l : p < length (places ship) = slice_get_within (places ship) p over.upper over.is_upper in up.over p q c (omega arith) held over h;
  least = up.least;
}

-- a set that begins empty
pub none_has : (n k : ℕ) → has (replicate n false) k ≡ true → ⊥
none_has zero k h = both_ways false refl h
none_has (suc n) zero h = both_ways false refl h
none_has (suc n) (suc k) h = none_has n k h

-- a set of what stands in a relation to the numbers below n
pub record GatheredTo (R : ℕ → ℕ → Type 0) (set : ℕ → Bool) (n : ℕ) : Type 0 where
  pub from : (k : ℕ) → set k ≡ true → (q : ℕ) × R q k
  pub each : (q k : ℕ) → q < n → R q k → set k ≡ true

pub gathered_none : (R : ℕ → ℕ → Type 0) (flags : List Bool) (n : ℕ) → flags ≡ replicate n false → GatheredTo R (has flags) 0
gathered_none R flags n is = record { from = λ k h. absurd (none_has n k (subst (λ (x : List Bool). has x k ≡ true) is h)); each = λ q k l. absurd (omega arith) }

pub gathered_more : (R : ℕ → ℕ → Type 0) (set new : ℕ → Bool) (n : ℕ) → GatheredTo R set n
    → ((k : ℕ) → (new k ≡ true) ↔ ((set k ≡ true) ⊎ R n k))
    → GatheredTo R new (n + 1)
gathered_more R set new n before adds = record {
  from = λ k h. ⊎_elim (λ (x : set k ≡ true). before.from k x) (λ (x : R n k). (n, x)) ((adds k).0 h);
  each = λ q k l by. ⊎_elim
      (λ (e : q ≡ n). (adds k).1 (inr (subst (λ (x : ℕ). R x k) e by)))
      (λ (ne : q ≡ n → ⊥). (adds k).1 (inl (before.each q k (omega arith) by)))
      (cases_eq q n);
}

pub gathered_all : (R : ℕ → ℕ → Type 0) (set : ℕ → Bool) (n : ℕ) → ((q k : ℕ) → R q k → q < n) → GatheredTo R set n → (k : ℕ) → (set k ≡ true) ↔ ((q : ℕ) × R q k)
gathered_all R set n inside to k = (to.from k, λ x. to.each x.0 k (inside x.0 k x.1) x.1)

-- a set after the numbers below n: what it held at first, and those of which P holds
pub record PickedTo (base : ℕ → Bool) (P : ℕ → Type 0) (set : ℕ → Bool) (n : ℕ) : Type 0 where
  pub adds : (p : ℕ) → set p ≡ true → (base p ≡ true) ⊎ P p
  pub kept : HasAll base set
  pub each : (p : ℕ) → p < n → P p → set p ≡ true

pub picked_none : (base : ℕ → Bool) (P : ℕ → Type 0) → PickedTo base P base 0
picked_none base P = record { adds = λ p h. inl h; kept = λ p h. h; each = λ p l. absurd (omega arith) }

pub picked_more : (base : ℕ → Bool) (P : ℕ → Type 0) (set new : ℕ → Bool) (n : ℕ) (also : Bool) → PickedTo base P set n
    → (IsTrue also ↔ P n)
    → ((q : ℕ) → (new q ≡ true) ↔ ((set q ≡ true) ⊎ ((q ≡ n) × (also ≡ true))))
    → PickedTo base P new (n + 1)
picked_more base P set new n also before asks more = record {
  adds = λ p h. ⊎_elim (λ (x : set p ≡ true). before.adds p x) (λ (x : (p ≡ n) × (also ≡ true)). inr (subst P (sym x.0) (asks.0 x.1))) ((more p).0 h);
  kept = λ p h. (more p).1 (inl (before.kept p h));
  each = λ p l on. ⊎_elim
      (λ (e : p ≡ n). (more p).1 (inr (e, asks.1 (subst P e on))))
      (λ (ne : p ≡ n → ⊥). (more p).1 (inl (before.each p (omega arith) on)))
      (cases_eq p n);
}

pub picked_all : (base : ℕ → Bool) (P : ℕ → Type 0) (set : ℕ → Bool) (n : ℕ) → ((p : ℕ) → P p → p < n) → PickedTo base P set n → (p : ℕ) → (set p ≡ true) ↔ ((base p ≡ true) ⊎ P p)
picked_all base P set n inside to p = (to.adds p, λ x. ⊎_elim (λ (h : base p ≡ true). to.kept p h) (λ (h : P p). to.each p (inside p h) h) x)

-- the cover over a place of the set opens, and no other for this place
pub opens_one : (ship : Ship) (set opened new : List Bool) (p k : ℕ) (place : Place) → has set p ≡ true → slice_get (places ship) p ≡ Some place → LiesUnder ship place.stack k
    → ((j : ℕ) → LiesUnder ship place.stack j → Some k ≡ Some j) → length opened ≡ length ship.covers → new ≡ slice_set opened k true
    → (j : ℕ) → (has new j ≡ true) ↔ ((has opened j ≡ true) ⊎ IsOpenedBy ship (has set) p j)
opens_one ship set opened new p k place in_set is under one each made j =
    let low : k < length opened = (let l : k < length ship.covers = slice_get_within ship.covers k under.cover under.is_cover in omega arith) in
    let read : has new j ≡ has (slice_set opened k true) j = ap (λ (x : List Bool). has x j) made in
    ⊎_elim
    (λ (e : j ≡ k). (
      λ h. inr (record { place = place; is_place = is; under = subst (λ (x : ℕ). LiesUnder ship place.stack x) (sym e) under; in_set = in_set }),
      λ x. read ∙ (ap (has (slice_set opened k true)) e ∙ get_or-set_same opened k true false low),
    ))
    (λ (ne : j ≡ k → ⊥).
    let kept : has new j ≡ has opened j = read ∙ get_or-set_other opened k j true false ne in (
      λ h. inl (sym kept ∙ h),
      λ x. kept ∙ ⊎_elim (λ (h : has opened j ≡ true). h)
          (λ (by : IsOpenedBy ship (has set) p j).
          let same : by.place ≡ place = same_Some by.place place (sym by.is_place ∙ is) in
          absurd (ne (sym (same_Some k j (one j (subst (λ (z : Place). LiesUnder ship z.stack j) same by.under)))))) x,
    ))
    (cases_eq j k)

-- over a place without a cover none opens
pub opens_none : (ship : Ship) (set opened : ℕ → Bool) (p : ℕ) (place : Place) → slice_get (places ship) p ≡ Some place → ((j : ℕ) → LiesUnder ship place.stack j → ⊥)
    → (j : ℕ) → (opened j ≡ true) ↔ ((opened j ≡ true) ⊎ IsOpenedBy ship set p j)
opens_none ship set opened p place is none j = (
  λ h. inl h,
  λ x. ⊎_elim (λ (h : opened j ≡ true). h)
      (λ (by : IsOpenedBy ship set p j). absurd (none j (subst (λ (z : Place). LiesUnder ship z.stack j) (same_Some by.place place (sym by.is_place ∙ is)) by.under))) x,
)

-- the cover under a place opens
pub one_under : (ship : Ship) (opened : List Bool) (p k : ℕ) (place : Place) (b : Bool) → slice_get (places ship) p ≡ Some place → StandsOn ship place.stack k
    → ((j : ℕ) → StandsOn ship place.stack j → Some k ≡ Some j) → slice_get opened k ≡ Some b
    → IsTrue b ↔ OpensUnder ship (has opened) p
one_under ship opened p k place b is on one read = (
  λ h. record { place = place; is_place = is; cover = k; on = on; opens = get_or_from_slice_get opened k b false read ∙ h },
  λ x.
      let same : x.place ≡ place = same_Some x.place place (sym x.is_place ∙ is) in
      let e : k ≡ x.cover = same_Some k x.cover (one x.cover (subst (λ (z : Place). StandsOn ship z.stack x.cover) same x.on)) in
      sym (get_or_from_slice_get opened k b false read) ∙ (ap (has opened) e ∙ x.opens),
)

pub none_under : (ship : Ship) (opened : ℕ → Bool) (p : ℕ) (place : Place) → slice_get (places ship) p ≡ Some place → ((j : ℕ) → StandsOn ship place.stack j → ⊥) → OpensUnder ship opened p → ⊥
none_under ship opened p place is none x = none x.cover (subst (λ (z : Place). StandsOn ship z.stack x.cover) (same_Some x.place place (sym x.is_place ∙ is)) x.on)

-- upward, then onto the covers: the whole spread
pub spreads : (ship : Ship) (plan : Plan) (seeds raised opened set : ℕ → Bool) → IsDivided ship → IsLeastUpward ship plan seeds raised
    → ((k : ℕ) → (opened k ≡ true) ↔ IsOpened ship raised k)
    → ((p : ℕ) → (set p ≡ true) ↔ ((raised p ≡ true) ⊎ IsOnOpened ship plan opened p))
    → IsLeastSpread ship plan seeds set
spreads ship plan seeds raised opened set divided up opens adds = record {
  spread = record {
    seeded = λ p h. (adds p).1 (inl (up.seeded p h));
    over = λ p q c held over h. ⊎_elim
        (λ (x : raised q ≡ true). (adds p).1 (inl (up.over p q c held over x)))
        (λ (x : IsOnOpened ship plan opened q).
        let below : x.under.place ≡ over.lower = same_Some x.under.place over.lower (sym x.under.is_place ∙ over.is_lower) in
        (adds p).1 (inr (record { container = c; holds = held; under = record { place = over.upper; is_place = over.is_upper; cover = x.under.cover; on = subst (λ (s : ℕ). StandsOn ship s x.under.cover) (ap (λ (z : Place). z.stack) below ∙ sym over.same_stack) x.under.on; opens = x.under.opens } })))
        ((adds q).0 h);
    on_cover = λ p q c held on h. ⊎_elim
        (λ (x : raised q ≡ true). (adds p).1 (inr (record { container = c; holds = held; under = record { place = on.upper; is_place = on.is_upper; cover = on.cover; on = on.on; opens = (opens on.cover).1 (q, record { place = on.lower; is_place = on.is_lower; under = on.under; in_set = x }) } })))
        (λ (x : IsOnOpened ship plan opened q).
        let below : x.under.place ≡ on.lower = same_Some x.under.place on.lower (sym x.under.is_place ∙ on.is_lower) in
        absurd (divided on.lower.stack on.cover x.under.cover on.under (subst (λ (s : ℕ). StandsOn ship s x.under.cover) (ap (λ (z : Place). z.stack) below) x.under.on)))
        ((adds q).0 h);
  };
  least = λ other spread p h. ⊎_elim
      (λ (x : raised p ≡ true). up.least other spread.seeded spread.over p x)
      (λ (x : IsOnOpened ship plan opened p).
      let by = (opens x.under.cover).0 x.under.opens in
      spread.on_cover p by.0 x.container x.holds (record { upper = x.under.place; is_upper = x.under.is_place; lower = by.1.place; is_lower = by.1.is_place; cover = x.under.cover; on = x.under.on; under = by.1.under }) (up.least other spread.seeded spread.over by.0 by.1.in_set))
      ((adds p).0 h);
}

-- what spreads from filled places is filled
pub spread_filled : (ship : Ship) (plan : Plan) (seeds set : ℕ → Bool) → IsLeastSpread ship plan seeds set → IsFilled plan seeds → IsFilled plan set
spread_filled ship plan seeds set least filled p h = held_by (slice_get plan p) (and_parts (set p) (is_held (slice_get plan p)) (least.least (λ q. set q && is_held (slice_get plan q)) (record {
  seeded = λ q x. and_from (set q) (is_held (slice_get plan q)) (least.spread.seeded q x) (ap is_held (filled q x).1);
  over = λ q r c held over x. and_from (set q) (is_held (slice_get plan q)) (least.spread.over q r c held over (and_parts (set r) (is_held (slice_get plan r)) x).0) (ap is_held held);
  on_cover = λ q r c held on x. and_from (set q) (is_held (slice_get plan q)) (least.spread.on_cover q r c held on (and_parts (set r) (is_held (slice_get plan r)) x).0) (ap is_held held);
}) p h)).1
