-- A bay, row and tier number is that of one place alone (ISO 9711).
use Rattle.std.proofs.Common.{◌≡◌, ℕ, ◌+◌, ◌-◌, ◌*◌, ◌%◌, ◌<◌, ◌≤◌, Bool, true, false, [], ◌∷◌, Some, refl, sym, ◌∙◌, ap, subst, arith, ◌⊎◌, inl, inr, ⊎_elim}
use Rattle.std.specs.Prelude.{slice_get, slice_index_or, Contains}
use Rattle.std.specs.List.{range_with_len, enumerate_from}
use Rattle.std.proofs.lemmas.Bool.{cases_eq, cases_lt}
use Rattle.std.proofs.lemmas.Option.{same_Some, get_or_from_slice_get, slice_get_within}
use Rattle.stow_data.specs.declared.geometry.Stack.{Stack}
use Rattle.stow_data.specs.declared.geometry.Place.{Place}
use Rattle.stow_data.specs.declared.geometry.Span.{Span}
use Rattle.stow_data.specs.declared.geometry.Span.TheVariants.{Fore, Aft, Both}
use Rattle.stow_data.specs.declared.geometry.Lengths.{Lengths}
use Rattle.stow_data.specs.declared.geometry.Lengths.TheVariants.{Forty, Twenty, Mixed, ForeOnly, AftOnly}
use Rattle.stow_data.specs.Ship.{Ship, places, spans, sides, stack_places, tier_places, bay_of, HasNumber}
use Rattle.stow_data.specs.Profile.{IsShip, IsStack, IsInHold, IsOnDeck, HasOddBay, SharesCell}
use Rattle.stow_data.proofs.Members.{Member, flat_at, map_at}
use Rattle.stow_data.proofs.Listed.{place_from}
use Rattle.plan_files.proofs.Pairs.{InPairs, pairs_imply, pairs_flat, pairs_map, pairs_range, pairs_numbered, pair_at, all_pairs_at}

-- the same stack, tier and span
record IsLike (p q : Place) : Type 0 where
  stack : p.stack ≡ q.stack
  tier : p.tier ≡ q.tier
  span : p.span ≡ q.span

abbrev Differs : Place → Place → Type 0
Differs p q = IsLike p q → ⊥

not_the : {X : Type 0} (a b : X) → (a ≡ b → ⊥) → (y : X) → (y ≡ b) ⊎ ⊥ → a ≡ y → ⊥
not_the a b ne y (inl e) same = ne (same ∙ e)
not_the a b ne y (inr n) same = n

spans_differ : (l : Lengths) → InPairs (λ a b. a ≡ b → ⊥) (spans l)
spans_differ Forty = (λ y m. absurd m, tt)
spans_differ ForeOnly = (λ y m. absurd m, tt)
spans_differ AftOnly = (λ y m. absurd m, tt)
spans_differ Twenty = (not_the Fore Aft (λ (e : Fore ≡ Aft). cc), (λ y m. absurd m, tt))
spans_differ Mixed = (
  λ y m same. ⊎_elim (λ (e : y ≡ Aft). absurd cc) (λ (k : (y ≡ Both) ⊎ ⊥). not_the Fore Both (λ (e : Fore ≡ Both). cc) y k same) m,
  (not_the Aft Both (λ (e : Aft ≡ Both). cc), (λ y m. absurd m, tt)),
)

tier_differs : (n : ℕ) (s : Stack) (t : ℕ) → InPairs Differs (tier_places n s t)
tier_differs n s t = pairs_map Differs (λ (span : Span). record { stack = n; tier = t; span = span; plug = slice_index_or s.plugs t false }) (spans s.lengths)
    (pairs_imply (λ a b. a ≡ b → ⊥) _ (spans s.lengths) (λ a b ne like. ne like.span) (spans_differ s.lengths))

in_tier : (n : ℕ) (s : Stack) (t : ℕ) (p : Place) → Member p (tier_places n s t) → (p.stack ≡ n) × (p.tier ≡ t)
in_tier n s t p m = let r = map_at _ (spans s.lengths) p m in (ap (λ (z : Place). z.stack) r.2, ap (λ (z : Place). z.tier) r.2)

stack_differs : (s : ℕ × Stack) → InPairs Differs (stack_places s)
stack_differs s = pairs_flat Differs (tier_places s.0 s.1) (range_with_len 0 s.1.tiers) (tier_differs s.0 s.1)
    (pairs_range _ 0 s.1.tiers (λ i j l x y a b like. let k = in_tier s.0 s.1 i x a in let m = in_tier s.0 s.1 j y b in let e = like.tier in absurd (omega (arith, k.1, m.1))))

in_stack : (s : ℕ × Stack) (p : Place) → Member p (stack_places s) → p.stack ≡ s.0
in_stack s p m = let r = flat_at (tier_places s.0 s.1) (range_with_len 0 s.1.tiers) p m in (in_tier s.0 s.1 r.0 p r.2).0

places_differ : (ship : Ship) → InPairs Differs (places ship)
unfolding places
places_differ ship = pairs_flat Differs stack_places (enumerate_from 0 ship.stacks) stack_differs
    (pairs_numbered _ 0 ship.stacks (λ s t l x y a b like. let k = in_stack s x a in let m = in_stack t y b in let e = like.stack in absurd (omega arith)))

-- two places of one stack, tier and span are one
pub place_once : (ship : Ship) (p q : ℕ) (a b : Place) → slice_get (places ship) p ≡ Some a → slice_get (places ship) q ≡ Some b → a.stack ≡ b.stack → a.tier ≡ b.tier → a.span ≡ b.span → p ≡ q
place_once ship p q a b h k stack tier span = ⊎_elim (λ (e : p ≡ q). e)
    (λ (ne : p ≡ q → ⊥). ⊎_elim
    (λ (l : p < q). absurd (pair_at Differs (places ship) p q a b (places_differ ship) h k l (record { stack = stack; tier = tier; span = span })))
    (λ (l : q ≤ p). absurd (pair_at Differs (places ship) q p b a (places_differ ship) k h (omega arith) (record { stack = sym stack; tier = sym tier; span = sym span })))
    (cases_lt p q))
    (cases_eq p q)

-- in one stack the bay number tells the span
same_span : (bay : ℕ) (a b : Span) → 2 ≤ bay → bay_of bay a ≡ bay_of bay b → a ≡ b
same_span bay Fore Fore l e = refl
same_span bay Fore Aft l e = absurd (omega arith)
same_span bay Fore Both l e = absurd (omega arith)
same_span bay Aft Fore l e = absurd (omega arith)
same_span bay Aft Aft l e = refl
same_span bay Aft Both l e = absurd (omega arith)
same_span bay Both Fore l e = absurd (omega arith)
same_span bay Both Aft l e = absurd (omega arith)
same_span bay Both Both l e = refl

-- an odd bay of the span
abbrev odd_of : ℕ → Span → ℕ
odd_of bay Fore = bay - 1
odd_of bay Aft = bay + 1
odd_of bay Both = bay + 1

same_odd : (x y : ℕ) (a b : Span) → x % 2 ≡ 0 → y % 2 ≡ 0 → 2 ≤ x → 2 ≤ y → bay_of x a ≡ bay_of y b → odd_of x a ≡ odd_of y b
same_odd x y Fore Fore u v l m e = e
same_odd x y Fore Aft u v l m e = e
same_odd x y Fore Both u v l m e = absurd (omega arith)
same_odd x y Aft Fore u v l m e = e
same_odd x y Aft Aft u v l m e = e
same_odd x y Aft Both u v l m e = absurd (omega arith)
same_odd x y Both Fore u v l m e = absurd (omega arith)
same_odd x y Both Aft u v l m e = absurd (omega arith)
same_odd x y Both Both u v l m e = ap (λ (z : ℕ). z + 1) e

-- a side of the span
abbrev side_of : Span → Bool
side_of Fore = false
side_of Aft = true
side_of Both = true

both_sides : (a : Span) → Contains (false ∷ true ∷ []) (side_of a)
both_sides Fore = (0, omega arith, refl)
both_sides Aft = (1, omega arith, refl)
both_sides Both = (1, omega arith, refl)

has_side : (l : Lengths) (a : Span) → Member a (spans l) → Contains (sides l) (side_of a)
has_side Forty a m = both_sides a
has_side Twenty a m = both_sides a
has_side Mixed a m = both_sides a
has_side ForeOnly Fore m = (0, omega arith, refl)
has_side ForeOnly Aft m = ⊎_elim (λ (e : Aft ≡ Fore). absurd cc) (λ k. absurd k) m
has_side ForeOnly Both m = ⊎_elim (λ (e : Both ≡ Fore). absurd cc) (λ k. absurd k) m
has_side AftOnly Fore m = ⊎_elim (λ (e : Fore ≡ Aft). absurd cc) (λ k. absurd k) m
has_side AftOnly Aft m = (0, omega arith, refl)
has_side AftOnly Both m = ⊎_elim (λ (e : Both ≡ Aft). absurd cc) (λ k. absurd k) m

has_odd : (s : Stack) (a : Span) → 2 ≤ s.bay → Contains (sides s.lengths) (side_of a) → HasOddBay s (odd_of s.bay a)
has_odd s Fore l c = inl (omega arith, c)
has_odd s Aft l c = inr (refl, c)
has_odd s Both l c = inr (refl, c)

-- tiers of one number are in one part of the ship
same_part : (s t : Stack) (i j : ℕ) → i < s.tiers → j < t.tiers → s.lowest + 2 * i ≡ t.lowest + 2 * j → IsInHold s ⊎ IsOnDeck s → IsInHold t ⊎ IsOnDeck t → (IsInHold s × IsInHold t) ⊎ (IsOnDeck s × IsOnDeck t)
same_part s t i j l m e (inl h) (inl k) = inl (h, k)
same_part s t i j l m e (inr h) (inr k) = inr (h, k)
same_part s t i j l m e (inl h) (inr k) = absurd (omega (arith, h.1, k.0))
same_part s t i j l m e (inr h) (inl k) = absurd (omega (arith, h.0, k.1))

-- a place with its stack and number
record IsNumbered (ship : Ship) (p : ℕ) (number : ℕ × ℕ × ℕ) : Type 0 where
  place : Place
  is_place : slice_get (places ship) p ≡ Some place
  stack : Stack
  is_stack : slice_get ship.stacks place.stack ≡ Some stack
  low : place.tier < stack.tiers
  span : Member place.span (spans stack.lengths)
  rules : IsStack stack
  bay : bay_of stack.bay place.span ≡ number.0
  row : stack.row ≡ number.1
  tier : stack.lowest + 2 * place.tier ≡ number.2

stack_rules : (ship : Ship) (k : ℕ) (stack : Stack) → IsShip ship → slice_get ship.stacks k ≡ Some stack → IsStack stack
stack_rules ship k stack rules h = subst IsStack (get_or_from_slice_get ship.stacks k stack stack h) (rules.each_stack k stack (slice_get_within ship.stacks k stack h))

numbered_at : (ship : Ship) (p : ℕ) (number : ℕ × ℕ × ℕ) → IsShip ship → HasNumber ship p number → IsNumbered ship p number
numbered_at ship p number rules h =
    let from = place_from ship p h.place h.is_place in
    let same : from.stack_at ≡ h.stack = same_Some _ _ (sym from.is_stack ∙ h.is_stack) in
    record {
      place = h.place;
      is_place = h.is_place;
      stack = h.stack;
      is_stack = h.is_stack;
      low = subst (λ (s : Stack). h.place.tier < s.tiers) same from.low;
      span = subst (λ (s : Stack). Member h.place.span (spans s.lengths)) same from.span;
      rules = stack_rules ship h.place.stack h.stack rules h.is_stack;
      bay = ap (λ (z : ℕ × ℕ × ℕ). z.0) h.is_number;
      row = ap (λ (z : ℕ × ℕ × ℕ). z.1) h.is_number;
      tier = ap (λ (z : ℕ × ℕ × ℕ). z.2) h.is_number;
    }

shares : (ship : Ship) (p q : ℕ) (number : ℕ × ℕ × ℕ) (x : IsNumbered ship p number) (y : IsNumbered ship q number) → SharesCell x.stack y.stack
shares ship p q number x y =
    let e : odd_of x.stack.bay x.place.span ≡ odd_of y.stack.bay y.place.span = same_odd _ _ x.place.span y.place.span x.rules.bay_even y.rules.bay_even x.rules.bay_from y.rules.bay_from (x.bay ∙ sym y.bay) in
    record {
      odd = odd_of x.stack.bay x.place.span;
      in_first = has_odd x.stack x.place.span x.rules.bay_from (has_side x.stack.lengths x.place.span x.span);
      in_second = subst (HasOddBay y.stack) (sym e) (has_odd y.stack y.place.span y.rules.bay_from (has_side y.stack.lengths y.place.span y.span));
      same_row = x.row ∙ sym y.row;
      same_part = same_part x.stack y.stack x.place.tier y.place.tier x.low y.low (x.tier ∙ sym y.tier) x.rules.part y.rules.part;
    }

abbrev Apart : Stack → Stack → Type 0
Apart s t = SharesCell s t → ⊥

-- a number is that of one place alone
pub number_once : (ship : Ship) (p q : ℕ) (number : ℕ × ℕ × ℕ) → IsShip ship → HasNumber ship p number → HasNumber ship q number → p ≡ q
number_once ship p q number rules h k =
    let x = numbered_at ship p number rules h in
    let y = numbered_at ship q number rules k in
    ⊎_elim
    (λ (e : x.place.stack ≡ y.place.stack).
    let same : x.stack ≡ y.stack = same_Some _ _ (sym x.is_stack ∙ ap (slice_get ship.stacks) e ∙ y.is_stack) in
    let bay : x.stack.bay ≡ y.stack.bay = ap (λ (z : Stack). z.bay) same in
    let lowest : x.stack.lowest ≡ y.stack.lowest = ap (λ (z : Stack). z.lowest) same in
    let tier : x.place.tier ≡ y.place.tier = omega (arith, x.tier, y.tier) in
    place_once ship p q x.place y.place x.is_place y.is_place e tier
    (same_span x.stack.bay x.place.span y.place.span x.rules.bay_from (x.bay ∙ sym y.bay ∙ ap (λ (z : ℕ). bay_of z y.place.span) (sym bay))))
    (λ (ne : x.place.stack ≡ y.place.stack → ⊥). ⊎_elim
    (λ (l : x.place.stack < y.place.stack). absurd (all_pairs_at Apart ship.stacks x.place.stack y.place.stack x.stack y.stack rules.apart x.is_stack y.is_stack l (shares ship p q number x y)))
    (λ (l : y.place.stack ≤ x.place.stack). absurd (all_pairs_at Apart ship.stacks y.place.stack x.place.stack y.stack x.stack rules.apart y.is_stack x.is_stack (omega arith) (shares ship q p number y x)))
    (cases_lt x.place.stack y.place.stack))
    (cases_eq x.place.stack y.place.stack)
