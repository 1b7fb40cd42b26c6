-- The number of a place leads back to it.
use Rattle.std.proofs.Common.{◌≡◌, ◌≢◌, ℕ, zero, suc, ◌<◌, ◌≤◌, ◌+◌, ◌-◌, ◌*◌, Bool, true, false, List, [], ◌∷◌, ◌++◌, arith, refl, sym, ◌∙◌, ap, ◌⊎◌, inl, inr, ⊎_elim, subst, length, Some, None}
use Rattle.std.specs.Prelude.{slice_get, slice_index_or, MatchOption, Option, Contains, AllPairs}
use Rattle.std.specs.BTreeMap.{BTreeMap, get, is_at}
use Rattle.std.specs.declared.cmp.Ordering.{Ordering}
use Rattle.std.specs.declared.cmp.Ordering.TheVariants.{Less, Equal, Greater}
use Rattle.std.specs.Ordering.{nat_cmp, ordering_then, is_eq}
use Rattle.std.proofs.lemmas.Map.Lookups.{exact_unsigned, exact_pairs}
use Rattle.std.proofs.lemmas.Bool.{cases_order, cases_eq, false_from_ne_true}
use Rattle.std.proofs.lemmas.Option.{none-some, same_Some, slice_get_within, get_or_from_slice_get}
use Rattle.stow_data.specs.declared.geometry.Stack.{Stack}
use Rattle.stow_data.specs.declared.geometry.Span.{Span}
use Rattle.stow_data.specs.declared.geometry.Span.TheVariants.{Fore, Aft, Both}
use Rattle.stow_data.specs.declared.geometry.Lengths.{Lengths}
use Rattle.stow_data.specs.declared.geometry.Lengths.TheVariants.{Forty, Twenty, Mixed, ForeOnly, AftOnly}
use Rattle.stow_data.specs.declared.geometry.Place.{Place}
use Rattle.stow_data.specs.declared.cells.CellNumber.{CellNumber}
use Rattle.stow_data.specs.Ship.{Ship, places, spans, sides, TakesSide, bay_of, HasNumber}
use Rattle.stow_data.specs.Profile.{IsShip, IsStack, IsInHold, IsOnDeck, HasOddBay, SharesCell}
use Rattle.stow_data.specs.CellTable.{cell_order, cell_number, HasCell, EachBounded, IsCellTable}
use Rattle.stow_data.proofs.Members.{Member, index_of}
use Rattle.stow_data.proofs.Listed.{place_from}
use Rattle.stow_data.proofs.Made.{place_bounded}
use Rattle.stow_data.proofs.InOrder.{place_once, split_get, get_left, get_right}

-- a stack obeys the rules of a profile
pub stack_rules : (ship : Ship) (k : ℕ) (s : Stack) → IsShip ship → slice_get ship.stacks k ≡ Some s → IsStack s
stack_rules ship k s rules is = subst IsStack (get_or_from_slice_get ship.stacks k s s is) (rules.each_stack k s (slice_get_within ship.stacks k s is))

pub member_contains : {X : Type 0} (xs : List X) (x : X) → Member x xs → Contains xs x
member_contains xs x m = let r = index_of xs x m in (r.0, slice_get_within xs r.0 x r.1, get_or_from_slice_get xs r.0 x x r.1)

two_sides : (side : Bool) → Member side (false ∷ true ∷ [])
two_sides false = inl refl
two_sides true = inr (inl refl)

-- a stack has the half-cells of its places
pub has_side : (l : Lengths) (a : Span) (side : Bool) → Member a (spans l) → TakesSide a side → Member side (sides l)
has_side Forty a side m t = two_sides side
has_side Twenty a side m t = two_sides side
has_side Mixed a side m t = two_sides side
has_side ForeOnly a side (inl e) t = inl (subst (λ (z : Span). TakesSide z side) e t)
has_side ForeOnly a side (inr h) t = absurd h
has_side AftOnly a side (inl e) t = inl (subst (λ (z : Span). TakesSide z side) e t)
has_side AftOnly a side (inr h) t = absurd h

fore_of : (s : Stack) (a : Span) → Member a (spans s.lengths) → TakesSide a false → Contains (sides s.lengths) false
fore_of s a m t = member_contains _ false (has_side s.lengths a false m t)

aft_of : (s : Stack) (a : Span) → Member a (spans s.lengths) → TakesSide a true → Contains (sides s.lengths) true
aft_of s a m t = member_contains _ true (has_side s.lengths a true m t)

-- places of one bay number have an odd bay in common
common_bay : (s t : Stack) (a b : Span) → IsStack s → IsStack t → Member a (spans s.lengths) → Member b (spans t.lengths) → bay_of s.bay a ≡ bay_of t.bay b → (odd : ℕ) × HasOddBay s odd × HasOddBay t odd
common_bay s t Fore Fore p q m n e = (s.bay - 1, inl (omega (arith, p.bay_from), fore_of s Fore m refl), inl (omega (arith, p.bay_from, q.bay_from), fore_of t Fore n refl))
common_bay s t Fore Aft p q m n e = (s.bay - 1, inl (omega (arith, p.bay_from), fore_of s Fore m refl), inr (e, aft_of t Aft n refl))
common_bay s t Fore Both p q m n e = absurd (omega (arith, p.bay_from, p.bay_even, q.bay_even))
common_bay s t Aft Fore p q m n e = (s.bay + 1, inr (refl, aft_of s Aft m refl), inl (omega (arith, q.bay_from), fore_of t Fore n refl))
common_bay s t Aft Aft p q m n e = (s.bay + 1, inr (refl, aft_of s Aft m refl), inr (e, aft_of t Aft n refl))
common_bay s t Aft Both p q m n e = absurd (omega (arith, p.bay_even, q.bay_even))
common_bay s t Both Fore p q m n e = absurd (omega (arith, q.bay_from, p.bay_even, q.bay_even))
common_bay s t Both Aft p q m n e = absurd (omega (arith, p.bay_even, q.bay_even))
common_bay s t Both Both p q m n e = (s.bay - 1, inl (omega (arith, p.bay_from), fore_of s Both m tt), inl (omega (arith, p.bay_from), fore_of t Both n tt))

-- tiers of one number are in one part of the ship
common_part : (s t : Stack) (a b : ℕ) → IsInHold s ⊎ IsOnDeck s → IsInHold t ⊎ IsOnDeck t → a < s.tiers → b < t.tiers → s.lowest + 2 * a ≡ t.lowest + 2 * b → (IsInHold s × IsInHold t) ⊎ (IsOnDeck s × IsOnDeck t)
common_part s t a b (inl h) (inl k) l m e = inl (h, k)
common_part s t a b (inl h) (inr k) l m e = absurd (omega (arith, h.1, k.0))
common_part s t a b (inr h) (inl k) l m e = absurd (omega (arith, h.0, k.1))
common_part s t a b (inr h) (inr k) l m e = inr (h, k)

shares_turned : (s t : Stack) → SharesCell s t → SharesCell t s
shares_turned s t h = record {
  odd = h.odd;
  in_first = h.in_second;
  in_second = h.in_first;
  same_row = sym h.same_row;
  same_part = ⊎_elim (λ (p : IsInHold s × IsInHold t). inl (p.1, p.0)) (λ (p : IsOnDeck s × IsOnDeck t). inr (p.1, p.0)) h.same_part;
}

apart_at : (xs : List Stack) (i j : ℕ) (x y : Stack) → AllPairs (λ s t. SharesCell s t → ⊥) xs → i < j → slice_get xs i ≡ Some x → slice_get xs j ≡ Some y → SharesCell x y → ⊥
apart_at xs i j x y all l a b shares = all i j x l (slice_get_within xs j y b) (subst (λ (z : Stack). SharesCell z (slice_index_or xs j x)) (sym (get_or_from_slice_get xs i x x a)) (subst (λ (z : Stack). SharesCell x z) (sym (get_or_from_slice_get xs j y x b)) shares))

-- stacks that share a cell are one
pub one_stack : (ship : Ship) (i j : ℕ) (s t : Stack) → IsShip ship → slice_get ship.stacks i ≡ Some s → slice_get ship.stacks j ≡ Some t → SharesCell s t → i ≡ j
one_stack ship i j s t rules a b shares = ⊎_elim
    (λ (e : i ≡ j). e)
    (λ (o : (i < j) ⊎ (j < i)). ⊎_elim (λ (l : i < j). absurd (apart_at ship.stacks i j s t rules.apart l a b shares)) (λ (l : j < i). absurd (apart_at ship.stacks j i t s rules.apart l b a (shares_turned s t shares))) o)
    (cases_order i j)

one_span : (bay : ℕ) (a b : Span) → 2 ≤ bay → bay_of bay a ≡ bay_of bay b → a ≡ b
one_span bay Fore Fore l e = refl
one_span bay Fore Aft l e = absurd (omega arith)
one_span bay Fore Both l e = absurd (omega arith)
one_span bay Aft Fore l e = absurd (omega arith)
one_span bay Aft Aft l e = refl
one_span bay Aft Both l e = absurd (omega arith)
one_span bay Both Fore l e = absurd (omega arith)
one_span bay Both Aft l e = absurd (omega arith)
one_span bay Both Both l e = refl

same_place : (p q : Place) → p.stack ≡ q.stack → p.tier ≡ q.tier → p.span ≡ q.span → p.plug ≡ q.plug → p ≡ q
same_place p q a b c d =
    ap (λ (x : ℕ). record { stack = x; tier = p.tier; span = p.span; plug = p.plug }) a
    ∙ ap (λ (x : ℕ). record { stack = q.stack; tier = x; span = p.span; plug = p.plug }) b
    ∙ ap (λ (x : Span). record { stack = q.stack; tier = q.tier; span = x; plug = p.plug }) c
    ∙ ap (λ (x : Bool). record { stack = q.stack; tier = q.tier; span = q.span; plug = x }) d

-- a number is that of one place
pub one_cell : (ship : Ship) (p q : ℕ) (n : CellNumber) → IsShip ship → HasCell ship.stacks (places ship) p n → HasCell ship.stacks (places ship) q n → p ≡ q
one_cell ship p q n rules a b =
    let u = place_from ship p a.place a.is_place in
    let v = place_from ship q b.place b.is_place in
    let s_is : u.stack_at ≡ a.stack = same_Some _ _ (sym u.is_stack ∙ a.is_stack) in
    let t_is : v.stack_at ≡ b.stack = same_Some _ _ (sym v.is_stack ∙ b.is_stack) in
    let s_rules : IsStack a.stack = stack_rules ship a.place.stack a.stack rules a.is_stack in
    let t_rules : IsStack b.stack = stack_rules ship b.place.stack b.stack rules b.is_stack in
    let s_low : a.place.tier < a.stack.tiers = subst (λ (z : Stack). a.place.tier < z.tiers) s_is u.low in
    let t_low : b.place.tier < b.stack.tiers = subst (λ (z : Stack). b.place.tier < z.tiers) t_is v.low in
    let s_span : Member a.place.span (spans a.stack.lengths) = subst (λ (z : Stack). Member a.place.span (spans z.lengths)) s_is u.span in
    let t_span : Member b.place.span (spans b.stack.lengths) = subst (λ (z : Stack). Member b.place.span (spans z.lengths)) t_is v.span in
    let same : cell_number a.stack a.place ≡ cell_number b.stack b.place = a.is_number ∙ sym b.is_number in
    let bays : bay_of a.stack.bay a.place.span ≡ bay_of b.stack.bay b.place.span = ap (λ (z : CellNumber). z.bay) same in
    let tiers : a.stack.lowest + 2 * a.place.tier ≡ b.stack.lowest + 2 * b.place.tier = ap (λ (z : CellNumber). z.tier) same in
    let common = common_bay a.stack b.stack a.place.span b.place.span s_rules t_rules s_span t_span bays in
    let shares : SharesCell a.stack b.stack = record {
      odd = common.0;
      in_first = common.1;
      in_second = common.2;
      same_row = ap (λ (z : CellNumber). z.row) same;
      same_part = common_part a.stack b.stack a.place.tier b.place.tier s_rules.part t_rules.part s_low t_low tiers;
    } in
    let stacks : a.place.stack ≡ b.place.stack = one_stack ship a.place.stack b.place.stack a.stack b.stack rules a.is_stack b.is_stack shares in
    let one : a.stack ≡ b.stack = same_Some _ _ (sym a.is_stack ∙ (ap (slice_get ship.stacks) stacks ∙ b.is_stack)) in
    let low : a.stack.lowest ≡ b.stack.lowest = ap (λ (z : Stack). z.lowest) one in
    let level : a.place.tier ≡ b.place.tier = omega (arith, low, tiers) in
    let span : a.place.span ≡ b.place.span = one_span b.stack.bay a.place.span b.place.span t_rules.bay_from (ap (λ (z : Stack). bay_of z.bay a.place.span) (sym one) ∙ bays) in
    let plug : a.place.plug ≡ b.place.plug =
    u.plug ∙ (ap (λ (z : Stack). slice_index_or z.plugs a.place.tier false) (s_is ∙ (one ∙ sym t_is)) ∙ (ap (λ (z : ℕ). slice_index_or v.stack_at.plugs z false) level ∙ sym v.plug)) in
    let places_same : a.place ≡ b.place = same_place a.place b.place stacks level span plug in
    place_once ship p q b.place (a.is_place ∙ ap (λ (z : Place). Some z) places_same) b.is_place

-- the two ways to say that a place has a number
pub number_from_cell : (ship : Ship) (p : ℕ) (n : CellNumber) → HasCell ship.stacks (places ship) p n → HasNumber ship p (n.bay, n.row, n.tier)
number_from_cell ship p n h = record { place = h.place; is_place = h.is_place; stack = h.stack; is_stack = h.is_stack; is_number = ap (λ (z : CellNumber). (z.bay, z.row, z.tier)) h.is_number }

pub cell_from_number : (ship : Ship) (p bay row tier : ℕ) → HasNumber ship p (bay, row, tier) → HasCell ship.stacks (places ship) p (record { bay = bay; row = row; tier = tier })
cell_from_number ship p bay row tier h = record { place = h.place; is_place = h.is_place; stack = h.stack; is_stack = h.is_stack; is_number = ap (λ (z : ℕ × ℕ × ℕ). record { bay = z.0; row = z.1; tier = z.2 }) h.is_number }

-- the places of a ship stand on stacks that bound their numbers
pub each_bounded : (ship : Ship) → IsShip ship → EachBounded ship.stacks (places ship)
each_bounded ship rules p place is = let from = place_from ship p place is in (from.stack_at, from.is_stack, place_bounded ship p place from.stack_at rules is from.is_stack)

-- the table of one place more
cell_more : (stacks : List Stack) (ps : List Place) (place : Place) (p : ℕ) (n : CellNumber) → HasCell stacks ps p n → HasCell stacks (ps ++ place ∷ []) p n
cell_more stacks ps place p n h = record { place = h.place; is_place = get_left ps (place ∷ []) p h.place h.is_place; stack = h.stack; is_stack = h.is_stack; is_number = h.is_number }

-- numbers that the order does not tell apart are one
is_equal : (o : Ordering) → is_eq o ≡ true → o ≡ Equal
is_equal Less h = absurd (cc)
is_equal Equal h = refl
is_equal Greater h = absurd (cc)

same_cell : (a b : CellNumber) → cell_order a b ≡ Equal → a ≡ b
same_cell a b h = ap (λ (z : ℕ × (ℕ × ℕ)). record { bay = z.0; row = z.1.0; tier = z.1.1 })
    (exact_pairs nat_cmp (λ (x y : ℕ × ℕ). ordering_then (nat_cmp x.0 y.0) (nat_cmp x.1 y.1)) exact_unsigned (exact_pairs nat_cmp nat_cmp exact_unsigned exact_unsigned) (a.bay, (a.row, a.tier)) (b.bay, (b.row, b.tier)) h)

pub elsewhere : (a b : CellNumber) → b ≢ a → is_at (cell_order a) b ≡ false
elsewhere a b ne = false_from_ne_true (is_eq (cell_order a b)) (λ h. ne (sym (same_cell a b (is_equal (cell_order a b) h))))

cell_cases : (a b : CellNumber) → (a ≡ b) ⊎ (a ≡ b → ⊥)
cell_cases a b = ⊎_elim
    (λ (e : a.bay ≡ b.bay). ⊎_elim
    (λ (f : a.row ≡ b.row). ⊎_elim
    (λ (g : a.tier ≡ b.tier). inl (ap (λ (x : ℕ). record { bay = x; row = a.row; tier = a.tier }) e ∙ ap (λ (x : ℕ). record { bay = b.bay; row = x; tier = a.tier }) f ∙ ap (λ (x : ℕ). record { bay = b.bay; row = b.row; tier = x }) g))
    (λ (ne : a.tier ≡ b.tier → ⊥). inr (λ h. ne (ap (λ (z : CellNumber). z.tier) h)))
    (cases_eq a.tier b.tier))
    (λ (ne : a.row ≡ b.row → ⊥). inr (λ h. ne (ap (λ (z : CellNumber). z.row) h)))
    (cases_eq a.row b.row))
    (λ (ne : a.bay ≡ b.bay → ⊥). inr (λ h. ne (ap (λ (z : CellNumber). z.bay) h)))
    (cases_eq a.bay b.bay)

pub cells_more : (stacks : List Stack) (ps : List Place) (place : Place) (stack : Stack) (number : ℕ) (table new : BTreeMap CellNumber ℕ) → number ≡ length ps → slice_get stacks place.stack ≡ Some stack → IsCellTable stacks ps table
    → get cell_order new (cell_number stack place) ≡ Some number → ((n : CellNumber) → n ≢ cell_number stack place → get cell_order new n ≡ get cell_order table n) → IsCellTable stacks (ps ++ place ∷ []) new
cells_more stacks ps place stack number table new is is_stack old this others = record {
  leads = λ n. ⊎_elim
      (λ (e : n ≡ cell_number stack place). subst (λ (o : Option ℕ). MatchOption o ((p : ℕ) → HasCell stacks (ps ++ place ∷ []) p n → ⊥) (λ p. HasCell stacks (ps ++ place ∷ []) p n)) (sym (ap (get cell_order new) e ∙ this))
      (record { place = place; is_place = subst (λ (z : ℕ). slice_get (ps ++ place ∷ []) z ≡ Some place) (sym is) (get_right ps (place ∷ []) 0 (length ps) (omega arith)); stack = stack; is_stack = is_stack; is_number = sym e }))
      (λ (ne : n ≡ cell_number stack place → ⊥). subst (λ (o : Option ℕ). MatchOption o ((p : ℕ) → HasCell stacks (ps ++ place ∷ []) p n → ⊥) (λ p. HasCell stacks (ps ++ place ∷ []) p n)) (sym (others n ne)) (carried n ne (get cell_order table n) (old.leads n)))
      (cell_cases n (cell_number stack place));
}
  where
    last : (n : CellNumber) (j : ℕ) (p : Place) (s : Stack) → slice_get (place ∷ []) j ≡ Some p → slice_get stacks p.stack ≡ Some s → cell_number s p ≡ n → n ≡ cell_number stack place
    last n zero p s e f g =
        let one : place ≡ p = same_Some place p e in
        let two : s ≡ stack = same_Some s stack (sym f ∙ (ap (λ (z : Place). slice_get stacks z.stack) (sym one) ∙ is_stack)) in
        sym g ∙ (ap (λ (z : Stack). cell_number z p) two ∙ ap (cell_number stack) (sym one))
    last n (suc j) p s e f g = absurd (none-some p e)

    carried : (n : CellNumber) → (n ≡ cell_number stack place → ⊥) → (o : Option ℕ) → MatchOption o ((p : ℕ) → HasCell stacks ps p n → ⊥) (λ p. HasCell stacks ps p n) → MatchOption o ((p : ℕ) → HasCell stacks (ps ++ place ∷ []) p n → ⊥) (λ p. HasCell stacks (ps ++ place ∷ []) p n)
    carried n ne None h = λ p k. ⊎_elim
        (λ (u : (p < length ps) × (slice_get ps p ≡ Some k.place)). h p (record { place = k.place; is_place = u.1; stack = k.stack; is_stack = k.is_stack; is_number = k.is_number }))
        (λ (u : (j : ℕ) × (p ≡ length ps + j) × (slice_get (place ∷ []) j ≡ Some k.place)). ne (last n u.0 k.place k.stack u.2 k.is_stack k.is_number))
        (split_get ps (place ∷ []) p k.place k.is_place)
    carried n ne (Some p) h = cell_more stacks ps place p n h

-- what the table says of a ship's places
pub cell_said : (ship : Ship) (stacks : List Stack) (ps : List Place) (table : BTreeMap CellNumber ℕ) (bay row tier : ℕ) (o : Option ℕ) → stacks ≡ ship.stacks → ps ≡ places ship → o ≡ get cell_order table (record { bay = bay; row = row; tier = tier }) → IsCellTable stacks ps table → MatchOption o ((p : ℕ) → HasNumber ship p (bay, row, tier) → ⊥) (λ p. HasNumber ship p (bay, row, tier))
cell_said ship stacks ps table bay row tier o e f is leads =
    let here : IsCellTable ship.stacks (places ship) table = subst (λ (xs : List Place). IsCellTable ship.stacks xs table) f (subst (λ (xs : List Stack). IsCellTable xs ps table) e leads) in
    said o (subst (λ (z : Option ℕ). MatchOption z ((p : ℕ) → HasCell ship.stacks (places ship) p (record { bay = bay; row = row; tier = tier }) → ⊥) (λ p. HasCell ship.stacks (places ship) p (record { bay = bay; row = row; tier = tier }))) (sym is) (here.leads (record { bay = bay; row = row; tier = tier })))
  where
    said : (o : Option ℕ) → MatchOption o ((p : ℕ) → HasCell ship.stacks (places ship) p (record { bay = bay; row = row; tier = tier }) → ⊥) (λ p. HasCell ship.stacks (places ship) p (record { bay = bay; row = row; tier = tier })) → MatchOption o ((p : ℕ) → HasNumber ship p (bay, row, tier) → ⊥) (λ p. HasNumber ship p (bay, row, tier))
    said None h = λ p n. h p (cell_from_number ship p bay row tier n)
    said (Some p) h = number_from_cell ship p (record { bay = bay; row = row; tier = tier }) h

-- a number leads back to its one place
pub cell_back : (ship : Ship) (bay row tier : ℕ) (o : Option ℕ) → IsShip ship → MatchOption o ((p : ℕ) → HasNumber ship p (bay, row, tier) → ⊥) (λ p. HasNumber ship p (bay, row, tier)) → (p : ℕ) → HasNumber ship p (bay, row, tier) → o ≡ Some p
cell_back ship bay row tier None rules h p n = absurd (h p n)
cell_back ship bay row tier (Some q) rules h p n = ap (λ (z : ℕ). Some z) (one_cell ship q p (record { bay = bay; row = row; tier = tier }) rules (cell_from_number ship q bay row tier h) (cell_from_number ship p bay row tier n))
