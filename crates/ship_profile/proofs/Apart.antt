-- Stacks, each looked at beside the earlier ones.
use Rattle.std.proofs.Common.{◌≡◌, ℕ, suc, zero, ◌+◌, ◌-◌, ◌<◌, ◌≤◌, Bool, true, false, ◌&&◌, List, [], ◌∷◌, ◌++◌, length, get_or, take, drop, map, Option, Some, None, Ok, Err, ◌⊎◌, ⊎_elim, append_assoc, inl, inr, refl, sym, ap, ◌∙◌, subst, arith}
use Rattle.std.specs.Prelude.{AllPairs, Contains, find, Result, ◌==◌, cond, if◌then◌else◌}
use Rattle.std.specs.List.{list_any}
use Rattle.std.proofs.lemmas.List.{drop_all, take_more, append-nil}
use Rattle.std.proofs.lemmas.Bool.{false≢true, le-leb, eq-eqb, eqb-true}
use Rattle.std.proofs.lemmas.Option.{none-some}
use Rattle.std.proofs.lemmas.List.Quantifiers.{all_pairs_push}
use Rattle.toml_values.proofs.ValueLaws.{bound, err_is_no_ok}
use Rattle.stow_data.specs.declared.geometry.Stack.{Stack}
use Rattle.stow_data.specs.declared.geometry.Lengths.{Lengths}
use Rattle.stow_data.specs.declared.geometry.Lengths.TheVariants.{Forty, Twenty, Mixed, ForeOnly, AftOnly}
use Rattle.stow_data.specs.Ship.{sides}
use Rattle.stow_data.specs.Profile.{IsInHold, IsOnDeck, HasOddBay, SharesCell}
use Rattle.ship_profile.specs.declared.faults.ProfileFault.{ProfileFault}
use Rattle.ship_profile.specs.declared.faults.ProfileFault.TheVariants.{DuplicateCell}
use Rattle.ship_profile.specs.Stacks.{apart_after, refused_at, shared_bay, has_cell_of, same_part, is_in_hold, is_on_deck, is_among, odd_bays}
use Rattle.ship_profile.proofs.Bound.{either, or_left, or_right, and_true}
use Rattle.ship_profile.proofs.Rising.{front_is}

pub take_front : {X : Type 0} (xs : List X) (i : ℕ) (x : X) → i < length xs → x ≡ get_or xs i x → take (i + 1) xs ≡ take i xs ++ x ∷ []
take_front xs i x lt is = take_more xs i x lt ∙ ap (λ y. take i xs ++ y ∷ []) (sym is)

pub apart_on : (ss : List Stack) (i : ℕ) (s : Stack) (total : Result (Unit {0}) ProfileFault) → i < length ss → s ≡ get_or ss i s → shared_bay (take i ss) s ≡ None → apart_after (take i ss) (drop i ss) ≡ total → apart_after (take (i + 1) ss) (drop (i + 1) ss) ≡ total
unfolding apart_after
apart_on ss i s total lt is none so_far =
    let one : apart_after (take i ss) (drop i ss) ≡ apart_after (take i ss ++ s ∷ []) (drop (i + 1) ss) = rw (front_is ss i s lt is, none) refl in
    rw (take_front ss i s lt is) (sym one ∙ so_far)

pub shared_stops : (ss : List Stack) (i : ℕ) (s : Stack) (odd : ℕ) (total : Result (Unit {0}) ProfileFault) → i < length ss → s ≡ get_or ss i s → shared_bay (take i ss) s ≡ Some odd → apart_after (take i ss) (drop i ss) ≡ total → total ≡ Err (DuplicateCell odd s.row s.lowest)
unfolding apart_after
shared_stops ss i s odd total lt is some so_far =
    let one : apart_after (take i ss) (drop i ss) ≡ Err (DuplicateCell odd s.row s.lowest) = rw (front_is ss i s lt is, some) refl in
    sym so_far ∙ one

pub apart_end : (ss : List Stack) (i : ℕ) (total : Result (Unit {0}) ProfileFault) → length ss ≤ i → apart_after (take i ss) (drop i ss) ≡ total → total ≡ Ok tt
unfolding apart_after
apart_end ss i total le so_far = let one : apart_after (take i ss) (drop i ss) ≡ Ok tt = rw (drop_all i ss le) refl in sym so_far ∙ one

-- ## Stacks that came through share no cell

hold_low : (s : Stack) → IsInHold s → is_in_hold s ≡ true
hold_low s h = le-leb (suc s.lowest) 80 (omega (arith, h.1))

deck_high : (s : Stack) → IsOnDeck s → is_on_deck s ≡ true
deck_high s h = le-leb 80 s.lowest h.0

same_part_found : (s t : Stack) → (IsInHold s × IsInHold t) ⊎ (IsOnDeck s × IsOnDeck t) → same_part s t ≡ true
same_part_found s t (inl h) = or_left (is_in_hold s && is_in_hold t) _ (and_true (is_in_hold s) (is_in_hold t) (hold_low s h.0) (hold_low t h.1))
same_part_found s t (inr h) = or_right (is_in_hold s && is_in_hold t) _ (and_true (is_on_deck s) (is_on_deck t) (deck_high s h.0) (deck_high t h.1))

pub any_at : {X : Type 0} (p : X → Bool) (xs : List X) (k : ℕ) (d : X) → k < length xs → p (get_or xs k d) ≡ true → list_any p xs ≡ true
any_at p [] k d lt h = absurd (omega arith)
any_at p (x ∷ xs) zero d lt h = or_left (p x) (list_any p xs) h
any_at p (x ∷ xs) (suc k) d lt h = or_right (p x) (list_any p xs) (any_at p xs k d (omega arith) h)

-- a number among those in which find finds none doesn't pass
find_none : {X : Type 0} (p : X → Bool) (x : X) (xs : List X) → find p (x ∷ xs) ≡ None → (p x ≡ false) × (find p xs ≡ None)
find_none p x xs h = by_test (p x) h
  where
    by_test : (b : Bool) → cond b (Some x) (find p xs) ≡ None → (b ≡ false) × (find p xs ≡ None)
    by_test true e = absurd (none-some x (sym e))
    by_test false e = (refl, e)

pub none_among : (p : ℕ → Bool) (ns : List ℕ) (n : ℕ) → find p ns ≡ None → is_among ns n ≡ true → p n ≡ false
none_among p [] n h within = absurd (false≢true within)
none_among p (m ∷ ns) n h within =
    let one = find_none p m ns h in
    ⊎_elim (λ (e : (m == n) ≡ true). subst (λ (k : ℕ). p k ≡ false) (eqb-true m n e) one.0) (λ (e : is_among ns n ≡ true). none_among p ns n one.1 e) (either (m == n) (is_among ns n) within)

false_side : (l : Lengths) → Contains (sides l) false → (l ≡ AftOnly → ⊥)
false_side l (zero, lt, is) e = false≢true (sym (rw e at is))
false_side l (suc k, lt, is) e = absurd (let small = rw e at lt in omega arith)

fore_found : (bay odd : ℕ) (l : Lengths) → odd + 1 ≡ bay → (l ≡ AftOnly → ⊥) → is_among (map (λ aft. if aft then bay + 1 else bay - 1) (sides l)) odd ≡ true
fore_found bay odd Forty e h = or_left ((bay - 1) == odd) _ (eq-eqb (bay - 1) odd (omega arith))
fore_found bay odd Twenty e h = or_left ((bay - 1) == odd) _ (eq-eqb (bay - 1) odd (omega arith))
fore_found bay odd Mixed e h = or_left ((bay - 1) == odd) _ (eq-eqb (bay - 1) odd (omega arith))
fore_found bay odd ForeOnly e h = or_left ((bay - 1) == odd) _ (eq-eqb (bay - 1) odd (omega arith))
fore_found bay odd AftOnly e h = absurd (h refl)

true_side : (l : Lengths) → Contains (sides l) true → (l ≡ ForeOnly → ⊥)
true_side l (zero, lt, is) e = false≢true (rw e at is)
true_side l (suc k, lt, is) e = absurd (let small = rw e at lt in omega arith)

aft_found : (bay odd : ℕ) (l : Lengths) → odd ≡ bay + 1 → (l ≡ ForeOnly → ⊥) → is_among (map (λ aft. if aft then bay + 1 else bay - 1) (sides l)) odd ≡ true
aft_found bay odd Forty e h = or_right ((bay - 1) == odd) _ (or_left ((bay + 1) == odd) _ (eq-eqb (bay + 1) odd (sym e)))
aft_found bay odd Twenty e h = or_right ((bay - 1) == odd) _ (or_left ((bay + 1) == odd) _ (eq-eqb (bay + 1) odd (sym e)))
aft_found bay odd Mixed e h = or_right ((bay - 1) == odd) _ (or_left ((bay + 1) == odd) _ (eq-eqb (bay + 1) odd (sym e)))
aft_found bay odd AftOnly e h = or_left ((bay + 1) == odd) _ (eq-eqb (bay + 1) odd (sym e))
aft_found bay odd ForeOnly e h = absurd (h refl)

-- an odd bay that a stack has is among its odd bays
pub bay_found : (s : Stack) (odd : ℕ) → HasOddBay s odd → is_among (odd_bays s) odd ≡ true
bay_found s odd (inl h) = fore_found s.bay odd s.lengths h.0 (false_side s.lengths h.1)
bay_found s odd (inr h) = aft_found s.bay odd s.lengths h.0 (true_side s.lengths h.1)

pub cell_found : (s e : Stack) (h : SharesCell e s) → has_cell_of s h.odd e ≡ true
cell_found s e h = and_true ((e.row == s.row) && same_part e s) _ (and_true (e.row == s.row) _ (eq-eqb e.row s.row h.same_row) (same_part_found e s h.same_part)) (bay_found e h.odd h.in_first)

pub none_shared : (earlier : List Stack) (s : Stack) → shared_bay earlier s ≡ None → (k : ℕ) (d : Stack) → k < length earlier → SharesCell (get_or earlier k d) s → ⊥
none_shared earlier s none k d lt h =
    let free = none_among (λ odd. list_any (has_cell_of s odd) earlier) (odd_bays s) h.odd none (bay_found s h.odd h.in_second) in
    false≢true (sym free ∙ any_at (has_cell_of s h.odd) earlier k d lt (cell_found s (get_or earlier k d) h))

refused_none : (s : Stack) (o : Option ℕ) (u : Unit {0}) → refused_at s o ≡ Ok u → o ≡ None
refused_none s None u h = refl
refused_none s (Some odd) u h = absurd (err_is_no_ok (DuplicateCell odd s.row s.lowest) u h)

apart_all : (earlier ss : List Stack) (u : Unit {0}) → AllPairs (λ s t. SharesCell s t → ⊥) earlier → apart_after earlier ss ≡ Ok u → AllPairs (λ s t. SharesCell s t → ⊥) (earlier ++ ss)
unfolding apart_after
apart_all earlier [] u apart h = rw (append-nil earlier) apart
apart_all earlier (s ∷ ss) u apart h =
    let one = bound (refused_at s (shared_bay earlier s)) _ u h in
    let none = refused_none s (shared_bay earlier s) one.value one.is in
    let more = apart_all (earlier ++ s ∷ []) ss u (all_pairs_push (λ s t. SharesCell s t → ⊥) earlier s apart (none_shared earlier s none)) one.goes_on in
    subst (AllPairs (λ s t. SharesCell s t → ⊥)) (append_assoc earlier (s ∷ []) ss) more

-- stacks of which none is refused
pub are_apart : (ss : List Stack) (u : Unit {0}) → apart_after [] ss ≡ Ok u → AllPairs (λ s t. SharesCell s t → ⊥) ss
are_apart ss u h = apart_all [] ss u (λ i j d lt within. absurd (omega arith)) h
