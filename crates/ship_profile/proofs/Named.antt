-- The stacks that covers name: each stands in its part of the ship, and is named once.
use Rattle.std.proofs.Common.{◌≡◌, ◌≢◌, ℕ, suc, zero, ◌+◌, ◌<◌, ◌≤◌, Bool, true, false, ◌&&◌, ◌||◌, List, [], ◌∷◌, ◌++◌, length, get_or, map, Option, Some, None, Ok, ◌⊎◌, ⊎_elim, inl, inr, refl, sym, ap, ◌∙◌, subst, arith, append_assoc, length-append}
use Rattle.std.specs.Prelude.{All, AllPairs, Contains, filter, find, flat_map, slice_get, ℤ, cond, if◌then◌else◌, ◌==◌}
use Rattle.std.specs.List.{enumerate_from}
use Rattle.std.proofs.lemmas.List.{append-nil}
use Rattle.std.proofs.lemmas.Option.{slice_get_within, get_or_from_slice_get}
use Rattle.std.proofs.lemmas.List.Elements.{All-cons, All-nil}
use Rattle.std.proofs.lemmas.List.Kept.{AllPairs-cons}
use Rattle.std.proofs.lemmas.Bool.{false≢true, eqb-true, eq-eqb, ne_eqb, leb-true}
use borrow.Author.Tests.{ltb-true}
use Rattle.toml.specs.Data.{Items, Members}
use Rattle.toml_values.proofs.ValueLaws.{bound, same_Ok, err_is_no_ok}
use Rattle.stow_data.specs.declared.geometry.Stack.{Stack}
use Rattle.stow_data.specs.declared.geometry.Cover.{Cover}
use Rattle.stow_data.specs.Profile.{IsStack, IsInHold, IsOnDeck, IsCover, stacks_named}
use Rattle.stow_data.specs.Ship.{Ship}
use Rattle.ship_profile.specs.declared.faults.ProfileKey.TheVariants as key
use Rattle.ship_profile.specs.declared.faults.ProfileFault.TheVariants.{CoverUnknownStack, CoverTwice}
use Rattle.ship_profile.specs.declared.covers.Part.{Part}
use Rattle.ship_profile.specs.declared.covers.Part.TheVariants.{Hold, Deck}
use Rattle.ship_profile.specs.Keys.{need}
use Rattle.ship_profile.specs.Stacks.{is_among}
use Rattle.ship_profile.specs.Covers.{is_in, stands_at, stacks_from, stacks_at, unless_again, newly_named, all_named, cover_of, covers_of, named_by, pairs_of}
use Rattle.ship_profile.proofs.Bound.{both, entries_keep, All-push}
use Rattle.ship_profile.proofs.Apart.{none_among}

pub named_push : (cs : List Cover) (c : Cover) → named_by (cs ++ c ∷ []) ≡ named_by cs ++ (c.under ++ c.on)
named_push [] c = append-nil (c.under ++ c.on)
named_push (d ∷ cs) c = ap (λ ns. (d.under ++ d.on) ++ ns) (named_push cs c) ∙ sym (append_assoc (d.under ++ d.on) (named_by cs) (c.under ++ c.on))

-- how many times a number stands in a list
unfoldable pub times : ℕ → List ℕ → ℕ
times n [] = 0
times n (x ∷ xs) = (if x == n then 1 else 0) + times n xs

times-append : (n : ℕ) (xs ys : List ℕ) → times n (xs ++ ys) ≡ times n xs + times n ys
unfolding times
times-append n [] ys = omega arith
times-append n (x ∷ xs) ys = let more = times-append n xs ys in omega arith

-- each number stands at most once
pub record IsOnce (xs : List ℕ) : Type 0 where
  pub at_most : (n : ℕ) → times n xs ≤ 1

pub no_number : IsOnce []
unfolding times
no_number = record { at_most = λ n. omega arith }

neither : (a b : Bool) → (a || b) ≡ false → (a ≡ false) × (b ≡ false)
neither true b h = absurd (false≢true (sym h))
neither false b h = (refl, h)

times_none : (n : ℕ) (xs : List ℕ) → is_among xs n ≡ false → times n xs ≡ 0
unfolding times
times_none n [] h = refl
times_none n (x ∷ xs) h =
    let parts = neither (x == n) (is_among xs n) h in
    let more = times_none n xs parts.1 in
    rw parts.0 (omega arith)

times_at : (n : ℕ) (xs : List ℕ) (k d : ℕ) → k < length xs → get_or xs k d ≡ n → 1 ≤ times n xs
unfolding times
times_at n [] k d lt is = absurd (omega arith)
times_at n (x ∷ xs) zero d lt is = rw (eq-eqb x n is) (omega arith)
times_at n (x ∷ xs) (suc k) d lt is = let more = times_at n xs k d (omega arith) is in omega arith

pub distinct : (xs : List ℕ) → IsOnce xs → AllPairs (λ s t. s ≢ t) xs
unfolding times
distinct [] h = λ i j d lt within. absurd (omega arith)
distinct (x ∷ xs) h =
    AllPairs-cons (λ s t. s ≢ t) x xs
    (λ k d lt e. let here = times_at x xs k d lt (sym e) in let twice = h.at_most x in absurd (let both : 1 + times x xs ≤ 1 = rw (eq-eqb x x refl) at twice in omega arith))
    (distinct xs (record { at_most = λ n. let all = h.at_most n in omega arith }))

-- a stack in its part of the ship
pub record StandsIn (part : Part) (stacks : List Stack) (n : ℕ) : Type 0 where
  pub stack : Stack
  pub is_stack : slice_get stacks n ≡ Some stack
  pub in_part : is_in part stack ≡ true

at_end : (before : List Stack) (s : Stack) (ss : List Stack) → slice_get (before ++ s ∷ ss) (length before) ≡ Some s
at_end [] s ss = refl
at_end (b ∷ before) s ss = at_end before s ss

-- the stacks at a bay and row, each once and in its part
pub record AreStacksAt (part : Part) (stacks : List Stack) (i : ℕ) (these : List ℕ) : Type 0 where
  pub once : IsOnce these
  pub from : (n : ℕ) → n < i → times n these ≡ 0
  pub parts : All (StandsIn part stacks) these

with_front : (b : Bool) (part : Part) (stacks : List Stack) (i : ℕ) (s : Stack) (rest : List (ℕ × Stack)) → slice_get stacks i ≡ Some s → (b ≡ true → is_in part s ≡ true)
    → AreStacksAt part stacks (i + 1) (map (λ s. s.0) rest) → AreStacksAt part stacks i (map (λ s. s.0) (cond b ((i, s) ∷ rest) rest))
unfolding times
with_front true part stacks i s rest is h more = record {
  once = record { at_most = λ n. first_once n (i == n) (λ e. more.from n (let same = eqb-true i n e in omega arith)) (more.once.at_most n) };
  from = λ n lt. let other : (i == n) ≡ false = ne_eqb i n (λ (e : i ≡ n). omega arith) in rw other (let none = more.from n (omega arith) in omega arith);
  parts = All-cons (StandsIn part stacks) i (map (λ s. s.0) rest) (record { stack = s; is_stack = is; in_part = h refl }) more.parts;
}
  where
    first_once : (n : ℕ) (b : Bool) → (b ≡ true → times n (map (λ (s : ℕ × Stack). s.0) rest) ≡ 0) → times n (map (λ (s : ℕ × Stack). s.0) rest) ≤ 1 → (if b then 1 else 0) + times n (map (λ (s : ℕ × Stack). s.0) rest) ≤ 1
    first_once n true none le = let e = none refl in omega arith
    first_once n false none le = omega arith
with_front false part stacks i s rest is h more = record { once = more.once; from = λ n lt. more.from n (omega arith); parts = more.parts }

stacks_are_at : (part : Part) (pair : ℤ × ℤ) (before ss : List Stack) → AreStacksAt part (before ++ ss) (length before) (stacks_from (length before) part ss pair)
unfolding times
stacks_are_at part pair before [] = record { once = no_number; from = λ n lt. refl; parts = All-nil (StandsIn part (before ++ [])) }
stacks_are_at part pair before (s ∷ ss) =
    let more = stacks_are_at part pair (before ++ s ∷ []) ss in
    let count : length (before ++ s ∷ []) ≡ length before + 1 = length-append before (s ∷ []) in
    let at_one : AreStacksAt part ((before ++ s ∷ []) ++ ss) (length before + 1) (stacks_from (length before + 1) part ss pair) = subst (λ (n : ℕ). AreStacksAt part ((before ++ s ∷ []) ++ ss) n (stacks_from n part ss pair)) count more in
    let rest : AreStacksAt part (before ++ s ∷ ss) (length before + 1) (stacks_from (length before + 1) part ss pair) = subst (λ (all : List Stack). AreStacksAt part all (length before + 1) (stacks_from (length before + 1) part ss pair)) (append_assoc before (s ∷ []) ss) at_one in
    with_front (is_in part s && stands_at pair.0 pair.1 s) part (before ++ s ∷ ss) (length before) s (filter (λ s. is_in part s.1 && stands_at pair.0 pair.1 s.1) (enumerate_from (length before + 1) ss)) (at_end before s ss) (λ e. (both (is_in part s) (stands_at pair.0 pair.1 s) e).0) rest

-- ## Stacks that are named

unless_again_is : (these : List ℕ) (o : Option ℕ) (xs : List ℕ) → unless_again these o ≡ Ok xs → (o ≡ None) × (these ≡ xs)
unless_again_is these None xs h = (refl, same_Ok these xs h)
unless_again_is these (Some s) xs h = absurd (err_is_no_ok (CoverTwice s) xs h)

newly_is : (index : ℕ) (named these xs : List ℕ) → newly_named index named these ≡ Ok xs → (find (is_among named) these ≡ None) × (these ≡ xs)
newly_is index named [] xs h = absurd (err_is_no_ok (CoverUnknownStack index) xs h)
newly_is index named (s ∷ ss) xs h = unless_again_is (s ∷ ss) (find (is_among named) (s ∷ ss)) xs h

among_times : (n : ℕ) (xs : List ℕ) → (is_among xs n ≡ true) ⊎ (times n xs ≡ 0)
among_times n xs = of_test (is_among xs n) refl
  where
    of_test : (b : Bool) → is_among xs n ≡ b → (is_among xs n ≡ true) ⊎ (times n xs ≡ 0)
    of_test true e = inl e
    of_test false e = inr (times_none n xs e)

once_more : (named these : List ℕ) → find (is_among named) these ≡ None → IsOnce named → IsOnce these → IsOnce (named ++ these)
once_more named these none h k = record {
  at_most = λ n. let both = times-append n named these in let first = h.at_most n in let second = k.at_most n in
      ⊎_elim (λ (e : is_among these n ≡ true). let gone = times_none n named (none_among (is_among named) these n none e) in omega arith) (λ (e : times n these ≡ 0). omega arith) (among_times n these);
}

-- stacks that are named once, those found in their part
pub record AreNamed (part : Part) (stacks : List Stack) (named found : List ℕ) : Type 0 where
  pub once : IsOnce (named ++ found)
  pub parts : All (StandsIn part stacks) found

all_append : {X : Type 0} (P : X → Type 0) (xs ys : List X) → All P xs → All P ys → All P (xs ++ ys)
all_append P [] ys h k = k
all_append P (x ∷ xs) ys h k = All-cons P x (xs ++ ys) (h 0 x (omega arith)) (all_append P xs ys (λ i d lt. h (suc i) d (omega arith)) k)

all_named_are : (part : Part) (stacks : List Stack) (index : ℕ) (named found : List ℕ) (pairs : List (ℤ × ℤ)) (xs : List ℕ) → AreNamed part stacks named found → all_named part stacks index named found pairs ≡ Ok xs → AreNamed part stacks named xs
unfolding all_named
all_named_are part stacks index named found [] xs so_far h = subst (AreNamed part stacks named) (same_Ok found xs h) so_far
all_named_are part stacks index named found (pair ∷ pairs) xs so_far h =
    let new = bound (newly_named index (named ++ found) (stacks_at part stacks pair)) _ xs h in
    let is = newly_is index (named ++ found) (stacks_at part stacks pair) new.value new.is in
    let these = stacks_are_at part pair [] stacks in
    let once = once_more (named ++ found) (stacks_at part stacks pair) is.0 so_far.once these.once in
    let next : AreNamed part stacks named (found ++ stacks_at part stacks pair) = record { once = subst IsOnce (append_assoc named found (stacks_at part stacks pair)) once; parts = all_append (StandsIn part stacks) found (stacks_at part stacks pair) so_far.parts these.parts } in
    all_named_are part stacks index named (found ++ new.value) pairs xs (subst (λ (ns : List ℕ). AreNamed part stacks named (found ++ ns)) is.1 next) new.goes_on

begin_named : (part : Part) (stacks : List Stack) (named : List ℕ) → IsOnce named → AreNamed part stacks named []
begin_named part stacks named h = record { once = rw (append-nil named) h; parts = All-nil (StandsIn part stacks) }

-- the parts in which a cover names its stacks
pub record NamesParts (stacks : List Stack) (c : Cover) : Type 0 where
  pub under : All (StandsIn Hold stacks) c.under
  pub on : All (StandsIn Deck stacks) c.on

pub record AreCovers (stacks : List Stack) (covers : List Cover) : Type 0 where
  pub once : IsOnce (named_by covers)
  pub each : All (NamesParts stacks) covers

cover_is : (stacks : List Stack) (index : ℕ) (named : List ℕ) (entry : Members) (c : Cover) → IsOnce named → cover_of stacks index named entry ≡ Ok c → IsOnce (named ++ (c.under ++ c.on)) × NamesParts stacks c
unfolding cover_of
cover_is stacks index named entry c once h =
    let under_pairs = bound (need pairs_of key.Under index entry) _ c h in
    let under = bound (all_named Hold stacks index named [] under_pairs.value) _ c under_pairs.goes_on in
    let on_pairs = bound (need pairs_of key.On index entry) _ c under.goes_on in
    let on = bound (all_named Deck stacks index (named ++ under.value) [] on_pairs.value) _ c on_pairs.goes_on in
    let first = all_named_are Hold stacks index named [] under_pairs.value under.value (begin_named Hold stacks named once) under.is in
    let second = all_named_are Deck stacks index (named ++ under.value) [] on_pairs.value on.value (begin_named Deck stacks (named ++ under.value) first.once) on.is in
    subst (λ (d : Cover). IsOnce (named ++ (d.under ++ d.on)) × NamesParts stacks d) (same_Ok _ c on.goes_on) (subst IsOnce (append_assoc named under.value on.value) second.once, record { under = first.parts; on = second.parts })

pub covers_are : (stacks : List Stack) (ds : Items) (covers : List Cover) → covers_of stacks ds ≡ Ok covers → AreCovers stacks covers
covers_are stacks ds covers h =
    entries_keep key.Cover (λ index earlier entry. cover_of stacks index (named_by earlier) entry) (AreCovers stacks)
    (λ index earlier m c p r. let one = cover_is stacks index (named_by earlier) m c p.once r in record { once = rw (named_push earlier c) one.0; each = All-push (NamesParts stacks) earlier c p.each one.1 })
    (record { once = no_number; each = All-nil (NamesParts stacks) }) ds covers h

-- ## The rules of covers

named_times : (n : ℕ) (cs : List Cover) → times n (stacks_named cs) ≡ times n (named_by cs)
named_times n [] = refl
named_times n (c ∷ cs) =
    let more = named_times n cs in
    let under = flat_map (λ d. d.under) cs in
    let on = flat_map (λ d. d.on) cs in
    omega (arith, more, times-append n (c.under ++ under) (c.on ++ on), times-append n c.under under, times-append n c.on on, times-append n under on, times-append n (c.under ++ c.on) (named_by cs), times-append n c.under c.on)

pub named_once : (cs : List Cover) → IsOnce (named_by cs) → AllPairs (λ s t. s ≢ t) (stacks_named cs)
named_once cs h = distinct (stacks_named cs) (record { at_most = λ n. let same = named_times n cs in let le = h.at_most n in omega arith })

stack_at_is : (stacks : List Stack) (n : ℕ) (s : Stack) → All IsStack stacks → slice_get stacks n ≡ Some s → IsStack s
stack_at_is stacks n s h is = subst IsStack (get_or_from_slice_get stacks n s s is) (h n s (slice_get_within stacks n s is))

pub in_hold : (s : Stack) → IsStack s → is_in Hold s ≡ true → IsInHold s
in_hold s h e = let low = ltb-true s.lowest 80 e in ⊎_elim (λ (p : IsInHold s). p) (λ (p : IsOnDeck s). absurd (let high = p.0 in omega arith)) h.part

pub on_deck : (s : Stack) → IsStack s → is_in Deck s ≡ true → IsOnDeck s
on_deck s h e = let high = leb-true 80 s.lowest e in ⊎_elim (λ (p : IsInHold s). absurd (let low = p.1 in omega arith)) (λ (p : IsOnDeck s). p) h.part

each_named : (part : Part) (stacks : List Stack) (P : Stack → Type 0) → All IsStack stacks → ((s : Stack) → IsStack s → is_in part s ≡ true → P s) → (ns : List ℕ) → All (StandsIn part stacks) ns
    → (n : ℕ) → Contains ns n → (stack : Stack) × (slice_get stacks n ≡ Some stack) × P stack
each_named part stacks P each f ns h n within =
    let at = subst (StandsIn part stacks) within.2 (h within.0 n within.1) in
    (at.stack, at.is_stack, f at.stack (stack_at_is stacks n at.stack each at.is_stack) at.in_part)

pub is_cover : (ship : Ship) (c : Cover) → All IsStack ship.stacks → NamesParts ship.stacks c → IsCover ship c
is_cover ship c each h = record { under = each_named Hold ship.stacks IsInHold each in_hold c.under h.under; on = each_named Deck ship.stacks IsOnDeck each on_deck c.on h.on }
