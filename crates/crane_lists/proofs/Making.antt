-- A round in the making.
use Rattle.std.specs.Prelude.{◌≡◌, ◌⊎◌, ℕ, zero, suc, ◌+◌, ◌≤◌, ◌<◌, Bool, true, false, cond, nat_lt, List, [], ◌∷◌, ◌++◌, All, Any, length, slice_index_or}
use Rattle.std.specs.List.{insert}
use Rattle.std.proofs.Common.{refl, sym, ap, arith, subst, inl, inr, ⊎_elim}
use Rattle.std.proofs.lemmas.Bool.{ltb-true, ltb-false}
use Rattle.std.proofs.lemmas.List.Elements.{All-cons, All-head, All-nil, All-tail}
use Rattle.stow_data.specs.Ship.{Ship}
use Rattle.crane_lists.specs.declared.tasks.Task.{Task}
use Rattle.crane_lists.specs.Rounds.{Every, EachPair, In, bay_at}
use Rattle.crane_lists.specs.Sharing.{IsFar, IsNear, IsMaking, MayGo, WasTried, entered, place_for}
use Rattle.crane_lists.proofs.Orders.{every_in, every_from}
use Rattle.crane_lists.proofs.Bounding.{every_under}

pub every_all : {X : Type 0} (P : X → Type 0) (xs : List X) → All P xs → Every P xs
every_all P [] h = tt
every_all P (x ∷ xs) h = (All-head P x xs h, every_all P xs (All-tail P x xs h))

pub all_every : {X : Type 0} (P : X → Type 0) (xs : List X) → Every P xs → All P xs
all_every P [] h = All-nil P
all_every P (x ∷ xs) h = All-cons P x xs h.0 (all_every P xs h.1)

pub every_push : {X : Type 0} (P : X → Type 0) (xs : List X) (x : X) → Every P xs → P x → Every P (xs ++ x ∷ [])
every_push P [] x h p = (p, tt)
every_push P (y ∷ ys) x h p = (h.0, every_push P ys x h.1 p)

pub in_at : (xs : List ℕ) (k x : ℕ) → k < length xs → slice_index_or xs k x ≡ x → In x xs
in_at [] k x lt e = absurd (omega (arith, lt))
in_at (y ∷ ys) zero x lt e = inl (sym e)
in_at (y ∷ ys) (suc k) x lt e = inr (in_at ys k x (omega (arith, lt)) e)

in_test : (b : Bool) (i j : ℕ) (is es : List ℕ) → In j es → In j (cond b (i ∷ es) (j ∷ (i ∷ is)))
in_test true i j is es h = inr h
in_test false i j is es h = inl refl

pub in_entered : (ship : Ship) (ts : List Task) (j : ℕ) (r : List ℕ) → In j (entered ship ts j r)
in_entered ship ts j [] = inl refl
in_entered ship ts j (i ∷ is) = in_test (nat_lt (bay_at ship ts i) (bay_at ship ts j)) i j is (entered ship ts j is) (in_entered ship ts j is)

kept_test : (b : Bool) (i j x : ℕ) (is es : List ℕ) → (In x is → In x es) → In x (i ∷ is) → In x (cond b (i ∷ es) (j ∷ (i ∷ is)))
kept_test true i j x is es to (inl e) = inl e
kept_test true i j x is es to (inr h) = inr (to h)
kept_test false i j x is es to h = inr h

pub kept_entered : (ship : Ship) (ts : List Task) (j : ℕ) (r : List ℕ) (x : ℕ) → In x r → In x (entered ship ts j r)
kept_entered ship ts j [] x h = absurd h
kept_entered ship ts j (i ∷ is) x h = kept_test (nat_lt (bay_at ship ts i) (bay_at ship ts j)) i j x is (entered ship ts j is) (kept_entered ship ts j is x) h

cases_test : (b : Bool) (i j x : ℕ) (is es : List ℕ) → (In x es → (x ≡ j) ⊎ In x is) → In x (cond b (i ∷ es) (j ∷ (i ∷ is))) → (x ≡ j) ⊎ In x (i ∷ is)
cases_test true i j x is es to (inl e) = inr (inl e)
cases_test true i j x is es to (inr h) = ⊎_elim (λ e. inl e) (λ k. inr (inr k)) (to h)
cases_test false i j x is es to (inl e) = inl e
cases_test false i j x is es to (inr h) = inr h

pub entered_cases : (ship : Ship) (ts : List Task) (j : ℕ) (r : List ℕ) (x : ℕ) → In x (entered ship ts j r) → (x ≡ j) ⊎ In x r
entered_cases ship ts j [] x (inl e) = inl e
entered_cases ship ts j [] x (inr h) = absurd h
entered_cases ship ts j (i ∷ is) x h = cases_test (nat_lt (bay_at ship ts i) (bay_at ship ts j)) i j x is (entered ship ts j is) (entered_cases ship ts j is x) h

length_test : (b : Bool) (i j : ℕ) (is es : List ℕ) → length es ≡ suc (length is) → length (cond b (i ∷ es) (j ∷ (i ∷ is))) ≡ suc (suc (length is))
length_test true i j is es e = ap suc e
length_test false i j is es e = refl

entered_length : (ship : Ship) (ts : List Task) (j : ℕ) (r : List ℕ) → length (entered ship ts j r) ≡ suc (length r)
entered_length ship ts j [] = refl
entered_length ship ts j (i ∷ is) = length_test (nat_lt (bay_at ship ts i) (bay_at ship ts j)) i j is (entered ship ts j is) (entered_length ship ts j is)

-- the second bay is at least 8 above the first
abbrev pub Rises : Ship → List Task → ℕ → ℕ → Type 0
Rises ship ts i j = bay_at ship ts i + 8 ≤ bay_at ship ts j

rise_step : (ship : Ship) (ts : List Task) (j i : ℕ) (is : List ℕ) → EachPair (Rises ship ts) (i ∷ is) → EachPair (Rises ship ts) (entered ship ts j is) → IsFar ship ts j i → (b : Bool) → nat_lt (bay_at ship ts i) (bay_at ship ts j) ≡ b → EachPair (Rises ship ts) (cond b (i ∷ entered ship ts j is) (j ∷ (i ∷ is)))
rise_step ship ts j i is pairs rest far true e =
    let lt : bay_at ship ts i < bay_at ship ts j = ltb-true (bay_at ship ts i) (bay_at ship ts j) e in
    let up : Rises ship ts i j = ⊎_elim (λ (a : Rises ship ts i j). a) (λ (b : Rises ship ts j i). absurd (omega (arith, lt, b))) far in
    (every_from (Rises ship ts i) (entered ship ts j is) (λ x h. ⊎_elim (λ (same : x ≡ j). subst (Rises ship ts i) (sym same) up) (λ (k : In x is). every_in (Rises ship ts i) is x pairs.0 k) (entered_cases ship ts j is x h)), rest)
rise_step ship ts j i is pairs rest far false e =
    let ge : bay_at ship ts j ≤ bay_at ship ts i = ltb-false (bay_at ship ts i) (bay_at ship ts j) e in
    let down : Rises ship ts j i = ⊎_elim (λ (a : Rises ship ts i j). absurd (omega (arith, ge, a))) (λ (b : Rises ship ts j i). b) far in
    ((down, every_under (Rises ship ts i) (Rises ship ts j) is (λ x h. omega (arith, down, h)) pairs.0), pairs)

entered_rise : (ship : Ship) (ts : List Task) (j : ℕ) (r : List ℕ) → EachPair (Rises ship ts) r → Every (IsFar ship ts j) r → EachPair (Rises ship ts) (entered ship ts j r)
entered_rise ship ts j [] pairs far = (tt, tt)
entered_rise ship ts j (i ∷ is) pairs far = rise_step ship ts j i is pairs (entered_rise ship ts j is pairs.1 far.1) far.0 (nat_lt (bay_at ship ts i) (bay_at ship ts j)) refl

insert_test : (b : Bool) (i j p : ℕ) (is es : List ℕ) → insert is p j ≡ es → insert (i ∷ is) (cond b (suc p) 0) j ≡ cond b (i ∷ es) (j ∷ (i ∷ is))
insert_test true i j p is es e = ap (λ (xs : List ℕ). i ∷ xs) e
insert_test false i j p is es e = refl

pub inserted : (ship : Ship) (ts : List Task) (j : ℕ) (r : List ℕ) → insert r (place_for ship ts j r) j ≡ entered ship ts j r
inserted ship ts j [] = refl
inserted ship ts j (i ∷ is) = insert_test (nat_lt (bay_at ship ts i) (bay_at ship ts j)) i j (place_for ship ts j is) is (entered ship ts j is) (inserted ship ts j is)

low_test : (b : Bool) (p n : ℕ) → p ≤ n → cond b (suc p) 0 ≤ suc n
low_test true p n h = omega (arith, h)
low_test false p n h = omega arith

pub place_low : (ship : Ship) (ts : List Task) (j : ℕ) (r : List ℕ) → place_for ship ts j r ≤ length r
place_low ship ts j [] = omega arith
place_low ship ts j (i ∷ is) = low_test (nat_lt (bay_at ship ts i) (bay_at ship ts j)) (place_for ship ts j is) (length is) (place_low ship ts j is)

-- what was tried stays tried when a round with room takes one more
still_tried : (ship : Ship) (ts : List Task) (cranes : ℕ) (done : List Bool) (r : List ℕ) (j x : ℕ) → length r < cranes → WasTried ship ts cranes done r x → WasTried ship ts cranes done (entered ship ts j r) x
still_tried ship ts cranes done r j x room (inl held) = inl held
still_tried ship ts cranes done r j x room (inr (inl h)) = inr (inl (kept_entered ship ts j r x h))
still_tried ship ts cranes done r j x room (inr (inr (inl full))) = absurd (omega (arith, room, full))
still_tried ship ts cranes done r j x room (inr (inr (inr near))) = inr (inr (inr (near.0, kept_entered ship ts j r near.0 near.1, near.2)))

pub making_with : (ship : Ship) (ts : List Task) (cranes : ℕ) (done : List Bool) (tried r : List ℕ) (j : ℕ) → IsMaking ship ts cranes done tried r → MayGo ship ts done j → length r < cranes → All (IsFar ship ts j) r → IsMaking ship ts cranes done (tried ++ j ∷ []) (entered ship ts j r)
making_with ship ts cranes done tried r j m go room far = record {
  few = omega (arith, entered_length ship ts j r, room);
  apart = entered_rise ship ts j r m.apart (every_all (IsFar ship ts j) r far);
  may = every_from (MayGo ship ts done) (entered ship ts j r) (λ x h. ⊎_elim (λ (same : x ≡ j). subst (MayGo ship ts done) (sym same) go) (λ (k : In x r). every_in (MayGo ship ts done) r x m.may k) (entered_cases ship ts j r x h));
  each = every_push (WasTried ship ts cranes done (entered ship ts j r)) tried j (every_under (WasTried ship ts cranes done r) (WasTried ship ts cranes done (entered ship ts j r)) tried (λ x h. still_tried ship ts cranes done r j x room h) m.each) (inr (inl (in_entered ship ts j r)));
}

pub making_without : (ship : Ship) (ts : List Task) (cranes : ℕ) (done : List Bool) (tried r : List ℕ) (j : ℕ) → IsMaking ship ts cranes done tried r → WasTried ship ts cranes done r j → IsMaking ship ts cranes done (tried ++ j ∷ []) r
making_without ship ts cranes done tried r j m was = record { few = m.few; apart = m.apart; may = m.may; each = every_push (WasTried ship ts cranes done r) tried j m.each was }

pub near_in : (ship : Ship) (ts : List Task) (j : ℕ) (r : List ℕ) → Any (IsNear ship ts j) r → (i : ℕ) × In i r × IsNear ship ts j i
near_in ship ts j r (k, x, low, is, near) = (x, in_at r k x low is, near)

pub nothing_made : (ship : Ship) (ts : List Task) (cranes : ℕ) (done : List Bool) → IsMaking ship ts cranes done [] []
nothing_made ship ts cranes done = record { few = omega arith; apart = tt; may = tt; each = tt }
