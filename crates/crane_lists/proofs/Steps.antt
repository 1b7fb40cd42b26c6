-- Single steps of the sharing.
use Rattle.std.specs.Prelude.{◌≡◌, ◌≢◌, ◌⊎◌, ◌↔◌, ℕ, zero, suc, ◌+◌, ◌≤◌, ◌<◌, Bool, true, false, nat_le, List, [], ◌∷◌, ◌++◌, Option, Some, All, Contains, MatchBool, length, replicate, slice_get, slice_set, slice_index_or}
use Rattle.std.specs.List.Sorted.{IsPermutation}
use Rattle.std.proofs.Common.{refl, sym, ◌∙◌, ap, arith, subst, inl, inr, ⊎_elim, take, get_or-set_other, get_or-set_same}
use Rattle.std.proofs.lemmas.Bool.{cases_lt, cases_eq, leb-true, leb-false}
use Rattle.std.proofs.lemmas.List.{take_more}
use Rattle.std.proofs.lemmas.List.Elements.{All-push, All-weaker}
use Rattle.std.proofs.lemmas.List.Sorted.{All-permutation, Contains-permutation}
use Rattle.stow_data.specs.Ship.{Ship}
use Rattle.voyage_meaning.specs.declared.moves.Move.{Move}
use Rattle.crane_lists.specs.declared.tasks.Task.{Task}
use Rattle.crane_lists.specs.declared.rounds.Board.{Board}
use Rattle.crane_lists.specs.Tasks.{tasks_with}
use Rattle.crane_lists.specs.Rounds.{Every, EachPair, In, joined, IsRound, KeepOrder}
use Rattle.crane_lists.specs.Sharing.{HasAll, Holds, IsBoard, IsSettled, IsShared, LeftOut, MayGo, MayNotGo, is_set}
use Rattle.crane_lists.proofs.Orders.{in_cases, in_left, in_right}
use Rattle.crane_lists.proofs.Making.{in_at}
use Rattle.crane_lists.proofs.Further.{clash}

-- one place more
pub all_more : (n : ℕ) (xs ys : List ℕ) → HasAll n xs → ys ≡ xs ++ n ∷ [] → HasAll (n + 1) ys
all_more n xs ys all is = record {
  each = λ j lt. subst (In j) (sym is) (⊎_elim (λ (low : j < n). in_left xs (n ∷ []) j (all.each j low)) (λ (ge : n ≤ j). in_right xs (n ∷ []) j (inl (omega (arith, lt, ge)))) (cases_lt j n));
  inside = subst (All (λ j. j < n + 1)) (sym is) (All-push (λ (j : ℕ). j < n + 1) xs n (All-weaker (λ (j : ℕ). j < n) (λ (j : ℕ). j < n + 1) (λ j lt. omega (arith, lt)) xs all.inside) (omega arith));
}

in_contains : (xs : List ℕ) (x : ℕ) → In x xs → Contains xs x
in_contains [] x h = absurd h
in_contains (y ∷ ys) x (inl e) = (0, omega arith, sym e)
in_contains (y ∷ ys) x (inr h) = let rest = in_contains ys x h in let low = rest.1 in (suc rest.0, omega (arith, low), rest.2)

-- the same places in another order
pub all_permuted : (n : ℕ) (xs ys : List ℕ) → IsPermutation xs ys → HasAll n xs → HasAll n ys
all_permuted n xs ys moved all = record {
  each = λ j lt. let at = Contains-permutation xs ys j moved (in_contains xs j (all.each j lt)) in in_at ys at.0 j at.1 at.2;
  inside = All-permutation (λ (j : ℕ). j < n) xs ys moved all.inside;
}

-- one move more with what it lifts
tasks_next : (ms : List Move) (cs : List (Option ℕ)) (i : ℕ) (m : Move) (c : Option ℕ) → slice_get ms i ≡ Some m → slice_get cs i ≡ Some c → tasks_with (take i ms) (take i cs) ++ record { step = m; container = c } ∷ [] ≡ tasks_with (take (suc i) ms) (take (suc i) cs)
tasks_next [] cs i m c at too = cc
tasks_next (n ∷ ms) [] i m c at too = cc
tasks_next (n ∷ ms) (d ∷ cs) zero m c at too = cc
tasks_next (n ∷ ms) (d ∷ cs) (suc i) m c at too = ap (λ (ts : List Task). record { step = n; container = d } ∷ ts) (tasks_next ms cs i m c at too)

pub tasks_more : (ms : List Move) (cs : List (Option ℕ)) (i : ℕ) (m : Move) (c : Option ℕ) → slice_get ms i ≡ Some m → slice_get cs i ≡ Some c → tasks_with (take i ms) (take i cs) ++ record { step = m; container = c } ∷ [] ≡ tasks_with (take (i + 1) ms) (take (i + 1) cs)
tasks_more ms cs i m c at too = let e : suc i ≡ i + 1 = omega arith in tasks_next ms cs i m c at too ∙ ap (λ (n : ℕ). tasks_with (take n ms) (take n cs)) e

-- one flag more
pub mark_more : (start flags new : List Bool) (xs : List ℕ) (k x : ℕ) → k < length xs → x ≡ slice_index_or xs k 0 → x < length flags → ((i : ℕ) → (is_set flags i ≡ true) ↔ ((is_set start i ≡ true) ⊎ In i (take k xs))) → new ≡ slice_set flags x true → (i : ℕ) → (is_set new i ≡ true) ↔ ((is_set start i ≡ true) ⊎ In i (take (k + 1) xs))
mark_more start flags new xs k x low is inside marks e i =
    let more : take (k + 1) xs ≡ take k xs ++ x ∷ [] = take_more xs k 0 low ∙ ap (λ (z : ℕ). take k xs ++ z ∷ []) (sym is) in
    ⊎_elim
    (λ (same : i ≡ x). let set : is_set new i ≡ true = ap (λ (fs : List Bool). is_set fs i) e ∙ (ap (is_set (slice_set flags x true)) same ∙ get_or-set_same flags x true false inside) in
    (λ h. inr (subst (In i) (sym more) (in_right (take k xs) (x ∷ []) i (inl same))), λ h. set))
    (λ (ne : i ≡ x → ⊥). let kept : is_set new i ≡ is_set flags i = ap (λ (fs : List Bool). is_set fs i) e ∙ get_or-set_other flags x i true false ne in (
      λ h. ⊎_elim (λ s. inl s) (λ n. inr (subst (In i) (sym more) (in_left (take k xs) (x ∷ []) i n))) ((marks i).0 (sym kept ∙ h)),
      λ h. kept ∙ (marks i).1 (⊎_elim (λ s. inl s) (λ n. inr (⊎_elim (λ a. a) (λ b. ⊎_elim (λ (same : i ≡ x). absurd (ne same)) (λ (never : ⊥). absurd never) b) (in_cases (take k xs) (x ∷ []) i (subst (In i) more n)))) h),
    ))
    (cases_eq i x)

-- whether a task may go, by the first that holds it up
pub go_answer : (ship : Ship) (ts : List Task) (done : List Bool) (j first : ℕ) → j < length ts → is_set done j ≡ false → first ≤ j → ((i : ℕ) → i < first → IsSettled ship ts done i j) → (first < j → Holds ship ts done first j) → MatchBool (nat_le j first) (MayGo ship ts done j) (MayNotGo ship ts done j)
go_answer ship ts done j first inside waits low settled holds = by (nat_le j first) refl
  where
    by : (b : Bool) → nat_le j first ≡ b → MatchBool b (MayGo ship ts done j) (MayNotGo ship ts done j)
    by true e = let le = leb-true j first e in record { inside = inside; waits = waits; settled = λ i lt. settled i (omega (arith, lt, le)) }
    by false e = let lt = leb-false j first e in inr (first, record { before = lt; holds = holds lt })

read_set : (xs : List ℕ) (i j x n : ℕ) → slice_get (slice_set xs i x) j ≡ Some n → ((j ≡ i) × (n ≡ x)) ⊎ (slice_get xs j ≡ Some n)
read_set [] i j x n h = inr h
read_set (y ∷ ys) zero zero x n h = inl (refl, cc)
read_set (y ∷ ys) zero (suc j) x n h = inr h
read_set (y ∷ ys) (suc i) zero x n h = inr h
read_set (y ∷ ys) (suc i) (suc j) x n h = ⊎_elim (λ same. inl (ap suc same.0, same.1)) (λ k. inr k) (read_set ys i j x n h)

set_length : (xs : List ℕ) (i x : ℕ) → length (slice_set xs i x) ≡ length xs
set_length [] i x = refl
set_length (y ∷ ys) zero x = refl
set_length (y ∷ ys) (suc i) x = ap suc (set_length ys i x)

pub board_set : (ship : Ship) (ts : List Task) (done : List Bool) (clear_to new : List ℕ) (j first : ℕ) → IsBoard ship ts done clear_to → first ≤ j → ((i : ℕ) → i < first → IsSettled ship ts done i j) → new ≡ slice_set clear_to j first → IsBoard ship ts done new
board_set ship ts done clear_to new j first b low settled is = record {
  each_flag = b.each_flag;
  each_number = ap length is ∙ (set_length clear_to j first ∙ b.each_number);
  inside = λ k n at. ⊎_elim (λ same. let here = same.0 in let value = same.1 in omega (arith, here, value, low)) (λ was. b.inside k n was) (read_set clear_to j k first n (ap (λ (xs : List ℕ). slice_get xs k) (sym is) ∙ at));
  settled = λ k n i at lt. ⊎_elim (λ same. subst (IsSettled ship ts done i) (sym same.0) (settled i (subst (λ (m : ℕ). i < m) same.1 lt))) (λ was. b.settled k n i was lt) (read_set clear_to j k first n (ap (λ (xs : List ℕ). slice_get xs k) (sym is) ∙ at));
}

none_set : (n i : ℕ) → is_set (replicate n false) i ≡ false
none_set zero i = refl
none_set (suc n) zero = refl
none_set (suc n) (suc i) = none_set n i

zero_read : (n j k : ℕ) → slice_get (replicate n 0) j ≡ Some k → k ≡ 0
zero_read zero j k h = cc
zero_read (suc n) zero k h = cc
zero_read (suc n) (suc j) k h = zero_read n j k h

as_many : {X : Type 0} (n : ℕ) (x : X) → length (replicate n x) ≡ n
as_many zero x = refl
as_many (suc n) x = ap suc (as_many n x)

-- before the first round
pub begun : (ship : Ship) (ts : List Task) (cranes : ℕ) (b : Board) → b.rounds ≡ [] → b.done ≡ replicate (length ts) false → b.clear_to ≡ replicate (length ts) 0 → IsShared ship ts cranes b
begun ship ts cranes b empty none zeros =
    let unset = (λ (i : ℕ). ap (λ (fs : List Bool). is_set fs i) none ∙ none_set (length ts) i) in
    let nought = (λ (j n : ℕ) (at : slice_get b.clear_to j ≡ Some n). zero_read (length ts) j n (ap (λ (xs : List ℕ). slice_get xs j) (sym zeros) ∙ at)) in
    record {
      board = record { each_flag = ap length none ∙ as_many (length ts) false; each_number = ap length zeros ∙ as_many (length ts) 0; inside = λ j n at. let z = nought j n at in omega (arith, z); settled = λ j n i at lt. let z = nought j n at in absurd (omega (arith, z, lt)) };
      each = λ i. (λ set. clash (is_set b.done i) set (unset i), λ h. absurd (no_item b.rounds empty i h));
      once = subst (λ (rs : List (List ℕ)). EachPair (λ i j. i ≢ j) (joined rs)) (sym empty) tt;
      shared = subst (Every (IsRound ship ts cranes)) (sym empty) tt;
      in_order = subst (EachPair (KeepOrder ship ts)) (sym empty) tt;
      closed = λ i j set lt. clash (is_set b.done j) set (unset j);
      left_out = subst (LeftOut ship ts cranes []) (sym empty) tt;
    }
  where
    no_item : (rs : List (List ℕ)) → rs ≡ [] → (i : ℕ) → In i (joined rs) → ⊥
    no_item rs e i h = subst (λ (qs : List (List ℕ)). In i (joined qs)) e h
