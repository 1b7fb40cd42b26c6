-- A round more keeps what the rounds so far have.
use Rattle.std.specs.Prelude.{◌≡◌, ◌≢◌, ◌⊎◌, ◌↔◌, ℕ, zero, suc, ◌≤◌, ◌<◌, Bool, true, false, cond, List, [], ◌∷◌, ◌++◌, All, length}
use Rattle.std.proofs.Common.{refl, sym, ◌∙◌, ap, arith, subst, inl, inr, ⊎_elim, append_assoc, append-nil}
use Rattle.std.proofs.lemmas.Bool.{cases_lt}
use Rattle.std.proofs.lemmas.List.Elements.{All-cons, All-nil}
use Rattle.stow_data.specs.Ship.{Ship}
use Rattle.crane_lists.specs.declared.tasks.Task.{Task}
use Rattle.crane_lists.specs.declared.rounds.Board.{Board}
use Rattle.crane_lists.specs.Tasks.{AreIndependent}
use Rattle.crane_lists.specs.Rounds.{Every, EachPair, In, joined, task_at, bay_at, HasCause, IsRound, KeepOrder}
use Rattle.crane_lists.specs.Sharing.{HasAll, IsBoard, IsFurther, IsMaking, IsSettled, IsShared, LeftOut, MayGo, WasTried, is_set, left}
use Rattle.crane_lists.proofs.Commuting.{swapped_sides}
use Rattle.crane_lists.proofs.Orders.{every_in, in_left, in_right, in_cases, pairs_joined}
use Rattle.crane_lists.proofs.Shared.{pairs_from}
use Rattle.crane_lists.proofs.Bounding.{every_under}
use Rattle.crane_lists.proofs.Making.{Rises, every_push}

pub clash : {A : Type 0} (b : Bool) → b ≡ true → b ≡ false → A
clash true t f = cc
clash false t f = cc

-- the first flag that isn't set, if there is one
pub record IsFirstLeft (flags : List Bool) (f : ℕ) : Type 0 where
  pub inside : f < length flags
  pub waits : is_set flags f ≡ false
  pub before : (i : ℕ) → i < f → is_set flags i ≡ true

before_more : (bs : List Bool) (f : ℕ) → ((i : ℕ) → i < f → is_set bs i ≡ true) → (i : ℕ) → i < suc f → is_set (true ∷ bs) i ≡ true
before_more bs f h zero lt = refl
before_more bs f h (suc i) lt = h i (omega (arith, lt))

pub first_left : (flags : List Bool) → All (λ b. b ≡ true) flags ⊎ ((f : ℕ) × IsFirstLeft flags f)
first_left [] = inl (All-nil (λ b. b ≡ true))
first_left (false ∷ bs) = inr (0, record { inside = omega arith; waits = refl; before = λ i lt. absurd (omega (arith, lt)) })
first_left (true ∷ bs) = ⊎_elim (λ all. inl (All-cons (λ b. b ≡ true) true bs refl all))
    (λ some. let at = some.1.inside in inr (suc some.0, record { inside = omega (arith, at); waits = some.1.waits; before = before_more bs some.0 some.1.before }))
    (first_left bs)

-- fewer flags are left where one more is set
left_kept : (xs ys : List Bool) → length xs ≡ length ys → ((i : ℕ) → is_set xs i ≡ true → is_set ys i ≡ true) → left ys ≤ left xs
left_kept [] [] e h = omega arith
left_kept [] (y ∷ ys) e h = absurd (omega (arith, e))
left_kept (x ∷ xs) [] e h = absurd (omega (arith, e))
left_kept (x ∷ xs) (y ∷ ys) e h = head_kept x y (left xs) (left ys) (h 0) (left_kept xs ys (omega (arith, e)) (λ i. h (suc i)))
  where
    head_kept : (x y : Bool) (m n : ℕ) → (x ≡ true → y ≡ true) → n ≤ m → cond y n (suc n) ≤ cond x m (suc m)
    head_kept true true m n to le = omega (arith, le)
    head_kept true false m n to le = clash false (to refl) refl
    head_kept false true m n to le = omega (arith, le)
    head_kept false false m n to le = omega (arith, le)

head_fewer : (x y : Bool) (m n : ℕ) → (x ≡ true → y ≡ true) → n < m → cond y n (suc n) < cond x m (suc m)
head_fewer true true m n to lt = omega (arith, lt)
head_fewer true false m n to lt = clash false (to refl) refl
head_fewer false true m n to lt = omega (arith, lt)
head_fewer false false m n to lt = omega (arith, lt)

one_fewer : (x y : Bool) (m n : ℕ) → x ≡ false → y ≡ true → n ≤ m → cond y n (suc n) < cond x m (suc m)
one_fewer true y m n e f le = clash true refl e
one_fewer false false m n e f le = clash false f refl
one_fewer false true m n e f le = omega (arith, le)

left_fewer : (xs ys : List Bool) (f : ℕ) → length xs ≡ length ys → ((i : ℕ) → is_set xs i ≡ true → is_set ys i ≡ true) → f < length xs → is_set xs f ≡ false → is_set ys f ≡ true → left ys < left xs
left_fewer [] ys f e h low was is = absurd (omega (arith, low))
left_fewer (x ∷ xs) [] f e h low was is = absurd (omega (arith, e))
left_fewer (x ∷ xs) (y ∷ ys) zero e h low was is = one_fewer x y (left xs) (left ys) was is (left_kept xs ys (omega (arith, e)) (λ i. h (suc i)))
left_fewer (x ∷ xs) (y ∷ ys) (suc f) e h low was is = head_fewer x y (left xs) (left ys) (h 0) (left_fewer xs ys f (omega (arith, e)) (λ i. h (suc i)) (omega (arith, low)) was is)

-- lists that are joined, with one more
pub joined_push : (rs : List (List ℕ)) (r : List ℕ) → joined (rs ++ r ∷ []) ≡ joined rs ++ r
joined_push [] r = append-nil r
joined_push (q ∷ qs) r = ap (λ (xs : List ℕ). q ++ xs) (joined_push qs r) ∙ sym (append_assoc q (joined qs) r)

in_joined : (rs : List (List ℕ)) (r : List ℕ) (i : ℕ) → In r rs → In i r → In i (joined rs)
in_joined [] r i h k = absurd h
in_joined (q ∷ qs) r i (inl e) k = in_left q (joined qs) i (subst (In i) e k)
in_joined (q ∷ qs) r i (inr h) k = in_right q (joined qs) i (in_joined qs r i h k)

pairs_push : {X : Type 0} (R : X → X → Type 0) (xs : List X) (x : X) → EachPair R xs → ((y : X) → In y xs → R y x) → EachPair R (xs ++ x ∷ [])
pairs_push R xs x pairs h = pairs_joined R xs (x ∷ []) pairs (tt, tt) (λ y z i j. ⊎_elim (λ (e : z ≡ x). subst (R y) (sym e) (h y i)) (λ (never : ⊥). absurd never) j)

pairs_under : {X : Type 0} (R S : X → X → Type 0) (xs : List X) → ((x y : X) → R x y → S x y) → EachPair R xs → EachPair S xs
pairs_under R S [] go h = tt
pairs_under R S (x ∷ xs) go h = (every_under (R x) (S x) xs (go x) h.0, pairs_under R S xs go h.1)

left_out_push : (ship : Ship) (ts : List Task) (cranes : ℕ) (done : List ℕ) (rs : List (List ℕ)) (r : List ℕ) → LeftOut ship ts cranes done rs
    → ((j : ℕ) → j < length ts → (In j (done ++ joined rs) → ⊥) → (In j r → ⊥) → HasCause ship ts cranes (done ++ joined rs) r j) → LeftOut ship ts cranes done (rs ++ r ∷ [])
left_out_push ship ts cranes done [] r out h = (subst (λ (d : List ℕ). (j : ℕ) → j < length ts → (In j d → ⊥) → (In j r → ⊥) → HasCause ship ts cranes d r j) (append-nil done) h, tt)
left_out_push ship ts cranes done (q ∷ qs) r out h = (out.0, left_out_push ship ts cranes (done ++ q) qs r out.1 (subst (λ (d : List ℕ). (j : ℕ) → j < length ts → (In j d → ⊥) → (In j r → ⊥) → HasCause ship ts cranes d r j) (sym (append_assoc done q (joined qs))) h))

-- what is known where a round is added
pub record Adds (ship : Ship) (ts : List Task) (cranes : ℕ) (order round : List ℕ) (old new : Board) : Type 0 where
  pub some_crane : 1 ≤ cranes
  pub all : HasAll (length ts) order
  pub so_far : IsShared ship ts cranes old
  pub making : IsMaking ship ts cranes old.done order round
  pub marks : (i : ℕ) → (is_set new.done i ≡ true) ↔ ((is_set old.done i ≡ true) ⊎ In i round)
  pub same_length : length new.done ≡ length old.done
  pub rounds : new.rounds ≡ old.rounds ++ round ∷ []
  pub board : IsBoard ship ts old.done new.clear_to

Free : Ship → List Task → ℕ → ℕ → Type 0
Free ship ts i j = AreIndependent ship (task_at ts i) (task_at ts j)

both_go : (ship : Ship) (ts : List Task) (done : List Bool) (a b : ℕ) → MayGo ship ts done a → MayGo ship ts done b → a < b → Free ship ts a b
unfolding Free
both_go ship ts done a b go to lt = ⊎_elim (λ (i : AreIndependent ship (task_at ts a) (task_at ts b)). i) (λ (set : is_set done a ≡ true). clash (is_set done a) set go.waits) (to.settled a lt)

made_free : (ship : Ship) (ts : List Task) (done : List Bool) (r : List ℕ) → EachPair (Rises ship ts) r → Every (MayGo ship ts done) r → EachPair (λ i j. AreIndependent ship (task_at ts i) (task_at ts j)) r
unfolding Free
made_free ship ts done r apart may = pairs_from (Free ship ts) r (pairs_under (Rises ship ts) (λ i j. i ≢ j) r (λ i j up e. let same : bay_at ship ts i ≡ bay_at ship ts j = ap (bay_at ship ts) e in omega (arith, up, same)) apart)
    (λ a b i j ne. let go = every_in (MayGo ship ts done) r a may i in let to = every_in (MayGo ship ts done) r b may j in
    ⊎_elim (λ (lt : a < b). both_go ship ts done a b go to lt)
    (λ (ge : b ≤ a). swapped_sides ship (task_at ts b) (task_at ts a) (both_go ship ts done b a to go (under a b ge ne)))
    (cases_lt a b))
  where
    under : (a b : ℕ) → b ≤ a → (a ≡ b → ⊥) → b < a
    under a b ge ne = ⊎_elim (λ (lt : b < a). lt) (λ (le : a ≤ b). absurd (ne (omega (arith, ge, le)))) (cases_lt b a)

in_some : (i : ℕ) (r : List ℕ) → In i r → 1 ≤ length r
in_some i [] h = absurd h
in_some i (x ∷ xs) h = omega arith

some_in : (r : List ℕ) → 1 ≤ length r → (x : ℕ) × In x r
some_in [] h = absurd (omega (arith, h))
some_in (x ∷ xs) h = (x, inl refl)

-- the first task that is left isn't kept out of an empty round
first_in : (ship : Ship) (ts : List Task) (cranes : ℕ) (done : List Bool) (r : List ℕ) (f : ℕ) → 1 ≤ cranes → IsFirstLeft done f → WasTried ship ts cranes done r f → 1 ≤ length r
first_in ship ts cranes done r f one is (inl (inl set)) = clash (is_set done f) set is.waits
first_in ship ts cranes done r f one is (inl (inr held)) = clash (is_set done held.0) (is.before held.0 held.1.before) held.1.holds.waits
first_in ship ts cranes done r f one is (inr (inl h)) = in_some f r h
first_in ship ts cranes done r f one is (inr (inr (inl full))) = omega (arith, one, full)
first_in ship ts cranes done r f one is (inr (inr (inr near))) = in_some near.0 r near.1

-- why a task that was tried and isn't in the round isn't
cause : (ship : Ship) (ts : List Task) (cranes : ℕ) (done : List Bool) (before r : List ℕ) (j : ℕ) → ((i : ℕ) → (is_set done i ≡ true) ↔ In i before) → length r ≤ cranes → (In j before → ⊥) → (In j r → ⊥) → WasTried ship ts cranes done r j → HasCause ship ts cranes before r j
cause ship ts cranes done before r j each few out away (inl (inl set)) = absurd (out ((each j).0 set))
cause ship ts cranes done before r j each few out away (inl (inr held)) = inl (held.0, held.1.before, held.1.holds.hangs, λ i. clash (is_set done held.0) ((each held.0).1 i) held.1.holds.waits)
cause ship ts cranes done before r j each few out away (inr (inl h)) = absurd (away h)
cause ship ts cranes done before r j each few out away (inr (inr (inl full))) = inr (inl (omega (arith, few, full)))
cause ship ts cranes done before r j each few out away (inr (inr (inr near))) = inr (inr (near.0, near.1, near.2.below, near.2.above))

settled_more : (ship : Ship) (ts : List Task) (done new : List Bool) (i j : ℕ) → (is_set done i ≡ true → is_set new i ≡ true) → IsSettled ship ts done i j → IsSettled ship ts new i j
settled_more ship ts done new i j to (inl free) = inl free
settled_more ship ts done new i j to (inr set) = inr (to set)

keeps_order : (ship : Ship) (ts : List Task) (done : List Bool) (i j : ℕ) → ((i j : ℕ) → is_set done j ≡ true → i < j → IsSettled ship ts done i j) → is_set done i ≡ true → MayGo ship ts done j → (AreIndependent ship (task_at ts i) (task_at ts j) → ⊥) → i < j
keeps_order ship ts done i j closed set go hangs = ⊎_elim (λ (lt : i < j). lt) (λ (ge : j ≤ i). absurd (⊎_elim
    (λ (lt : j < i). ⊎_elim (λ (free : AreIndependent ship (task_at ts j) (task_at ts i)). hangs (swapped_sides ship (task_at ts j) (task_at ts i) free)) (λ (too : is_set done j ≡ true). clash (is_set done j) too go.waits) (closed j i set lt))
    (λ (le : i ≤ j). let same : i ≡ j = omega (arith, ge, le) in clash (is_set done j) (subst (λ (n : ℕ). is_set done n ≡ true) same set) go.waits)
    (cases_lt j i))) (cases_lt i j)

pub further : (ship : Ship) (ts : List Task) (cranes : ℕ) (order round : List ℕ) (old new : Board) → Adds ship ts cranes order round old new → (All (λ b. b ≡ true) old.done → ⊥) → IsFurther ship ts cranes old new
further ship ts cranes order round old new adds some = ⊎_elim (λ all. absurd (some all)) (λ first. go first.0 first.1) (first_left old.done)
  where
    go : (f : ℕ) → IsFirstLeft old.done f → IsFurther ship ts cranes old new
    go f is =
        let so = adds.so_far in
        let m = adds.making in
        let all : joined new.rounds ≡ joined old.rounds ++ round = ap joined adds.rounds ∙ joined_push old.rounds round in
        let to = (λ (i : ℕ) (set : is_set old.done i ≡ true). (adds.marks i).1 (inl set)) in
        let low : f < length ts = subst (λ (n : ℕ). f < n) so.board.each_flag is.inside in
        let tried = (λ (j : ℕ) (h : j < length ts). every_in (WasTried ship ts cranes old.done round) order j m.each (adds.all.each j h)) in
        let goes = (λ (j : ℕ) (h : In j round). every_in (MayGo ship ts old.done) round j m.may h) in
        let one : 1 ≤ length round = first_in ship ts cranes old.done round f adds.some_crane is (tried f low) in
        record {
          is_shared = record {
            board = record {
              each_flag = adds.same_length ∙ so.board.each_flag;
              each_number = adds.board.each_number;
              inside = adds.board.inside;
              settled = λ j n i at lt. settled_more ship ts old.done new.done i j (to i) (adds.board.settled j n i at lt);
            };
            each = λ i. (
              λ set. subst (In i) (sym all) (⊎_elim (λ was. in_left (joined old.rounds) round i ((so.each i).0 was)) (λ h. in_right (joined old.rounds) round i h) ((adds.marks i).0 set)),
              λ h. (adds.marks i).1 (⊎_elim (λ was. inl ((so.each i).1 was)) (λ k. inr k) (in_cases (joined old.rounds) round i (subst (In i) all h))),
            );
            once = subst (EachPair (λ i j. i ≢ j)) (sym all) (pairs_joined (λ i j. i ≢ j) (joined old.rounds) round so.once
                (pairs_under (Rises ship ts) (λ i j. i ≢ j) round (λ i j up e. let same : bay_at ship ts i ≡ bay_at ship ts j = ap (bay_at ship ts) e in omega (arith, up, same)) m.apart)
                (λ i j h k e. clash (is_set old.done j) ((so.each j).1 (subst (λ (n : ℕ). In n (joined old.rounds)) e h)) (goes j k).waits));
            shared = subst (Every (IsRound ship ts cranes)) (sym adds.rounds) (every_push (IsRound ship ts cranes) old.rounds round so.shared (record { some = one; few = m.few; apart = m.apart; free = made_free ship ts old.done round m.apart m.may }));
            in_order = subst (EachPair (KeepOrder ship ts)) (sym adds.rounds) (pairs_push (KeepOrder ship ts) old.rounds round so.in_order
                (λ r h i j in_r in_round hangs. keeps_order ship ts old.done i j so.closed ((so.each i).1 (in_joined old.rounds r i h in_r)) (goes j in_round) hangs));
            closed = λ i j set lt. settled_more ship ts old.done new.done i j (to i) (⊎_elim (λ was. so.closed i j was lt) (λ h. (goes j h).settled i lt) ((adds.marks j).0 set));
            left_out = subst (LeftOut ship ts cranes []) (sym adds.rounds) (left_out_push ship ts cranes [] old.rounds round so.left_out
                (λ j h out away. cause ship ts cranes old.done (joined old.rounds) round j so.each m.few out away (tried j h)));
          };
          fewer = let x = some_in round one in left_fewer old.done new.done x.0 (sym adds.same_length) to (subst (λ (n : ℕ). x.0 < n) (sym so.board.each_flag) (goes x.0 x.1).inside) (goes x.0 x.1).waits ((adds.marks x.0).1 (inr x.1));
        }
