-- Each crane list has room for its tasks.
use Rattle.std.specs.Prelude.{◌≡◌, ◌≢◌, ◌⊎◌, ℕ, zero, suc, ◌+◌, ◌*◌, ◌≤◌, ◌<◌, Bool, true, false, cond, nat_le, List, [], ◌∷◌, ◌++◌, length}
use Rattle.std.proofs.Common.{refl, sym, ◌∙◌, ap, arith, subst, inl, inr, ⊎_elim}
use Rattle.std.proofs.lemmas.Bool.{leb-true, and_parts}
use Rattle.stow_data.specs.Ship.{Ship}
use Rattle.crane_lists.specs.declared.tasks.Task.{Task}
use Rattle.crane_lists.specs.Tasks.{moves_in}
use Rattle.crane_lists.specs.Bays.{bay_of_move}
use Rattle.crane_lists.specs.Rounds.{Every, EachPair, In, joined, task_at, bay_at, IsRound, IsCraneList}
use Rattle.crane_lists.specs.Least.{is_in_window, window_count, HasRoom, IsLeastRounds}
use Rattle.crane_lists.proofs.Orders.{every_in, every_from, in_left, in_right, in_cases, parted, numbers_from, number_low}

abbrev pub total : (ℕ → ℕ) → List ℕ → ℕ
total f [] = 0
total f (x ∷ xs) = f x + total f xs

total_joined : (f : ℕ → ℕ) (xs ys : List ℕ) → total f (xs ++ ys) ≡ total f xs + total f ys
total_joined f [] ys = omega arith
total_joined f (x ∷ xs) ys = omega (arith, total_joined f xs ys)

total_part : (f : ℕ → ℕ) (before : List ℕ) (x : ℕ) (behind : List ℕ) → total f (before ++ x ∷ behind) ≡ f x + total f (before ++ behind)
total_part f [] x behind = refl
total_part f (y ∷ ys) x behind = omega (arith, total_part f ys x behind)

-- items that differ, all of them among others, come to no more
pub total_among : (f : ℕ → ℕ) (xs ys : List ℕ) → EachPair (λ i j. i ≢ j) xs → ((i : ℕ) → In i xs → In i ys) → total f xs ≤ total f ys
total_among f [] ys once to = omega arith
total_among f (x ∷ xs) ys once to =
    let parts = parted ys x (to x (inl refl)) in
    let rest : total f xs ≤ total f (parts.0 ++ parts.1) = total_among f xs (parts.0 ++ parts.1) once.1 (λ i h.
    ⊎_elim (λ j. in_left parts.0 parts.1 i j)
    (λ j. ⊎_elim (λ (same : i ≡ x). absurd (every_in (λ c. x ≢ c) xs i once.0 h (sym same))) (λ k. in_right parts.0 parts.1 i k) j)
    (in_cases parts.0 (x ∷ parts.1) i (subst (In i) parts.2 (to i (inr h))))) in
    let whole : total f ys ≡ f x + total f (parts.0 ++ parts.1) = ap (total f) parts.2 ∙ total_part f parts.0 x parts.1 in
    omega (arith, rest, whole)

total_small : (f : ℕ → ℕ) (n : ℕ) (rounds : List (List ℕ)) → Every (λ r. total f r ≤ n) rounds → total f (joined rounds) ≤ n * length rounds
total_small f n [] h = omega arith
total_small f n (r ∷ rs) h = omega (arith, h.0, total_small f n rs h.1, total_joined f r (joined rs))

total_zero : (f : ℕ → ℕ) (xs : List ℕ) → Every (λ x. f x ≡ 0) xs → total f xs ≡ 0
total_zero f [] h = refl
total_zero f (x ∷ xs) h = omega (arith, h.0, total_zero f xs h.1)

total_ones : (xs : List ℕ) → total (λ x. 1) xs ≡ length xs
total_ones [] = refl
total_ones (x ∷ xs) = omega (arith, total_ones xs)

pub every_under : {X : Type 0} (P Q : X → Type 0) (xs : List X) → ((x : X) → P x → Q x) → Every P xs → Every Q xs
every_under P Q [] go h = tt
every_under P Q (x ∷ xs) go h = (go x h.0, every_under P Q xs go h.1)

numbers_once : {X : Type 0} (xs : List X) (k : ℕ) → EachPair (λ i j. i ≢ j) (numbers_from k xs)
numbers_once [] k = tt
numbers_once (x ∷ xs) k = (every_from (λ j. k ≢ j) (numbers_from (suc k) xs) (λ j i e. let low = number_low xs (suc k) j i in let l = low.0 in omega (arith, l, e)), numbers_once xs (suc k))

moves_each : (ts : List Task) → length (moves_in ts) ≡ length ts
moves_each [] = refl
moves_each (t ∷ ts) = omega (arith, moves_each ts)

-- 1 where the task at a place is in the window
abbrev pub mark : Ship → ℕ → Task → ℕ
mark ship b t = cond (is_in_window ship b t.step) 1 0

window_total : (ship : Ship) (b : ℕ) (ts : List Task) (k : ℕ) (f : ℕ → ℕ) → ((i : ℕ) → i < length ts → f (k + i) ≡ mark ship b (task_at ts i)) → total f (numbers_from k ts) ≡ window_count ship b (moves_in ts)
window_total ship b [] k f h = refl
window_total ship b (t ∷ ts) k f h =
    let head : f k ≡ mark ship b t = ap f (omega arith) ∙ h 0 (omega arith) in
    let tail : total f (numbers_from (suc k) ts) ≡ window_count ship b (moves_in ts) = window_total ship b ts (suc k) f (λ i lt. ap f (omega arith) ∙ h (suc i) (omega (arith, lt))) in
    omega (arith, head, tail)

length_total : (ts : List Task) (k : ℕ) → total (λ x. 1) (numbers_from k ts) ≡ length ts
length_total [] k = refl
length_total (t ∷ ts) k = omega (arith, length_total ts (suc k))

abbrev IsMarked : Ship → ℕ → Task → Bool → Type 0
IsMarked ship b t w = (cond w 1 0 ≡ zero) ⊎ ((cond w 1 0 ≡ suc zero) × (b ≤ bay_of_move ship t.step) × (bay_of_move ship t.step ≤ b + 7))

mark_one : (ship : Ship) (b : ℕ) (t : Task) → IsMarked ship b t (is_in_window ship b t.step)
mark_one ship b t = by (is_in_window ship b t.step) refl
  where
    by : (w : Bool) → is_in_window ship b t.step ≡ w → IsMarked ship b t w
    by true e = let parts = and_parts (nat_le b (bay_of_move ship t.step)) (nat_le (bay_of_move ship t.step) (b + 7)) e in inr (refl, leb-true b (bay_of_move ship t.step) parts.0, leb-true (bay_of_move ship t.step) (b + 7) parts.1)
    by false e = inl refl

-- in a round at most one is in the window
one_a_round : (ship : Ship) (ts : List Task) (b : ℕ) (r : List ℕ) → EachPair (λ i j. bay_at ship ts i + 8 ≤ bay_at ship ts j) r → total (λ i. mark ship b (task_at ts i)) r ≤ 1
one_a_round ship ts b [] apart = omega arith
one_a_round ship ts b (x ∷ xs) apart = ⊎_elim
    (λ (z : mark ship b (task_at ts x) ≡ 0). omega (arith, z, one_a_round ship ts b xs apart.1))
    (λ one. let from = one.1 in
    let e = one.0 in
    let none : total (λ i. mark ship b (task_at ts i)) xs ≡ 0 = total_zero (λ i. mark ship b (task_at ts i)) xs (every_under (λ j. bay_at ship ts x + 8 ≤ bay_at ship ts j) (λ j. mark ship b (task_at ts j) ≡ 0) xs
    (λ j far. ⊎_elim (λ (z : mark ship b (task_at ts j) ≡ 0). z) (λ two. let to = two.2 in absurd (omega (arith, far, from, to))) (mark_one ship b (task_at ts j))) apart.0) in
    omega (arith, e, none))
    (mark_one ship b (task_at ts x))

pub room : (ship : Ship) (ts : List Task) (cranes : ℕ) (rounds : List (List ℕ)) → IsCraneList ship ts cranes rounds → HasRoom ship (moves_in ts) cranes (length rounds)
room ship ts cranes rounds list = record {
  by_number = let a : total (λ x. 1) (numbers_from 0 ts) ≤ total (λ x. 1) (joined rounds) = among (λ x. 1) in
      let c : total (λ x. 1) (joined rounds) ≤ cranes * length rounds = total_small (λ x. 1) cranes rounds (every_under (IsRound ship ts cranes) (λ r. total (λ x. 1) r ≤ cranes) rounds (λ r is. omega (arith, total_ones r, is.few)) list.shared) in
      omega (arith, a, c, length_total ts 0, moves_each ts);
  by_window = λ b.
      let a : total (λ i. mark ship b (task_at ts i)) (numbers_from 0 ts) ≤ total (λ i. mark ship b (task_at ts i)) (joined rounds) = among (λ i. mark ship b (task_at ts i)) in
      let c : total (λ i. mark ship b (task_at ts i)) (joined rounds) ≤ 1 * length rounds = total_small (λ i. mark ship b (task_at ts i)) 1 rounds (every_under (IsRound ship ts cranes) (λ r. total (λ i. mark ship b (task_at ts i)) r ≤ 1) rounds (λ r is. one_a_round ship ts b r is.apart) list.shared) in
      let d : total (λ i. mark ship b (task_at ts i)) (numbers_from 0 ts) ≡ window_count ship b (moves_in ts) = window_total ship b ts 0 (λ i. mark ship b (task_at ts i)) (λ i lt. ap (λ (n : ℕ). mark ship b (task_at ts n)) (omega arith)) in
      omega (arith, a, c, d);
}
  where
    among : (f : ℕ → ℕ) → total f (numbers_from 0 ts) ≤ total f (joined rounds)
    among f = total_among f (numbers_from 0 ts) (joined rounds) (numbers_once ts 0) (λ i h. (list.each i).0 (let low = number_low ts 0 i h in let l = low.1 in omega (arith, l)))

pub least_bounds : (ship : Ship) (ts : List Task) (cranes : ℕ) (rounds : List (List ℕ)) (least : ℕ) → IsLeastRounds ship (moves_in ts) cranes least → IsCraneList ship ts cranes rounds → least ≤ length rounds
least_bounds ship ts cranes rounds least is list = is.is_least (length rounds) (room ship ts cranes rounds list)
