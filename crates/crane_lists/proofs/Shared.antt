-- A crane list keeps what its tasks do.
use Rattle.std.specs.Prelude.{◌≡◌, ◌≢◌, ◌⊎◌, ℕ, ◌<◌, List, [], ◌∷◌, map}
use Rattle.std.proofs.Common.{refl, sym, ◌∙◌, ap, arith, subst, inl, inr, ⊎_elim}
use Rattle.stow_data.specs.Ship.{Ship}
use Rattle.stow_data.specs.Shipment.{Cargo}
use Rattle.voyage_meaning.specs.Moves.{State}
use Rattle.crane_lists.specs.declared.tasks.Task.{Task}
use Rattle.crane_lists.specs.Tasks.{AreIndependent, CanDoAll}
use Rattle.crane_lists.specs.Rounds.{Every, EachPair, In, joined, task_at, KeepOrder, IsOrderOf, picked, IsRound, IsCraneList, IsSameWork}
use Rattle.crane_lists.proofs.Commuting.{swapped_sides}
use Rattle.crane_lists.proofs.Rearranging.{Rearranges, rearranged}
use Rattle.crane_lists.proofs.Orders.{every_in, every_from, in_left, in_right, in_cases, pairs_joined, pairs_right, pairs_across, KeepsTo, ordered, numbers_from, number_low, number_in, numbers_rise, numbers_give}

-- what isn't dependent is independent: all that is asked is that something isn't so
pub stable : (ship : Ship) (t u : Task) → ((AreIndependent ship t u → ⊥) → ⊥) → AreIndependent ship t u
stable ship t u h = record {
  no_stack = λ s a b. h (λ i. i.no_stack s a b);
  no_container = λ c a b. h (λ i. i.no_container c a b);
  no_cover = λ k a b. h (λ i. i.no_cover k a b);
}

-- an order of rounds has what the rounds have
pub order_has : (rounds : List (List ℕ)) (order : List ℕ) → IsOrderOf rounds order → (i : ℕ) → In i (joined rounds) → In i order
order_has [] order e i h = absurd h
order_has (r ∷ rs) order (now, later, e, re, rest) i h = subst (In i) (sym e) (⊎_elim (λ a. in_left now later i ((re.same i).0 a)) (λ b. in_right now later i (order_has rs later rest i b)) (in_cases r (joined rs) i h))

pub order_from : (rounds : List (List ℕ)) (order : List ℕ) → IsOrderOf rounds order → (i : ℕ) → In i order → In i (joined rounds)
order_from [] order e i h = subst (In i) e h
order_from (r ∷ rs) order (now, later, e, re, rest) i h = ⊎_elim (λ a. in_left r (joined rs) i ((re.same i).1 a)) (λ b. in_right r (joined rs) i (order_from rs later rest i b)) (in_cases now later i (subst (In i) e h))

pub order_once : (rounds : List (List ℕ)) (order : List ℕ) → EachPair (λ i j. i ≢ j) (joined rounds) → IsOrderOf rounds order → EachPair (λ i j. i ≢ j) order
order_once [] order once e = subst (EachPair (λ i j. i ≢ j)) (sym e) tt
order_once (r ∷ rs) order once (now, later, e, re, rest) = subst (EachPair (λ i j. i ≢ j)) (sym e) (pairs_joined (λ i j. i ≢ j) now later re.once (order_once rs later (pairs_right (λ i j. i ≢ j) r (joined rs) once) rest)
    (λ i j a b. pairs_across (λ i j. i ≢ j) r (joined rs) once i j ((re.same i).1 a) (order_from rs later rest j b)))

-- an item of all rounds is in one of them
in_round : (P : List ℕ → Type 0) (Q : ℕ → Type 0) (rounds : List (List ℕ)) → Every P rounds → ((q : List ℕ) (j : ℕ) → P q → In j q → Q j) → (j : ℕ) → In j (joined rounds) → Q j
in_round P Q [] all go j h = absurd h
in_round P Q (r ∷ rs) all go j h = ⊎_elim (λ a. go r j all.0 a) (λ b. in_round P Q rs all.1 go j b) (in_cases r (joined rs) j h)

-- two different items of a list are a pair of it, in one order or the other
pair_of : {X : Type 0} (R : X → X → Type 0) (xs : List X) → ((x y : X) → R x y → R y x) → EachPair R xs → (a b : X) → In a xs → In b xs → (a ≡ b) ⊎ R a b
pair_of R [] turn h a b i j = absurd i
pair_of R (x ∷ xs) turn h a b (inl e) (inl f) = inl (e ∙ sym f)
pair_of R (x ∷ xs) turn h a b (inl e) (inr j) = inr (subst (λ w. R w b) (sym e) (every_in (R x) xs b h.0 j))
pair_of R (x ∷ xs) turn h a b (inr i) (inl f) = inr (turn b a (subst (λ w. R w a) (sym f) (every_in (R x) xs a h.0 i)))
pair_of R (x ∷ xs) turn h a b (inr i) (inr j) = pair_of R xs turn h.1 a b i j

-- items of a list that are all apart, and what holds of each two different ones
pub pairs_from : {X : Type 0} (R : X → X → Type 0) (xs : List X) → EachPair (λ a b. a ≢ b) xs → ((a b : X) → In a xs → In b xs → (a ≡ b → ⊥) → R a b) → EachPair R xs
pairs_from R [] once h = tt
pairs_from R (x ∷ xs) once h = (every_from (R x) xs (λ y i. h x y (inl refl) (inr i) (every_in (λ z. x ≢ z) xs y once.0 i)), pairs_from R xs once.1 (λ a b i j ne. h a b (inr i) (inr j) ne))

Free : Ship → List Task → ℕ → ℕ → Type 0
Free ship ts i j = AreIndependent ship (task_at ts i) (task_at ts j)

pub order_keeps : (ship : Ship) (ts : List Task) (cranes : ℕ) (rounds : List (List ℕ)) (order : List ℕ) → Every (IsRound ship ts cranes) rounds → EachPair (KeepOrder ship ts) rounds → IsOrderOf rounds order → EachPair (KeepsTo ship (task_at ts)) order
unfolding Free
order_keeps ship ts cranes [] order all keep e = subst (EachPair (KeepsTo ship (task_at ts))) (sym e) tt
order_keeps ship ts cranes (r ∷ rs) order all keep (now, later, e, re, rest) = subst (EachPair (KeepsTo ship (task_at ts))) (sym e) (pairs_joined (KeepsTo ship (task_at ts)) now later
    (pairs_from (KeepsTo ship (task_at ts)) now re.once (λ a b i j ne lt.
    ⊎_elim (λ (x : b ≡ a). absurd (ne (sym x))) (λ (x : Free ship ts b a). x)
    (pair_of (Free ship ts) r (λ x y f. swapped_sides ship (task_at ts x) (task_at ts y) f) all.0.free b a ((re.same b).1 j) ((re.same a).1 i))))
    (order_keeps ship ts cranes rs later all.1 keep.1 rest)
    (λ a b i j lt. swapped_sides ship (task_at ts a) (task_at ts b) (stable ship (task_at ts a) (task_at ts b) (λ bound.
    let before : a < b = in_round (KeepOrder ship ts r) (λ c. (AreIndependent ship (task_at ts a) (task_at ts c) → ⊥) → a < c) rs keep.0 (λ q c k in_q. k a c ((re.same a).1 i) in_q) b (order_from rs later rest b j) bound in
    omega (arith, before, lt)))))

pub shared_out : (ship : Ship) (cargo : Cargo) (call : ℕ) (s : State) (ts : List Task) (cranes : ℕ) (rounds : List (List ℕ)) (order : List ℕ) → CanDoAll ship cargo call s ts → IsCraneList ship ts cranes rounds → IsOrderOf rounds order → IsSameWork ship cargo call s ts (picked ts order)
shared_out ship cargo call s ts cranes rounds order can list is =
    let r : Rearranges ship (map (task_at ts) (numbers_from 0 ts)) (map (task_at ts) order) = ordered ship (task_at ts) order (numbers_from 0 ts) (numbers_rise ts 0) (order_once rounds order list.once is)
    (λ i h. order_has rounds order is i ((list.each i).0 (let low = number_low ts 0 i h in omega (arith, low.1))))
    (λ i h. subst (λ (n : ℕ). In n (numbers_from 0 ts)) (omega arith) (number_in ts 0 i ((list.each i).1 (order_from rounds order is i h))))
    (order_keeps ship ts cranes rounds order list.shared list.in_order is) in
    let same : map (task_at ts) (numbers_from 0 ts) ≡ ts = numbers_give ts 0 (task_at ts) (λ i lt. ap (task_at ts) (omega arith)) in
    rearranged ship cargo call (picked ts order) ts s (subst (λ (w : List Task). Rearranges ship w (map (task_at ts) order)) same r) can
