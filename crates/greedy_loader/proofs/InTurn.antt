-- An order on the quay that leaves no tie: there is one list of the same containers in order.
use Rattle.std.proofs.Common.{◌≡◌, ℕ, zero, suc, ◌<◌, ◌≤◌, Bool, false, List, [], ◌∷◌, get_or, Some, refl, sym, ◌∙◌, ap, subst, arith}
use Rattle.std.specs.Prelude.{slice_get}
use Rattle.std.specs.declared.cmp.Ordering.{Ordering}
use Rattle.std.specs.declared.cmp.Ordering.TheVariants.{Less, Equal, Greater}
use Rattle.std.specs.Ordering.{MatchOrdering, nat_cmp, bool_cmp, ordering_then, ordering_reverse, is_lt}
use Rattle.std.specs.Cmp.{IsTotalOrder, bool_cmp_total}
use Rattle.std.proofs.lemmas.Cmp.{nat_cmp_total, on_total, ranked, then_total}
use Rattle.std.proofs.lemmas.List.Sorted.{ranks_by, sorted_far}
use Rattle.std.proofs.lemmas.Option.{none-some, slice_get_within, get_or_from_slice_get}
use Rattle.stow_data.specs.Shipment.{Cargo}
use Rattle.greedy_loader.specs.Turns.{IsInOrder, by_turn, turn}

-- ## One list

abbrev InTurn : (ℕ → ℕ → Bool) → List ℕ → Type 0
InTurn lt xs = (i j c d : ℕ) → i ≤ j → slice_get xs i ≡ Some c → slice_get xs j ≡ Some d → lt d c ≡ false

abbrev pub Once : List ℕ → Type 0
Once xs = (j k c : ℕ) → slice_get xs j ≡ Some c → slice_get xs k ≡ Some c → j ≡ k

abbrev pub HasAllOf : List ℕ → List ℕ → Type 0
HasAllOf xs ys = (k c : ℕ) → slice_get ys k ≡ Some c → (j : ℕ) × (slice_get xs j ≡ Some c)

-- what stands behind the first is found behind the first of the other list
behind_first : (x : ℕ) (xs ys : List ℕ) → Once (x ∷ xs) → HasAllOf (x ∷ ys) (x ∷ xs) → HasAllOf ys xs
behind_first x xs ys once all k c h = back (all (suc k) c h)
  where
    back : (j : ℕ) × (slice_get (x ∷ ys) j ≡ Some c) → (j : ℕ) × (slice_get ys j ≡ Some c)
    back (zero, e) = absurd (let same : 0 ≡ suc k = once 0 (suc k) c e h in omega (arith, same))
    back (suc j, e) = (j, e)

pub one_list : (lt : ℕ → ℕ → Bool) → ((a b : ℕ) → lt a b ≡ false → lt b a ≡ false → a ≡ b) → (xs ys : List ℕ) → InTurn lt xs → InTurn lt ys → Once xs → Once ys → HasAllOf xs ys → HasAllOf ys xs → xs ≡ ys
one_list lt tie [] [] up down once only all every = refl
one_list lt tie [] (y ∷ ys) up down once only all every = absurd (none-some y ((all 0 y refl).1))
one_list lt tie (x ∷ xs) [] up down once only all every = absurd (none-some x ((every 0 x refl).1))
one_list lt tie (x ∷ xs) (y ∷ ys) up down once only all every =
    let a = every 0 x refl in
    let b = all 0 y refl in
    let e : x ≡ y = tie x y (down 0 (a.0) y x (omega arith) refl (a.1)) (up 0 (b.0) x y (omega arith) refl (b.1)) in
    let all' : HasAllOf (x ∷ xs) (x ∷ ys) = subst (λ (z : ℕ). HasAllOf (x ∷ xs) (z ∷ ys)) (sym e) all in
    let every' : HasAllOf (x ∷ ys) (x ∷ xs) = subst (λ (z : ℕ). HasAllOf (z ∷ ys) (x ∷ xs)) (sym e) every in
    let only' : Once (x ∷ ys) = subst (λ (z : ℕ). Once (z ∷ ys)) (sym e) only in
    let rest : xs ≡ ys = one_list lt tie xs ys
    (λ i j c d l h k. up (suc i) (suc j) c d (omega (arith, l)) h k)
    (λ i j c d l h k. down (suc i) (suc j) c d (omega (arith, l)) h k)
    (λ j k c h i. let same : suc j ≡ suc k = once (suc j) (suc k) c h i in omega (arith, same))
    (λ j k c h i. let same : suc j ≡ suc k = only (suc j) (suc k) c h i in omega (arith, same))
    (behind_first x ys xs only' all')
    (behind_first x xs ys once every') in
    ap (λ (z : ℕ). z ∷ xs) e ∙ ap (λ (zs : List ℕ). y ∷ zs) rest

-- ## The turns

abbrev pub comes_before : Cargo → ℕ → ℕ → Bool
comes_before cargo a b = is_lt (by_turn (turn cargo a) (turn cargo b))

turns_total : IsTotalOrder by_turn
turns_total = then_total (then_total (then_total (on_total (λ (a : ℕ × Bool × Bool × ℕ). a.0) nat_cmp_total) (on_total (λ (a : ℕ × Bool × Bool × ℕ). a.1) bool_cmp_total)) (on_total (λ (a : ℕ × Bool × Bool × ℕ). a.2) bool_cmp_total)) (on_total (λ (a : ℕ × Bool × Bool × ℕ). a.3) nat_cmp_total)

pub in_turn : (cargo : Cargo) (xs : List ℕ) → IsInOrder cargo xs → InTurn (comes_before cargo) xs
in_turn cargo xs order i j c d l h k =
    let far = sorted_far (comes_before cargo) (ranks_by turns_total (turn cargo)) xs order i j c l (slice_get_within xs j d k) in
    subst (λ (z : ℕ). comes_before cargo d z ≡ false) (get_or_from_slice_get xs i c c h) (subst (λ (z : ℕ). comes_before cargo z (get_or xs i c) ≡ false) (get_or_from_slice_get xs j d c k) far)

then_last : (o p : Ordering) → ordering_then o p ≡ Equal → p ≡ Equal
then_last Less p h = absurd cc
then_last Equal p h = h
then_last Greater p h = absurd cc

equal_of : (o p : Ordering) → o ≡ ordering_reverse p → is_lt o ≡ false → is_lt p ≡ false → o ≡ Equal
equal_of Less p e a b = absurd cc
equal_of Equal p e a b = refl
equal_of Greater Less e a b = absurd cc
equal_of Greater Equal e a b = absurd cc
equal_of Greater Greater e a b = absurd cc

same_number : (a b : ℕ) → nat_cmp a b ≡ Equal → a ≡ b
same_number a b e = subst (λ (o : Ordering). MatchOrdering o (a < b) (a ≡ b) (b < a)) e (ranked a b (nat_cmp a b) refl)

pub no_tie : (cargo : Cargo) (a b : ℕ) → comes_before cargo a b ≡ false → comes_before cargo b a ≡ false → a ≡ b
no_tie cargo a b h k =
    let x = turn cargo a in
    let y = turn cargo b in
    same_number a b (then_last (ordering_then (ordering_then (nat_cmp (x.0) (y.0)) (bool_cmp (x.1) (y.1))) (bool_cmp (x.2) (y.2))) (nat_cmp a b) (equal_of (by_turn x y) (by_turn y x) (turns_total.antisymm x y) h k))
