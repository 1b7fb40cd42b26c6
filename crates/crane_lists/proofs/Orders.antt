-- Orders of the places of a list in which none passes one on which it hangs.
use Rattle.std.specs.Prelude.{◌≡◌, ◌≢◌, ◌⊎◌, ℕ, zero, suc, ◌+◌, ◌≤◌, ◌<◌, List, [], ◌∷◌, ◌++◌, length, map}
use Rattle.std.proofs.Common.{refl, sym, ◌∙◌, ap, arith, subst, inl, inr, ⊎_elim}
use Rattle.stow_data.specs.Ship.{Ship}
use Rattle.crane_lists.specs.declared.tasks.Task.{Task}
use Rattle.crane_lists.specs.Tasks.{AreIndependent}
use Rattle.crane_lists.specs.Rounds.{Every, EachPair, In, task_at}
use Rattle.crane_lists.proofs.Rearranging.{Rearranges}

pub every_in : {X : Type 0} (P : X → Type 0) (xs : List X) (x : X) → Every P xs → In x xs → P x
every_in P [] x h i = absurd i
every_in P (y ∷ ys) x h (inl e) = subst P (sym e) h.0
every_in P (y ∷ ys) x h (inr i) = every_in P ys x h.1 i

pub every_from : {X : Type 0} (P : X → Type 0) (xs : List X) → ((x : X) → In x xs → P x) → Every P xs
every_from P [] h = tt
every_from P (y ∷ ys) h = (h y (inl refl), every_from P ys (λ x i. h x (inr i)))

pub in_left : {X : Type 0} (xs ys : List X) (x : X) → In x xs → In x (xs ++ ys)
in_left [] ys x i = absurd i
in_left (z ∷ zs) ys x (inl e) = inl e
in_left (z ∷ zs) ys x (inr i) = inr (in_left zs ys x i)

pub in_right : {X : Type 0} (xs ys : List X) (x : X) → In x ys → In x (xs ++ ys)
in_right [] ys x i = i
in_right (z ∷ zs) ys x i = inr (in_right zs ys x i)

pub in_cases : {X : Type 0} (xs ys : List X) (x : X) → In x (xs ++ ys) → In x xs ⊎ In x ys
in_cases [] ys x i = inr i
in_cases (z ∷ zs) ys x (inl e) = inl (inl e)
in_cases (z ∷ zs) ys x (inr i) = ⊎_elim (λ a. inl (inr a)) (λ b. inr b) (in_cases zs ys x i)

pub pairs_joined : {X : Type 0} (R : X → X → Type 0) (xs ys : List X) → EachPair R xs → EachPair R ys → ((x y : X) → In x xs → In y ys → R x y) → EachPair R (xs ++ ys)
pairs_joined R [] ys a b h = b
pairs_joined R (x ∷ xs) ys a b h = (every_from (R x) (xs ++ ys) (λ y i. ⊎_elim (λ j. every_in (R x) xs y a.0 j) (λ j. h x y (inl refl) j) (in_cases xs ys y i)), pairs_joined R xs ys a.1 b (λ z y i j. h z y (inr i) j))

pub pairs_left : {X : Type 0} (R : X → X → Type 0) (xs ys : List X) → EachPair R (xs ++ ys) → EachPair R xs
pairs_left R [] ys h = tt
pairs_left R (x ∷ xs) ys h = (every_from (R x) xs (λ y i. every_in (R x) (xs ++ ys) y h.0 (in_left xs ys y i)), pairs_left R xs ys h.1)

pub pairs_right : {X : Type 0} (R : X → X → Type 0) (xs ys : List X) → EachPair R (xs ++ ys) → EachPair R ys
pairs_right R [] ys h = h
pairs_right R (x ∷ xs) ys h = pairs_right R xs ys h.1

pub pairs_across : {X : Type 0} (R : X → X → Type 0) (xs ys : List X) → EachPair R (xs ++ ys) → (x y : X) → In x xs → In y ys → R x y
pairs_across R [] ys h x y i j = absurd i
pairs_across R (z ∷ zs) ys h x y (inl e) j = subst (λ w. R w y) (sym e) (every_in (R z) (zs ++ ys) y h.0 (in_right zs ys y j))
pairs_across R (z ∷ zs) ys h x y (inr i) j = pairs_across R zs ys h.1 x y i j

-- where an item stands
pub parted : {X : Type 0} (xs : List X) (x : X) → In x xs → (before behind : List X) × (xs ≡ before ++ x ∷ behind)
parted [] x i = absurd i
parted (y ∷ ys) x (inl e) = ([], ys, ap (λ w. w ∷ ys) (sym e))
parted (y ∷ ys) x (inr i) = let p = parted ys x i in (y ∷ p.0, p.1, ap (λ w. y ∷ w) p.2)

map_apart : {X Y : Type 0} (f : X → Y) (xs ys : List X) → map f (xs ++ ys) ≡ map f xs ++ map f ys
map_apart f [] ys = refl
map_apart f (x ∷ xs) ys = ap (λ w. f x ∷ w) (map_apart f xs ys)

every_map : {X Y : Type 0} (P : Y → Type 0) (f : X → Y) (xs : List X) → Every (λ x. P (f x)) xs → Every P (map f xs)
every_map P f [] h = tt
every_map P f (x ∷ xs) h = (h.0, every_map P f xs h.1)

-- none passes one on which it hangs
abbrev pub KeepsTo : Ship → (ℕ → Task) → ℕ → ℕ → Type 0
KeepsTo ship f a b = b < a → AreIndependent ship (f b) (f a)

pub ordered : (ship : Ship) (f : ℕ → Task) (order left : List ℕ) → EachPair (λ a b. a < b) left → EachPair (λ a b. a ≢ b) order
    → ((i : ℕ) → In i left → In i order) → ((i : ℕ) → In i order → In i left)
    → EachPair (KeepsTo ship f) order → Rearranges ship (map f left) (map f order)
ordered ship f [] [] rise once to from keep = refl
ordered ship f [] (x ∷ xs) rise once to from keep = absurd (to x (inl refl))
ordered ship f (u ∷ us) left rise once to from keep =
    let parts = parted left u (from u (inl refl)) in
    let before = parts.0 in
    let behind = parts.1 in
    let e = parts.2 in
    let up : EachPair (λ a b. a < b) (before ++ u ∷ behind) = subst (EachPair (λ a b. a < b)) e rise in
    let below = (λ (b : ℕ) (i : In b before). pairs_across (λ a b. a < b) before (u ∷ behind) up b u i (inl refl)) in
    let above = (λ (b : ℕ) (i : In b behind). every_in (λ b. u < b) behind b (pairs_right (λ a b. a < b) before (u ∷ behind) up).0 i) in
    let is_in = (λ (b : ℕ) (i : In b (before ++ u ∷ behind)). to b (subst (In b) (sym e) i)) in (
      map f before,
      map f behind,
      ap (map f) e ∙ map_apart f before (u ∷ behind),
      every_map (λ t. AreIndependent ship t (f u)) f before (every_from (λ b. AreIndependent ship (f b) (f u)) before (λ b i.
          ⊎_elim (λ (same : b ≡ u). absurd (let lt : b < u = below b i in omega (arith, same, lt)))
          (λ j. every_in (KeepsTo ship f u) us b keep.0 j (below b i))
          (is_in b (in_left before (u ∷ behind) b i)))),
      subst (λ (w : List Task). Rearranges ship w (map f us)) (map_apart f before behind) (ordered ship f us (before ++ behind)
          (pairs_joined (λ a b. a < b) before behind (pairs_left (λ a b. a < b) before (u ∷ behind) up) (pairs_right (λ a b. a < b) before (u ∷ behind) up).1 (λ a b i j. let x : a < u = below a i in let y : u < b = above b j in omega (arith, x, y)))
          once.1
          (λ b i. ⊎_elim
          (λ j. ⊎_elim (λ (same : b ≡ u). absurd (let lt : b < u = below b j in omega (arith, same, lt))) (λ k. k) (is_in b (in_left before (u ∷ behind) b j)))
          (λ j. ⊎_elim (λ (same : b ≡ u). absurd (let lt : u < b = above b j in omega (arith, same, lt))) (λ k. k) (is_in b (in_right before (u ∷ behind) b (inr j))))
          (in_cases before behind b i))
          (λ b i. ⊎_elim
          (λ j. in_left before behind b j)
          (λ j. ⊎_elim (λ (same : b ≡ u). absurd (every_in (λ c. u ≢ c) us b once.0 i (sym same))) (λ k. in_right before behind b k) j)
          (in_cases before (u ∷ behind) b (subst (In b) e (from b (inr i)))))
          keep.1),
    )

-- the places of a list, by number
abbrev pub numbers_from : {X : Type 0} → ℕ → List X → List ℕ
numbers_from k [] = []
numbers_from k (x ∷ xs) = k ∷ numbers_from (suc k) xs

pub number_low : {X : Type 0} (xs : List X) (k i : ℕ) → In i (numbers_from k xs) → (k ≤ i) × (i < k + length xs)
number_low [] k i h = absurd h
number_low (x ∷ xs) k i (inl e) = (omega (arith, e), omega (arith, e))
number_low (x ∷ xs) k i (inr h) = let r = number_low xs (suc k) i h in (omega (arith, r.0), omega (arith, r.1))

pub number_in : {X : Type 0} (xs : List X) (k i : ℕ) → i < length xs → In (k + i) (numbers_from k xs)
number_in [] k i h = absurd (omega (arith, h))
number_in (x ∷ xs) k zero h = inl (omega arith)
number_in (x ∷ xs) k (suc i) h = inr (subst (λ (n : ℕ). In n (numbers_from (suc k) xs)) (omega arith) (number_in xs (suc k) i (omega (arith, h))))

pub numbers_rise : {X : Type 0} (xs : List X) (k : ℕ) → EachPair (λ a b. a < b) (numbers_from k xs)
numbers_rise [] k = tt
numbers_rise (x ∷ xs) k = (every_from (λ b. k < b) (numbers_from (suc k) xs) (λ b i. let r = number_low xs (suc k) b i in omega (arith, r.0)), numbers_rise xs (suc k))

pub numbers_give : (ts : List Task) (k : ℕ) (f : ℕ → Task) → ((i : ℕ) → i < length ts → f (k + i) ≡ task_at ts i) → map f (numbers_from k ts) ≡ ts
numbers_give [] k f h = refl
numbers_give (t ∷ ts) k f h =
    let head : f k ≡ t = ap f (omega arith) ∙ h 0 (omega arith) in
    let tail : map f (numbers_from (suc k) ts) ≡ ts = numbers_give ts (suc k) f (λ i lt. ap f (omega arith) ∙ h (suc i) (omega (arith, lt))) in
    cc
