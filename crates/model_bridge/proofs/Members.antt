-- Members of lists, lists whose keys differ, and the plan of a list of pairs.
use Rattle.std.proofs.Common.{◌≡◌, ℕ, zero, suc, ◌<◌, ◌≤◌, Bool, true, false, List, [], ◌∷◌, ◌++◌, ℤ, pos, ◌≤ℤ◌, arith, refl, sym, ◌∙◌, ap, ◌⊎◌, inl, inr, ⊎_elim, subst, length, Some, None}
use Rattle.std.specs.Prelude.{◌==◌, slice_set, slice_get}
use Rattle.std.proofs.lemmas.Bool.{cases_eq, eq-eqb, ne_eqb}
use Rattle.std.proofs.lemmas.Option.{none-some, same_Some}
use borrow.Author.Differences.{ints}
use Rattle.proof_trees.specs.Program.{sum_to, where_set}
use Rattle.stow_data.specs.Plans.{Plan}
use Rattle.stowage_rules.specs.Plan.{Holds}
use Rattle.stowage_rules.proofs.Items.{slice_get-set_other, slice_get-set_same}
use Rattle.stowage_rules.proofs.Items.{slice_get_in}
use Rattle.zero_one_rows.specs.Rows.{bit}
use Rattle.stow_data.proofs.Distinct.{Each}
use Rattle.model_bridge.proofs.Match.{total}

abbrev pub Member : {X : Type 0} → X → List X → Type 0
Member x [] = ⊥
Member x (y ∷ ys) = (x ≡ y) ⊎ Member x ys

pub each_at : {X : Type 0} (P : X → Type 0) (xs : List X) (x : X) → Each P xs → Member x xs → P x
each_at P [] x each h = absurd h
each_at P (y ∷ ys) x each (inl e) = subst P (sym e) each.0
each_at P (y ∷ ys) x each (inr h) = each_at P ys x each.1 h

pub each_from : {X : Type 0} (P : X → Type 0) (xs : List X) → ((x : X) → Member x xs → P x) → Each P xs
each_from P [] h = tt
each_from P (y ∷ ys) h = (h y (inl refl), each_from P ys (λ x n. h x (inr n)))

pub member_left : {X : Type 0} (x : X) (xs ys : List X) → Member x xs → Member x (xs ++ ys)
member_left x [] ys h = absurd h
member_left x (y ∷ zs) ys (inl e) = inl e
member_left x (y ∷ zs) ys (inr h) = inr (member_left x zs ys h)

pub member_right : {X : Type 0} (x : X) (xs ys : List X) → Member x ys → Member x (xs ++ ys)
member_right x [] ys h = h
member_right x (y ∷ zs) ys h = inr (member_right x zs ys h)

pub member_split : {X : Type 0} (x : X) (xs ys : List X) → Member x (xs ++ ys) → Member x xs ⊎ Member x ys
member_split x [] ys h = inr h
member_split x (y ∷ zs) ys (inl e) = inl (inl e)
member_split x (y ∷ zs) ys (inr h) = ⊎_elim (λ (a : Member x zs). inl (inr a)) (λ (b : Member x ys). inr b) (member_split x zs ys h)

-- a key differs from those of all later ones
abbrev pub Differ : {X : Type 0} → (X → ℕ) → List X → Type 0
Differ k [] = Unit {0}
Differ k (x ∷ xs) = Each (λ y. k x ≡ k y → ⊥) xs × Differ k xs

pub differ_more : {X : Type 0} (P : X → Type 0) (k l : X → ℕ) (xs : List X) → ((x y : X) → P x → P y → (k x ≡ k y → ⊥) → l x ≡ l y → ⊥) → Each P xs → Differ k xs → Differ l xs
differ_more P k l [] h each d = tt
differ_more P k l (x ∷ xs) h each d = (each_from _ xs (λ y n. h x y each.0 (each_at P xs y each.1 n) (each_at _ xs y d.0 n)), differ_more P k l xs h each.1 d.1)

pub differ_at : {X : Type 0} (k : X → ℕ) (xs : List X) (x y : X) → Differ k xs → Member x xs → Member y xs → k x ≡ k y → x ≡ y
differ_at k [] x y d a b e = absurd a
differ_at k (z ∷ zs) x y d (inl a) (inl b) e = a ∙ sym b
differ_at k (z ∷ zs) x y d (inl a) (inr b) e = absurd (each_at _ zs y d.0 b (sym (ap k a) ∙ e))
differ_at k (z ∷ zs) x y d (inr a) (inl b) e = absurd (each_at _ zs x d.0 a (sym (ap k b) ∙ sym e))
differ_at k (z ∷ zs) x y d (inr a) (inr b) e = differ_at k zs x y d.1 a b e

-- how often a key stands
abbrev pub often : {X : Type 0} → (X → ℕ) → ℕ → List X → ℤ
often k a xs = total (λ x. bit (k x == a)) xs

bit_low : (b : Bool) → pos 0 ≤ℤ bit b
bit_low true = omega (arith, ints)
bit_low false = omega (arith, ints)

pub often_low : {X : Type 0} (k : X → ℕ) (a : ℕ) (xs : List X) → pos 0 ≤ℤ often k a xs
often_low k a [] = omega (arith, ints)
often_low k a (x ∷ xs) = omega (arith, ints, often_low k a xs, bit_low (k x == a))

pub often_member : {X : Type 0} (k : X → ℕ) (a : ℕ) (xs : List X) (x : X) → Member x xs → k x ≡ a → pos 1 ≤ℤ often k a xs
often_member k a [] x h e = absurd h
often_member k a (y ∷ ys) x (inl s) e = let o : bit (k y == a) ≡ pos 1 = ap bit (eq-eqb (k y) a (ap k (sym s) ∙ e)) in omega (arith, ints, often_low k a ys)
often_member k a (y ∷ ys) x (inr h) e = omega (arith, ints, often_member k a ys x h e, bit_low (k y == a))

pub member_often : {X : Type 0} (k : X → ℕ) (a : ℕ) (xs : List X) → pos 1 ≤ℤ often k a xs → (x : X) × Member x xs × (k x ≡ a)
member_often k a [] h = absurd (omega (arith, ints))
member_often {X} k a (y ∷ ys) h = ⊎_elim
    (λ (e : k y ≡ a). (y, inl refl, e))
    (λ (ne : k y ≡ a → ⊥). let z : bit (k y == a) ≡ pos 0 = ap bit (ne_eqb (k y) a ne) in let r = member_often k a ys (omega (arith, ints)) in (r.0, inr r.1, r.2))
    (cases_eq (k y) a)

-- keys that stand once at most differ
pub differ_from : {X : Type 0} (k : X → ℕ) (xs : List X) → ((a : ℕ) → often k a xs ≤ℤ pos 1) → Differ k xs
differ_from k [] h = tt
differ_from k (x ∷ xs) h = (
  each_from _ xs (λ y n e. let one : bit (k x == k x) ≡ pos 1 = ap bit (eq-eqb (k x) (k x) refl) in absurd (omega (arith, ints, h (k x), often_member k (k x) xs y n (sym e)))),
  differ_from k xs (λ a. omega (arith, ints, h a, bit_low (k x == a))),
)

-- one number alone
pub one_number : (n : ℕ) (t : ℕ → Bool) (a : ℕ) → sum_to n (λ v. where_set (t v) (bit (v == a))) ≤ℤ pos 1
one_number n t a = (low n).1
  where
    term : (b c : Bool) → c ≡ false → where_set b (bit c) ≡ pos 0
    term true c h = ap bit h
    term false c h = refl

    term_low : (b c : Bool) → where_set b (bit c) ≤ℤ pos 1
    term_low true true = omega (arith, ints)
    term_low true false = omega (arith, ints)
    term_low false c = omega (arith, ints)

    low : (n : ℕ) → (n ≤ a → sum_to n (λ v. where_set (t v) (bit (v == a))) ≡ pos 0) × (sum_to n (λ v. where_set (t v) (bit (v == a))) ≤ℤ pos 1)
    low zero = ((λ l. refl), omega (arith, ints))
    low (suc n) = let r = low n in (
      (λ l. omega (arith, ints, r.0 (omega arith), term (t n) (n == a) (ne_eqb n a (λ e. omega arith)))),
      ⊎_elim
          (λ (e : n ≡ a). omega (arith, ints, r.0 (omega arith), term_low (t n) (n == a)))
          (λ (ne : n ≡ a → ⊥). omega (arith, ints, r.1, term (t n) (n == a) (ne_eqb n a ne)))
          (cases_eq n a),
    )

-- the plan of pairs of a place and a container, on n places
abbrev pub empties : ℕ → Plan
empties zero = []
empties (suc n) = None ∷ empties n

abbrev pub plan_from : {X : Type 0} → (X → ℕ) → (X → ℕ) → ℕ → List X → Plan
plan_from k c n [] = empties n
plan_from k c n (x ∷ xs) = slice_set (plan_from k c n xs) (k x) (Some (c x))

length_empties : (n : ℕ) → length (empties n) ≡ n
length_empties zero = refl
length_empties (suc n) = let h : length (empties n) ≡ n = length_empties n in omega arith

length_set : {X : Type 0} (xs : List X) (i : ℕ) (x : X) → length (slice_set xs i x) ≡ length xs
length_set [] i x = refl
length_set (y ∷ ys) zero x = refl
length_set (y ∷ ys) (suc i) x = let h : length (slice_set ys i x) ≡ length ys = length_set ys i x in omega arith

pub length_plan : {X : Type 0} (k c : X → ℕ) (n : ℕ) (xs : List X) → length (plan_from k c n xs) ≡ n
length_plan k c n [] = length_empties n
length_plan k c n (x ∷ xs) = length_set (plan_from k c n xs) (k x) (Some (c x)) ∙ length_plan k c n xs

empties_hold : (n p c : ℕ) → Holds (empties n) p c → ⊥
empties_hold zero p c h = none-some (Some c) h
empties_hold (suc n) zero c h = none-some c (same_Some None (Some c) h)
empties_hold (suc n) (suc p) c h = empties_hold n p c h

pub plan_holds : {X : Type 0} (k c : X → ℕ) (n : ℕ) (xs : List X) (p d : ℕ) → Each (λ x. k x < n) xs → Holds (plan_from k c n xs) p d → (x : X) × Member x xs × (k x ≡ p) × (c x ≡ d)
plan_holds k c n [] p d low h = absurd (empties_hold n p d h)
plan_holds {X} k c n (x ∷ xs) p d low h = ⊎_elim
    (λ (e : p ≡ k x).
    let there = slice_get_in (plan_from k c n xs) p (let l = length_plan k c n xs in let g = low.0 in omega arith) in
    let s : slice_get (slice_set (plan_from k c n xs) p (Some (c x))) p ≡ Some (Some (c x)) = slice_get-set_same (plan_from k c n xs) p (Some (c x)) there.0 there.1 in
    let h' : slice_get (slice_set (plan_from k c n xs) p (Some (c x))) p ≡ Some (Some d) = subst (λ (q : ℕ). slice_get (slice_set (plan_from k c n xs) q (Some (c x))) p ≡ Some (Some d)) (sym e) h in
    (x, inl refl, sym e, same_Some (c x) d (same_Some (Some (c x)) (Some d) (sym s ∙ h'))))
    (λ (ne : p ≡ k x → ⊥). let r = plan_holds k c n xs p d low.1 (sym (slice_get-set_other (plan_from k c n xs) (k x) p (Some (c x)) ne) ∙ h) in (r.0, inr r.1, r.2, r.3))
    (cases_eq p (k x))

pub plan_shows : {X : Type 0} (k c : X → ℕ) (n : ℕ) (xs : List X) (x : X) → Each (λ x. k x < n) xs → Differ k xs → Member x xs → Holds (plan_from k c n xs) (k x) (c x)
plan_shows k c n [] x low d h = absurd h
plan_shows k c n (y ∷ ys) x low d (inl e) =
    let there = slice_get_in (plan_from k c n ys) (k y) (let l = length_plan k c n ys in let g = low.0 in omega arith) in
    subst (λ z. Holds (plan_from k c n (y ∷ ys)) (k z) (c z)) (sym e) (slice_get-set_same (plan_from k c n ys) (k y) (Some (c y)) there.0 there.1)
plan_shows k c n (y ∷ ys) x low d (inr h) =
    slice_get-set_other (plan_from k c n ys) (k y) (k x) (Some (c y)) (λ e. each_at _ ys x d.0 h (sym e)) ∙ plan_shows k c n ys x low.1 d.1 h
