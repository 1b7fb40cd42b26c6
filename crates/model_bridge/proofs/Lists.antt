-- Lists that a loop makes.
use Rattle.std.proofs.Common.{◌≡◌, ℕ, zero, suc, ◌≤◌, ◌+◌, Bool, if◌then◌else◌, cond, List, [], ◌∷◌, ◌++◌, length, take, drop, refl, sym, ◌∙◌, ap, subst, arith, Some, None, Option, ◌⊎◌, inl, inr}
use Rattle.std.specs.Prelude.{filter, slice_get, slice_set, Result, Ok, Err, is_ok, OnOk, All}
use Rattle.std.specs.List.{range_with_len, zip}
use Rattle.std.proofs.lemmas.Option.{none-some, same_Some, get_or_from_slice_get, slice_get_within}
use Rattle.std.proofs.lemmas.Bool.{eq-eqb}
use Rattle.std.proofs.lemmas.List.{append_assoc, length-replicate}
use Rattle.std.proofs.lemmas.List.Elements.{filter-append}
use Rattle.stow_data.proofs.Members.{range-more}
use Rattle.zero_one_rows.specs.Variables.{Voyage, var}
use Rattle.stow_data.specs.Plans.{held as held_in}
use Rattle.stow_data.specs.Ship.{places}
use Rattle.model_bridge.specs.Pairs.{Pairs, pair_with, pair_at_arrival, plan_of_pairs}

-- one more number, where it is wanted
pub more_range : (t : ℕ → Bool) (n : ℕ) (wanted : Bool) (front old new : List ℕ) → wanted ≡ t n → new ≡ old ++ cond wanted (n ∷ []) [] → old ≡ front ++ filter t (range_with_len 0 n) → new ≡ front ++ filter t (range_with_len 0 (n + 1))
more_range t n wanted front old new w e h =
    e ∙ ap (λ (xs : List ℕ). xs ++ cond wanted (n ∷ []) []) h
    ∙ ap (λ (b : Bool). (front ++ filter t (range_with_len 0 n)) ++ cond b (n ∷ []) []) w
    ∙ append_assoc front (filter t (range_with_len 0 n)) (cond (t n) (n ∷ []) [])
    ∙ ap (λ (xs : List ℕ). front ++ xs) (sym (ap (filter t) (range-more 0 n ∙ ap (λ (k : ℕ). range_with_len 0 n ++ k ∷ []) (let z : 0 + n ≡ n = omega arith in z)) ∙ filter-append t (range_with_len 0 n) (n ∷ [])))

pub take_zip : {X Y : Type 0} (xs : List X) (ys : List Y) (k : ℕ) (x : X) (y : Y) → slice_get xs k ≡ Some x → slice_get ys k ≡ Some y → take (suc k) (zip xs ys) ≡ take k (zip xs ys) ++ (x, y) ∷ []
take_zip [] ys k x y h g = absurd (none-some x h)
take_zip (a ∷ xs) [] k x y h g = absurd (none-some y g)
take_zip {X} {Y} (a ∷ xs) (b ∷ ys) zero x y h g = ap (λ (z : X). (z, b) ∷ []) (same_Some a x h) ∙ ap (λ (z : Y). (x, z) ∷ []) (same_Some b y g)
take_zip {X} {Y} (a ∷ xs) (b ∷ ys) (suc k) x y h g = ap (λ (zs : List (X × Y)). (a, b) ∷ zs) (take_zip xs ys k x y h g)

pub zip_all : {X Y : Type 0} (xs : List X) (ys : List Y) (k : ℕ) → (length xs ≤ k) ⊎ (length ys ≤ k) → take k (zip xs ys) ≡ zip xs ys
zip_all [] ys zero h = refl
zip_all [] ys (suc k) h = refl
zip_all (a ∷ xs) [] zero h = refl
zip_all (a ∷ xs) [] (suc k) h = refl
zip_all (a ∷ xs) (b ∷ ys) zero (inl h) = absurd (omega (arith, h))
zip_all (a ∷ xs) (b ∷ ys) zero (inr h) = absurd (omega (arith, h))
zip_all {X} {Y} (a ∷ xs) (b ∷ ys) (suc k) (inl h) = ap (λ (zs : List (X × Y)). (a, b) ∷ zs) (zip_all xs ys k (inl (omega (arith, h))))
zip_all {X} {Y} (a ∷ xs) (b ∷ ys) (suc k) (inr h) = ap (λ (zs : List (X × Y)). (a, b) ∷ zs) (zip_all xs ys k (inr (omega (arith, h))))

pub drop_get : {X : Type 0} (xs : List X) (k : ℕ) (x : X) → slice_get xs k ≡ Some x → drop k xs ≡ x ∷ drop (suc k) xs
drop_get [] k x h = absurd (none-some x h)
drop_get {X} (a ∷ xs) zero x h = ap (λ (z : X). z ∷ xs) (same_Some a x h)
drop_get (a ∷ xs) (suc k) x h = drop_get xs k x h

-- what a push has appended
pub pushed : {X E : Type 0} (r : Result (Unit {0}) E) (old new add want : List X) → new ≡ (if is_ok r then old ++ add else old) → add ≡ want → OnOk r (new ≡ old ++ want)
pushed {X} (Ok u) old new add want h e = h ∙ ap (λ (xs : List X). old ++ xs) e
pushed (Err e) old new add want h s = tt

pub all_at : {X : Type 0} (P : X → Type 0) (xs : List X) (k : ℕ) (x : X) → All P xs → slice_get xs k ≡ Some x → P x
all_at P xs k x all h = subst P (get_or_from_slice_get xs k x x h) (all k x (slice_get_within xs k x h))

length_set : {X : Type 0} (xs : List X) (i : ℕ) (x : X) → length (slice_set xs i x) ≡ length xs
length_set [] i x = refl
length_set (y ∷ ys) zero x = refl
length_set (y ∷ ys) (suc i) x = let h : length (slice_set ys i x) ≡ length ys = length_set ys i x in omega arith

module _ (m : Voyage) where
  pub pair_is : (v : ℕ) → (var m v).put ≡ 0 → (o : Option ℕ) → slice_get m.cargo.arrival (var m v).place ≡ Some o → pair_at_arrival m v ≡ pair_with v o
  pair_is v e o h =
      ap (λ (b : Bool). cond b (pair_with v (held_in m.cargo.arrival (var m v).place)) []) (eq-eqb (var m v).put 0 e)
      ∙ ap (pair_with v) (get_or_from_slice_get m.cargo.arrival (var m v).place o None h)

  pub long_plan : (es : Pairs) → length (plan_of_pairs m es) ≡ length (places m.ship)
  long_plan [] = length-replicate (length (places m.ship)) None
  long_plan (e ∷ es) = length_set (plan_of_pairs m es) (var m e.0).place (Some e.1) ∙ long_plan es
