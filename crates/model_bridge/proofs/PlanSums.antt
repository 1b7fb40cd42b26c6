-- Sums over the places of a plan that shows pairs.
use Rattle.std.proofs.Common.{◌≡◌, ℕ, zero, suc, ◌<◌, Bool, cond, List, [], ◌∷◌, ℤ, pos, ◌+ℤ◌, arith, refl, sym, ◌∙◌, ap, subst, length, Option, Some, None}
use Rattle.std.specs.Prelude.{slice_set, slice_get, slice_index_or, sum_by, zip}
use Rattle.std.proofs.lemmas.Option.{none-some, same_Some, slice_get_within}
use Rattle.std.proofs.lemmas.List.Sums.{sum_by-cons}
use borrow.Author.Differences.{ints}
use Rattle.stow_data.specs.declared.geometry.Place.{Place}
use Rattle.stow_data.specs.Ship.{places}
use Rattle.stow_data.specs.Plans.{Plan}
use Rattle.plan_lifts.specs.Least.{counted}
use Rattle.stowage_rules.proofs.Items.{slice_get-set_other}
use Rattle.stowage_rules.proofs.Items.{slice_get_in}
use Rattle.zero_one_rows.specs.Variables.{Voyage}
use Rattle.stow_data.specs.Plans.{no_place}
use Rattle.stow_data.proofs.Distinct.{Each}
use Rattle.model_bridge.proofs.Match.{total}
use Rattle.stow_data.proofs.Members.{Member}
use Rattle.stow_data.proofs.Distinct.{each_from}
use Rattle.model_bridge.proofs.Members.{Differ, differ_more, empties, plan_from, length_plan, plan_holds, plan_shows}
use Rattle.model_bridge.proofs.Calls.{Facts, IsHeld}
use Rattle.model_bridge.proofs.Departures.{spot, Shows, pair, boxes_differ}

-- the sum of g over the places and what they hold
abbrev pub plan_sum : (ℕ → Option ℕ → ℤ) → Plan → ℤ
plan_sum g [] = pos 0
plan_sum g (o ∷ os) = g 0 o +ℤ plan_sum (λ p. g (suc p)) os

sum_empties : (n : ℕ) (g : ℕ → Option ℕ → ℤ) → ((p : ℕ) → g p None ≡ pos 0) → plan_sum g (empties n) ≡ pos 0
sum_empties zero g h = refl
sum_empties (suc n) g h = omega (arith, ints, h 0, sum_empties n (λ p. g (suc p)) (λ p. h (suc p)))

sum_set : (plan : Plan) (k c : ℕ) (g : ℕ → Option ℕ → ℤ) → ((p : ℕ) → g p None ≡ pos 0) → slice_get plan k ≡ Some None → plan_sum g (slice_set plan k (Some c)) ≡ g k (Some c) +ℤ plan_sum g plan
sum_set [] k c g h e = absurd (none-some None e)
sum_set (o ∷ os) zero c g h e = let z : g 0 o ≡ pos 0 = ap (g 0) (same_Some o None e) ∙ h 0 in omega (arith, ints)
sum_set (o ∷ os) (suc k) c g h e = omega (arith, ints, sum_set os k c (λ p. g (suc p)) (λ p. h (suc p)) e)

empties_at : (n p : ℕ) → p < n → slice_get (empties n) p ≡ Some None
empties_at zero p l = absurd (omega arith)
empties_at (suc n) zero l = refl
empties_at (suc n) (suc p) l = empties_at n p (omega arith)

empty_at : {X : Type 0} (k c : X → ℕ) (n : ℕ) (xs : List X) (p : ℕ) → p < n → Each (λ x. p ≡ k x → ⊥) xs → slice_get (plan_from k c n xs) p ≡ Some None
empty_at k c n [] p l h = empties_at n p l
empty_at k c n (x ∷ xs) p l h = slice_get-set_other (plan_from k c n xs) (k x) p (Some (c x)) h.0 ∙ empty_at k c n xs p l h.1

sum_from : {X : Type 0} (k c : X → ℕ) (n : ℕ) (xs : List X) (g : ℕ → Option ℕ → ℤ) → ((p : ℕ) → g p None ≡ pos 0) → Each (λ x. k x < n) xs → Differ k xs → plan_sum g (plan_from k c n xs) ≡ total (λ x. g (k x) (Some (c x))) xs
sum_from k c n [] g h low d = sum_empties n g h
sum_from k c n (x ∷ xs) g h low d = omega (arith, ints, sum_set (plan_from k c n xs) (k x) (c x) g h (empty_at k c n xs (k x) low.0 d.0), sum_from k c n xs g h low.1 d.1)

-- two lists that agree at each place
same_list : {X : Type 0} (xs ys : List X) → ((p : ℕ) → slice_get xs p ≡ slice_get ys p) → xs ≡ ys
same_list [] [] h = refl
same_list [] (y ∷ ys) h = absurd (none-some y (h 0))
same_list (x ∷ xs) [] h = absurd (none-some x (sym (h 0)))
same_list {X} (x ∷ xs) (y ∷ ys) h = let a : x ≡ y = same_Some x y (h 0) in let b : xs ≡ ys = same_list xs ys (λ p. h (suc p)) in ap (λ (z : X). z ∷ xs) a ∙ ap (λ (zs : List X). y ∷ zs) b

module _ (m : Voyage) (x : ℕ → Bool) (facts : Facts m) (i : ℕ) (held : List (ℕ × ℕ)) (is : IsHeld m x i held) (plan : Plan) (shows : Shows m held plan) where
  pub spots_differ : Differ (spot m) held
  spots_differ = differ_more (λ (e : ℕ × ℕ). Member e held) (λ (e : ℕ × ℕ). e.1) (spot m) held
      (λ e d a b other same. other (same_Some e.1 d.1 (same_Some (Some e.1) (Some d.1) (sym (shows.to_plan e a) ∙ subst (λ (q : ℕ). slice_get plan q ≡ Some (Some d.1)) (sym same) (shows.to_plan d b)))))
      (each_from _ held (λ e h. h)) (boxes_differ m x facts i held is)

  low : Each (λ (e : ℕ × ℕ). spot m e < length (places m.ship)) held
  low = each_from _ held (λ e h. facts.var_place e.0 (pair m x facts i held is e h).var_known)

  abbrev made : Plan
  made = plan_from (spot m) (λ (e : ℕ × ℕ). e.1) (length (places m.ship)) held

  is_made : plan ≡ made
  is_made = same_list plan made (λ p. at p (slice_get plan p) (slice_get made p) refl refl)
    where
      at : (p : ℕ) (o n : Option (Option ℕ)) → slice_get plan p ≡ o → slice_get made p ≡ n → slice_get plan p ≡ slice_get made p
      at p (Some (Some c)) n eo en = let e = shows.from_plan p c eo in
          eo ∙ sym (subst (λ (q : ℕ). slice_get made q ≡ Some (Some c)) e.2 (subst (λ (d : ℕ). slice_get made (spot m e.0) ≡ Some (Some d)) e.3 (plan_shows (spot m) (λ (e : ℕ × ℕ). e.1) (length (places m.ship)) held e.0 low spots_differ e.1)))
      at p o (Some (Some c)) eo en = let e = plan_holds (spot m) (λ (e : ℕ × ℕ). e.1) (length (places m.ship)) held p c low en in
          subst (λ (q : ℕ). slice_get plan q ≡ Some (Some c)) e.2 (subst (λ (d : ℕ). slice_get plan (spot m e.0) ≡ Some (Some d)) e.3 (shows.to_plan e.0 e.1)) ∙ sym en
      at p (Some None) (Some None) eo en = eo ∙ sym en
      at p None None eo en = eo ∙ sym en
      at p None (Some None) eo en = absurd (let l = slice_get_within made p None en in let a = shows.each_place in let b = length_plan (spot m) (λ (e : ℕ × ℕ). e.1) (length (places m.ship)) held in let t = slice_get_in plan p (omega arith) in none-some t.0 (sym eo ∙ t.1))
      at p (Some None) None eo en = absurd (let l = slice_get_within plan p None eo in let a = shows.each_place in let b = length_plan (spot m) (λ (e : ℕ × ℕ). e.1) (length (places m.ship)) held in let t = slice_get_in made p (omega arith) in none-some t.0 (sym en ∙ t.1))

  pub shown_sum : (g : ℕ → Option ℕ → ℤ) → ((p : ℕ) → g p None ≡ pos 0) → plan_sum g plan ≡ total (λ (e : ℕ × ℕ). g (spot m e) (Some e.1)) held
  shown_sum g h = ap (plan_sum g) is_made ∙ sum_from (spot m) (λ (e : ℕ × ℕ). e.1) (length (places m.ship)) held g h low spots_differ

-- the count of a set, and the weight of a stack, as such sums
pub counted_sum : (w : Option ℕ → ℕ) (f : ℕ → Bool) (plan : Plan) → pos (counted w f plan) ≡ plan_sum (λ p o. pos (cond (f p) (w o) 0)) plan
counted_sum w f [] = refl
counted_sum w f (o ∷ os) = omega (arith, ints, counted_sum w (λ p. f (suc p)) os)

pub stack_sum : (f : Place × Option ℕ → ℕ) (ps : List Place) (plan : Plan) → length plan ≡ length ps → pos (sum_by f (zip ps plan)) ≡ plan_sum (λ p o. pos (f (slice_index_or ps p no_place, o))) plan
stack_sum f [] [] h = refl
stack_sum f [] (o ∷ os) h = absurd (omega arith)
stack_sum f (p ∷ ps) [] h = absurd (omega arith)
stack_sum f (p ∷ ps) (o ∷ os) h = omega (arith, ints, stack_sum f ps os (omega arith), sum_by-cons f (p, o) (zip ps os))
