-- The weight of a stack, added up over its own places.
use Rattle.std.specs.Prelude.{◌≡◌, ℕ, ◌+◌, ◌<◌, ◌≤◌, ◌==◌, suc, zero, List, [], ◌∷◌, Option, length, slice_get, Some, zip, sum_by}
use Rattle.std.proofs.Common.{sym, ◌∙◌, ap, arith, take, take_all, ◌⊎◌, inl, ⊎_elim}
use Rattle.std.proofs.lemmas.Bool.{cond-false, ne_eqb, cases_order}
use Rattle.std.proofs.lemmas.Option.{slice_get_within, none-some, same_Some, get_or_from_slice_get}
use Rattle.std.proofs.lemmas.List.Sums.{sum_by_more}
use Rattle.stow_data.specs.declared.geometry.Place.{Place}
use Rattle.stow_data.specs.Ship.{Ship, places}
use Rattle.stow_data.specs.Shipment.{Cargo}
use Rattle.stow_data.specs.Plans.{Plan}
use Rattle.stowage_rules.specs.Departure.{stack_weight, weight_in}
use Rattle.stowage_rules.specs.Tiers.{IsFirstOf}
use Rattle.stowage_rules.proofs.Items.{slice_get_in}
use Rattle.stowage_rules.proofs.Rising.{rising}

zip_get : {X Y : Type 0} (xs : List X) (ys : List Y) (k : ℕ) (x : X) (y : Y) → slice_get xs k ≡ Some x → slice_get ys k ≡ Some y → slice_get (zip xs ys) k ≡ Some (x, y)
zip_get [] ys k x y h i = absurd (none-some x h)
zip_get (a ∷ xs) [] k x y h i = absurd (none-some y i)
zip_get (a ∷ xs) (b ∷ ys) zero x y h i = let p : a ≡ x = same_Some a x h in let q : b ≡ y = same_Some b y i in cc
zip_get (a ∷ xs) (b ∷ ys) (suc k) x y h i = zip_get xs ys k x y h i

zip_first : {X Y : Type 0} (xs : List X) (ys : List Y) (k : ℕ) (e : X × Y) → slice_get (zip xs ys) k ≡ Some e → slice_get xs k ≡ Some (e.0)
zip_first [] ys k e h = absurd (none-some e h)
zip_first (a ∷ xs) [] k e h = absurd (none-some e h)
zip_first (a ∷ xs) (b ∷ ys) zero e h = let p : (a, b) ≡ e = same_Some (a, b) e h in ap (λ z. Some (z.0)) p
zip_first (a ∷ xs) (b ∷ ys) (suc k) e h = zip_first xs ys k e h

-- the next place's weight
pub weigh_more : (ship : Ship) (cargo : Cargo) (plan : Plan) (s p total weight : ℕ) → length plan ≡ length (places ship) → p < length (places ship) → total ≡ sum_by (weight_in ship.weight_step cargo s) (take p (zip (places ship) plan))
    → ((place : Place) (o : Option ℕ) → slice_get (places ship) p ≡ Some place → slice_get plan p ≡ Some o → weight ≡ weight_in ship.weight_step cargo s (place, o)) → total + weight ≡ sum_by (weight_in ship.weight_step cargo s) (take (p + 1) (zip (places ship) plan))
weigh_more ship cargo plan s p total weight same inside so_far weighs =
    let place = slice_get_in (places ship) p inside in
    let what = slice_get_in plan p (omega arith) in
    let both = zip_get (places ship) plan p place.0 what.0 place.1 what.1 in
    let more = sum_by_more (weight_in ship.weight_step cargo s) (zip (places ship) plan) p (place.0, what.0) (slice_get_within (zip (places ship) plan) p (place.0, what.0) both) in
    let at = ap (weight_in ship.weight_step cargo s) (get_or_from_slice_get (zip (places ship) plan) p (place.0, what.0) (place.0, what.0) both) in
    omega (arith, more, at, weighs place.0 what.0 place.1 what.1, so_far)

length_zip : {X Y : Type 0} (xs : List X) (ys : List Y) → length (zip xs ys) ≤ length xs
length_zip [] ys = omega arith
length_zip (x ∷ xs) [] = omega arith
length_zip (x ∷ xs) (y ∷ ys) = omega (arith, length_zip xs ys)

-- items that weigh nothing add nothing
free_item : {X : Type 0} (w : X → ℕ) (xs : List X) (p : ℕ) → ((x : X) → slice_get xs p ≡ Some x → w x ≡ 0) → sum_by w (take (p + 1) xs) ≡ sum_by w (take p xs)
free_item {X} w xs p free = ⊎_elim
    (λ (e : p ≡ length xs). ap (sum_by w) (take_all (p + 1) xs (omega arith) ∙ sym (take_all p xs (omega arith))))
    (λ (o : (p < length xs) ⊎ (length xs < p)). ⊎_elim
    (λ (l : p < length xs). let x = slice_get_in xs p l in let more = sum_by_more w xs p x.0 l in let at = ap w (get_or_from_slice_get xs p x.0 x.0 x.1) in omega (arith, more, at, free x.0 x.1))
    (λ (l : length xs < p). ap (sum_by w) (take_all (p + 1) xs (omega arith) ∙ sym (take_all p xs (omega arith)))) o)
    (cases_order p (length xs))

free_items : {X : Type 0} (w : X → ℕ) (xs : List X) (n d : ℕ) → ((k : ℕ) (x : X) → n ≤ k → k < n + d → slice_get xs k ≡ Some x → w x ≡ 0) → sum_by w (take (n + d) xs) ≡ sum_by w (take n xs)
free_items w xs n zero free = let e : n + zero ≡ n = omega arith in ap (λ k. sum_by w (take k xs)) e
free_items w xs n (suc d) free = let e : n + suc d ≡ n + d + 1 = omega arith in ap (λ k. sum_by w (take k xs)) e ∙ (free_item w xs (n + d) (λ x at. free (n + d) x (omega arith) (omega arith) at) ∙ free_items w xs n d (λ k x l m at. free k x l (omega arith) at))

-- a place of another stack adds nothing
other_free : (ship : Ship) (cargo : Cargo) (s : ℕ) (e : Place × Option ℕ) → (e.0.stack ≡ s → ⊥) → weight_in ship.weight_step cargo s e ≡ 0
other_free ship cargo s e other = cond-false (e.0.stack == s) _ _ (ne_eqb e.0.stack s other)

pub none_yet : (ship : Ship) (cargo : Cargo) (plan : Plan) (s first : ℕ) → IsFirstOf ship s 0 first → 0 ≡ sum_by (weight_in ship.weight_step cargo s) (take first (zip (places ship) plan))
none_yet ship cargo plan s first is = let e : 0 + first ≡ first = omega arith in
    sym (ap (λ k. sum_by (weight_in ship.weight_step cargo s) (take k (zip (places ship) plan))) (sym e) ∙ free_items (weight_in ship.weight_step cargo s) (zip (places ship) plan) 0 first (λ k x l m at.
    other_free ship cargo s x (λ same. ⊎_elim
    (λ (a : (x.0).stack < s). omega arith)
    (λ (b : ((x.0).stack ≡ s) × ((x.0).tier < 0)). let no : (x.0).tier < 0 = b.1 in omega arith)
    ((is k (x.0) (zip_first (places ship) plan k x at)).0 (omega arith)))))

pub weigh_all : (ship : Ship) (cargo : Cargo) (plan : Plan) (s p total : ℕ) → length (places ship) ≤ p → total ≡ sum_by (weight_in ship.weight_step cargo s) (take p (zip (places ship) plan)) → total ≡ stack_weight ship cargo plan s
weigh_all ship cargo plan s p total far so_far = so_far ∙ ap (sum_by (weight_in ship.weight_step cargo s)) (take_all p (zip (places ship) plan) (omega (arith, length_zip (places ship) plan)))

-- from the first place of a later stack on nothing is added
pub none_after : (ship : Ship) (cargo : Cargo) (plan : Plan) (s first p total : ℕ) (here : Place) → IsFirstOf ship s 0 first → first ≤ p → slice_get (places ship) p ≡ Some here → (here.stack ≡ s → ⊥) → total ≡ sum_by (weight_in ship.weight_step cargo s) (take p (zip (places ship) plan)) → total ≡ stack_weight ship cargo plan s
none_after ship cargo plan s first p total here is l at other so_far =
    let far : s < here.stack = ⊎_elim
    (λ (e : here.stack ≡ s). absurd (other e))
    (λ (o : (here.stack < s) ⊎ (s < here.stack)). ⊎_elim (λ (a : here.stack < s). absurd (let back : p < first = (is p here at).1 (inl a) in omega arith)) (λ (a : s < here.stack). a) o)
    (cases_order here.stack s) in
    weigh_all ship cargo plan s (p + length (places ship)) total (omega arith) (so_far ∙ sym (free_items (weight_in ship.weight_step cargo s) (zip (places ship) plan) p (length (places ship)) (λ k x m n got.
    other_free ship cargo s x (λ same. ⊎_elim
    (λ (e : k ≡ p). let one : (x.0) ≡ here = same_Some (x.0) here (sym (zip_first (places ship) plan k x got) ∙ (ap (slice_get (places ship)) e ∙ at)) in other (sym (ap (λ (z : Place). z.stack) one) ∙ same))
    (λ (o : (k < p) ⊎ (p < k)). ⊎_elim (λ (a : k < p). omega arith) (λ (a : p < k). let up : here.stack ≤ (x.0).stack = rising ship p k here (x.0) a at (zip_first (places ship) plan k x got) in omega arith) o)
    (cases_order k p)))))
