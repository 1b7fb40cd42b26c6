-- Base rows by their numbers, and lists of what each is filed under.
use Rattle.std.proofs.Common.{◌≡◌, ℕ, zero, suc, ◌<◌, ◌≤◌, ◌+◌, true, List, [], ◌∷◌, ◌++◌, arith, refl, sym, ◌∙◌, ap, length, take, Some}
use Rattle.std.specs.Prelude.{map, slice_get}
use Rattle.std.proofs.lemmas.List.{take_more, take_all, length-append, map-append}
use Rattle.std.proofs.lemmas.Option.{get_or_from_slice_get, slice_get_within}
use Rattle.stow_data.proofs.Members.{Member}
use Rattle.zero_one_rows.specs.declared.program.Row.{Row}
use Rattle.zero_one_rows.specs.Variables.{Voyage}
use Rattle.zero_one_rows.specs.Rows.{has, is_base}
use Rattle.zero_one_rows.specs.Counted.{row_lists, base_rows, base_in, rows_in, cross_rows}
use Rattle.zero_one_rows.specs.declared.row_lists.RowLists.{RowLists}
use Rattle.zero_one_rows.specs.Ordered.{Precedes}
use Rattle.zero_one_rows.proofs.EveryRow.{lists_base_rows, right_of}
use Rattle.zero_one_rows.proofs.InOrder.{all_rise}
use Rattle.zero_one_rows.proofs.Rising.{Rising}
use Rattle.stow_data.proofs.Distinct.{Each}
use Rattle.zero_one_model.proofs.Touched.{contains_from}

get_front : {X : Type 0} (xs ys : List X) (k : ℕ) → k < length xs → slice_get (xs ++ ys) k ≡ slice_get xs k
get_front [] ys k l = absurd (omega arith)
get_front (x ∷ xs) ys zero l = refl
get_front (x ∷ xs) ys (suc k) l = get_front xs ys k (omega arith)

pub base_first : (l : RowLists) (k : ℕ) (r : Row) → k < length (base_in l) → slice_get (rows_in l) k ≡ Some r → slice_get (base_in l) k ≡ Some r
unfolding rows_in
base_first l k r low h = sym (get_front (base_in l) (cross_rows l) k low) ∙ h

pub base_few : (l : RowLists) → length (base_in l) ≤ length (rows_in l)
unfolding rows_in
base_few l = let e = length-append (base_in l) (cross_rows l) in omega (arith, e)

pub base_has : (m : Voyage) (r : Row) → Member r (base_rows m) → has m r ≡ true
base_has m r h = right_of (is_base r) (has m r) ((lists_base_rows m r).0 (contains_from (base_rows m) r h))

front_rises : {X : Type 0} (R : X → X → Type 0) (xs ys : List X) → Rising R (xs ++ ys) → Rising R xs
front_rises R [] ys h = tt
front_rises R (x ∷ xs) ys h = (front_each (R x) xs ys h.0, front_rises R xs ys h.1)
  where
    front_each : {X : Type 0} (P : X → Type 0) (xs ys : List X) → Each P (xs ++ ys) → Each P xs
    front_each P [] ys h = tt
    front_each P (x ∷ xs) ys h = (h.0, front_each P xs ys h.1)

pub base_rise : (m : Voyage) → Rising Precedes (base_rows m)
unfolding rows_in
base_rise m = front_rises Precedes (base_rows m) (cross_rows (row_lists m)) (all_rise m)

-- one more row filed
pub filed_more : (f : Row → ℕ) (rs : List Row) (k : ℕ) (r : Row) (old new : List ℕ) (key : ℕ) → slice_get rs k ≡ Some r → old ≡ map f (take k rs) → key ≡ f r → new ≡ old ++ key ∷ [] → new ≡ map f (take (k + 1) rs)
filed_more f rs k r old new key at e same h =
    let l = slice_get_within rs k r at in
    let more : take (k + 1) rs ≡ take k rs ++ r ∷ [] = take_more rs k r l ∙ ap (λ (x : Row). take k rs ++ x ∷ []) (get_or_from_slice_get rs k r r at) in
    h ∙ ap (λ (xs : List ℕ). xs ++ key ∷ []) e ∙ ap (λ (z : ℕ). map f (take k rs) ++ z ∷ []) same ∙ sym (map-append f (take k rs) (r ∷ [])) ∙ ap (map f) (sym more)

pub filed_all : (f : Row → ℕ) (rs : List Row) (k : ℕ) (keys : List ℕ) → length rs ≤ k → keys ≡ map f (take k rs) → keys ≡ map f rs
filed_all f rs k keys l e = e ∙ ap (map f) (take_all k rs l)
