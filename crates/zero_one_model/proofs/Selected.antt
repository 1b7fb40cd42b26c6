-- The variables that touch a row, among those that may.
use Rattle.std.proofs.Common.{◌≡◌, ◌≢◌, ℕ, ◌<◌, Bool, true, false, not, List, ◌++◌, arith, refl, sym, ◌∙◌, ap, subst, length, ◌↔◌}
use Rattle.std.specs.Prelude.{slice_index_or, filter, pos, All, Contains}
use Rattle.std.specs.List.{AllPairs}
use Rattle.std.specs.Ordering.{int_eq}
use Rattle.std.specs.Cmp.{signed_Decides}
use Rattle.std.proofs.lemmas.Bool.{false≢true}
use Rattle.std.proofs.lemmas.List.Kept.{AllPairs-filter}
use Rattle.stow_data.proofs.Members.{Member, member_left, member_right}
use Rattle.stow_data.specs.Profile.{IsShip}
use Rattle.stow_data.specs.Ship.{Ship, places}
use Rattle.zero_one_rows.specs.declared.program.Row.{Row}
use Rattle.zero_one_rows.specs.declared.program.Var.{Var}
use Rattle.zero_one_rows.specs.Variables.{Voyage, variables, var, no_var}
use Rattle.zero_one_rows.specs.Rows.{coef}
use Rattle.zero_one_rows.proofs.VariableList.{filter_at, filter_from, var_listed}
use Rattle.zero_one_rows.specs.Rows.{whole}
use Rattle.zero_one_model.specs.Indexed.{Touches, IsIndex, IsCandidates, is_keyed, first_of, second_of, stands}
use Rattle.zero_one_model.specs.declared.index.Index.{Index}
use Rattle.zero_one_model.proofs.Touched.{contains_at, contains_from, get_any}
use Rattle.zero_one_model.proofs.Chosen.{chosen}

pub chosen_parts : (m : Voyage) → IsShip m.ship → length m.cargo.arrival ≡ length (places m.ship) → (x : Index) → IsIndex m x → (r : Row) → is_keyed r ≡ true → (whole m).has r ≡ true → (a b : List ℕ) → a ≡ first_of m.ship x r → b ≡ second_of m.ship x r → IsCandidates m r (a ++ b)
chosen_parts m rules arrival x is r found has a b e f = rw (e, f) (chosen m rules arrival x is r found has)

pub not_true : (b : Bool) → not b ≡ true → b ≡ true → ⊥
not_true true h k = false≢true h
not_true false h k = false≢true k

pub not_from : (b : Bool) → (b ≡ true → ⊥) → not b ≡ true
not_from true h = absurd (h refl)
not_from false h = refl

module _ (m : Voyage) (r : Row) (a b : List ℕ) (c : IsCandidates m r (a ++ b)) where
  inside_at : (v : ℕ) → Member v (a ++ b) → v < length (variables m)
  inside_at v h = let k = contains_from (a ++ b) v h in subst (λ (z : ℕ). z < length (variables m)) k.2 (c.inside k.0 v k.1)

  pub left_inside : All (λ v. v < length (variables m)) a
  left_inside k d l = inside_at (slice_index_or a k d) (member_left (slice_index_or a k d) a b (contains_at a (slice_index_or a k d) (k, l, get_any a k (slice_index_or a k d) d l)))

  pub right_inside : All (λ v. v < length (variables m)) b
  right_inside k d l = inside_at (slice_index_or b k d) (member_right (slice_index_or b k d) a b (contains_at b (slice_index_or b k d) (k, l, get_any b k (slice_index_or b k d) d l)))

  pub selected_each : (whole m).has r ≡ true → (list : List ℕ) → list ≡ filter (stands m r) (a ++ b) → (x : ℕ) → Contains list x ↔ Touches m r x
  selected_each has list e x = (
    (λ (h : Contains list x).
        let f = filter_at (stands m r) (a ++ b) x (subst (λ (xs : List ℕ). Member x xs) e (contains_at list x h)) in
        record {
          has = has;
          inside = inside_at x f.0;
          other = λ (q : coef m r (var m x) ≡ pos 0). not_true (int_eq (coef m r (var m x)) (pos 0)) f.1 ((signed_Decides (coef m r (var m x)) (pos 0)).1 q);
        }),
    (λ (t : Touches m r x). contains_from list x (subst (λ (xs : List ℕ). Member x xs) (sym e)
        (filter_from (stands m r) (a ++ b) x (contains_at (a ++ b) x (c.each x t)) (not_from (int_eq (coef m r (var m x)) (pos 0)) (λ q. t.other ((signed_Decides (coef m r (var m x)) (pos 0)).0 q)))))),
  )

  pub selected_once : (list : List ℕ) → list ≡ filter (stands m r) (a ++ b) → AllPairs (λ v w. v ≢ w) list
  selected_once list e = subst (λ (xs : List ℕ). AllPairs (λ v w. v ≢ w) xs) (sym e) (AllPairs-filter (λ v w. v ≢ w) (stands m r) (a ++ b) c.once)

-- the places of the variables are there
pub places_in : (m : Voyage) (ship : Ship) (vars : List Var) → ship ≡ m.ship → vars ≡ variables m → All (λ v. v.place < length (places ship)) vars
places_in m ship vars s e k d l =
    let long = ap length e in
    let named = (var_listed m k (omega (arith, l, long))).1 in
    let same : slice_index_or vars k d ≡ slice_index_or (variables m) k no_var = get_any vars k d no_var l ∙ ap (λ (xs : List Var). slice_index_or xs k no_var) e in
    let size = ap (λ (z : Ship). length (places z)) s in
    let at = ap (λ (x : Var). x.place) same in
    omega (arith, named.place, size, at)
