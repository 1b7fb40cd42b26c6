-- The list of variables has each variable once.
use Rattle.std.proofs.Common.{◌≡◌, ℕ, zero, suc, ◌<◌, ◌≤◌, ◌+◌, Bool, true, false, cond, List, [], ◌∷◌, arith, refl, sym, ◌∙◌, ap, inl, inr, subst, length, Some}
use Rattle.std.specs.Prelude.{slice_index_or, filter}
use Rattle.std.specs.List.{range_with_len}
use Rattle.std.proofs.lemmas.Bool.{both_ways}
use Rattle.std.proofs.lemmas.Option.{slice_get-get_or}
use Rattle.stow_data.specs.Ship.{places}
use Rattle.stow_data.proofs.Members.{Member, flat_at, flat_from, map_at, map_from, range_at, range_from}
use Rattle.stow_data.proofs.Distinct.{Each, Distinct, each_at, each_from, distinct_flat, distinct_map, distinct_range, distinct_get}
use Rattle.zero_one_rows.specs.declared.program.Var.{Var}
use Rattle.zero_one_rows.specs.Variables.{Voyage, calls, all_kinds, is_var, variables, var, no_var}
use Rattle.zero_one_rows.specs.Listed.{ListsVariables, ListsEach, ListsOnce}

pub filter_at : {X : Type 0} (t : X → Bool) (xs : List X) (y : X) → Member y (filter t xs) → Member y xs × (t y ≡ true)
filter_at t [] y h = absurd h
filter_at {X} t (x ∷ xs) y h = go (t x) refl h (λ k. filter_at t xs y k)
  where
    go : (b : Bool) → t x ≡ b → Member y (cond b (x ∷ filter t xs) (filter t xs)) → (Member y (filter t xs) → Member y xs × (t y ≡ true)) → Member y (x ∷ xs) × (t y ≡ true)
    go true e (inl s) rest = (inl s, ap t s ∙ e)
    go true e (inr n) rest = let r = rest n in (inr r.0, r.1)
    go false e n rest = let r = rest n in (inr r.0, r.1)

pub filter_from : {X : Type 0} (t : X → Bool) (xs : List X) (y : X) → Member y xs → t y ≡ true → Member y (filter t xs)
filter_from t [] y h k = absurd h
filter_from {X} t (x ∷ xs) y (inl e) k = go (t x) (ap t (sym e) ∙ k)
  where
    go : (b : Bool) → b ≡ true → Member y (cond b (x ∷ filter t xs) (filter t xs))
    go true h = inl e
    go false h = absurd (both_ways false refl h)
filter_from {X} t (x ∷ xs) y (inr n) k = go (t x) (filter_from t xs y n k)
  where
    go : (b : Bool) → Member y (filter t xs) → Member y (cond b (x ∷ filter t xs) (filter t xs))
    go true r = inr r
    go false r = r

pub distinct_filter : {X : Type 0} (t : X → Bool) (xs : List X) → Distinct xs → Distinct (filter t xs)
distinct_filter t [] d = tt
distinct_filter {X} t (x ∷ xs) d = go (t x) (each_from _ (filter t xs) (λ y n. each_at _ xs y d.0 (filter_at t xs y n).0)) (distinct_filter t xs d.1)
  where
    go : (b : Bool) → Each (λ y. x ≡ y → ⊥) (filter t xs) → Distinct (filter t xs) → Distinct (cond b (x ∷ filter t xs) (filter t xs))
    go true a r = (a, r)
    go false a r = r

pub get_member : {X : Type 0} (xs : List X) (k : ℕ) (d : X) → k < length xs → Member (slice_index_or xs k d) xs
get_member [] k d h = absurd (omega arith)
get_member (x ∷ xs) zero d h = inl refl
get_member (x ∷ xs) (suc k) d h = inr (get_member xs k d (omega arith))

pub member_get : {X : Type 0} (xs : List X) (x d : X) → Member x xs → (k : ℕ) × (k < length xs) × (slice_index_or xs k d ≡ x)
member_get [] x d h = absurd h
member_get (y ∷ ys) x d (inl e) = (0, omega arith, sym e)
member_get (y ∷ ys) x d (inr h) = let r = member_get ys x d h in (suc r.0, omega (arith, r.1), r.2)

pub var_listed : ListsVariables
unfolding variables
var_listed m v l =
    let f = filter_at (is_var m) _ (var m v) (get_member (variables m) v no_var l) in
    let a = flat_at _ (range_with_len 0 (calls m)) (var m v) f.0 in
    let b = flat_at _ (range_with_len 0 (length (all_kinds m))) (var m v) a.2 in
    let c = flat_at _ (range_with_len 0 (calls m + 1)) (var m v) b.2 in
    let d = map_at _ (range_with_len 0 (length (places m.ship))) (var m v) c.2 in
    let p = range_at 0 _ a.0 a.1 in let q = range_at 0 _ b.0 b.1 in let r = range_at 0 _ c.0 c.1 in let s = range_at 0 _ d.0 d.1 in
    let back : (P : Var → Type 0) → P (record { put = a.0; kind = b.0; lifted = c.0; place = d.0 }) → P (var m v) = λ P h. subst P (sym d.2) h in (
      f.1,
      record {
        put = back (λ x. x.put < calls m) (omega (arith, p.1));
        kind = back (λ x. x.kind < length (all_kinds m)) (omega (arith, q.1));
        lifted = back (λ x. x.lifted ≤ calls m) (omega (arith, r.1));
        place = back (λ x. x.place < length (places m.ship)) (omega (arith, s.1));
      },
    )

pub var_number : ListsEach
unfolding variables
var_number m x h r = member_get (variables m) x no_var (filter_from (is_var m) _ x
    (flat_from _ (range_with_len 0 (calls m)) x.put x (range_from 0 _ x.put (omega arith) (omega (arith, r.put)))
    (flat_from _ (range_with_len 0 (length (all_kinds m))) x.kind x (range_from 0 _ x.kind (omega arith) (omega (arith, r.kind)))
    (flat_from _ (range_with_len 0 (calls m + 1)) x.lifted x (range_from 0 _ x.lifted (omega arith) (omega (arith, r.lifted)))
    (map_from (λ (s : ℕ). record { put = x.put; kind = x.kind; lifted = x.lifted; place = s }) (range_with_len 0 (length (places m.ship))) x.place (range_from 0 _ x.place (omega arith) (omega (arith, r.place))))))) h)

pub distinct_variables : (m : Voyage) → Distinct (variables m)
unfolding variables
distinct_variables m = distinct_filter (is_var m) _ (distinct_flat _ (λ (x : Var). x.put) (λ (n : ℕ). n) (range_with_len 0 (calls m)) (distinct_range 0 (calls m))
    (λ i y h. let b = flat_at _ (range_with_len 0 (length (all_kinds m))) y h in let c = flat_at _ (range_with_len 0 (calls m + 1)) y b.2 in let d = map_at _ (range_with_len 0 (length (places m.ship))) y c.2 in ap (λ (z : Var). z.put) d.2)
    (λ i. distinct_flat _ (λ (x : Var). x.kind) (λ (n : ℕ). n) (range_with_len 0 (length (all_kinds m))) (distinct_range 0 (length (all_kinds m)))
    (λ g y h. let c = flat_at _ (range_with_len 0 (calls m + 1)) y h in let d = map_at _ (range_with_len 0 (length (places m.ship))) y c.2 in ap (λ (z : Var). z.kind) d.2)
    (λ g. distinct_flat _ (λ (x : Var). x.lifted) (λ (n : ℕ). n) (range_with_len 0 (calls m + 1)) (distinct_range 0 (calls m + 1))
    (λ v y h. let d = map_at _ (range_with_len 0 (length (places m.ship))) y h in ap (λ (z : Var). z.lifted) d.2)
    (λ v. distinct_map (λ (s : ℕ). record { put = i; kind = g; lifted = v; place = s }) (λ (x : Var). x.place) (range_with_len 0 (length (places m.ship))) (λ s. refl) (distinct_range 0 (length (places m.ship)))))))

pub var_once : ListsOnce
var_once m v w l k e = distinct_get (variables m) v w (var m v) (distinct_variables m) (slice_get-get_or (variables m) v no_var l) (slice_get-get_or (variables m) w no_var k ∙ ap (λ (x : Var). Some x) (sym e))
