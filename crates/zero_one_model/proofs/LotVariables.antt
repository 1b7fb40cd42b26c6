-- The variables of the lots: all variables, each once.
use Rattle.std.proofs.Common.{◌≡◌, ◌≢◌, ℕ, ◌+◌, ◌*◌, ◌/◌, ◌%◌, ◌<◌, ◌==◌, Bool, true, false, ◌&&◌, List, [], ◌++◌, arith, refl, sym, ◌∙◌, ap, subst, length}
use Rattle.std.specs.Prelude.{slice_index_or, filter, flat_map, map, pos, All, nat_lt}
use Rattle.std.specs.List.{range_with_len}
use Rattle.std.proofs.lemmas.Bool.{eqb-true, eq-eqb}
use Rattle.std.proofs.lemmas.List.{append-nil, append_assoc, length-map}
use Rattle.std.proofs.lemmas.List.Elements.{filter-append}
use Rattle.std.proofs.lemmas.Nat.{div-mul-add, mod-mul-add, mul-add-lt}
use Rattle.std.proofs.Math.Nat.{mul_comm}
use Rattle.stow_data.proofs.Members.{Member, flat_at, flat_from, range_at, range_from}
use Rattle.zero_one_rows.specs.declared.program.Var.{Var}
use Rattle.zero_one_rows.specs.declared.program.Row.{Row}
use Rattle.zero_one_rows.specs.declared.program.Row.TheVariants.{Cross}
use Rattle.zero_one_rows.specs.Variables.{Voyage, calls, all_kinds, kind, variables, var, no_var}
use Rattle.stow_data.specs.Ship.{same_length}
use Rattle.zero_one_rows.specs.Chains.{is_pair}
use Rattle.zero_one_rows.specs.Crossing.{crosses, length_of}
use Rattle.zero_one_rows.specs.Rows.{bit, coef}
use Rattle.zero_one_rows.proofs.VariableList.{filter_at, filter_from, var_listed, get_member}
use Rattle.zero_one_rows.specs.Grouping.{IsGrouped}
use Rattle.zero_one_rows.proofs.Added.{flat_more}
use Rattle.zero_one_rows.proofs.Filters.{filter_same, filter_none}
use Rattle.zero_one_rows.proofs.Rising.{Rising, rising_flat, rising_filter, rising_range, rising_get}
use Rattle.zero_one_model.specs.Indexed.{IsCandidates, lot, lot_of, stands}
use Rattle.zero_one_model.proofs.Touched.{contains_from, get_mapped_or, rising_weaker}

same_lot : (n p g q h : ℕ) → g < n → h < n → lot n p g ≡ lot n q h → (p ≡ q) × (g ≡ h)
same_lot n p g q h l k e = (
  sym (div-mul-add p n g l) ∙ ap (λ (x : ℕ). x / n) e ∙ div-mul-add q n h k,
  sym (mod-mul-add p n g l) ∙ ap (λ (x : ℕ). x % n) e ∙ mod-mul-add q n h k,
)

module _ (m : Voyage) where
  abbrev key : Var → ℕ
  key v = lot (length (all_kinds m)) v.put v.kind

  pub lot_at : (put g v : ℕ) → g < length (all_kinds m) → Member v (lot_of m put g) → (v < length (variables m)) × ((var m v).put ≡ put) × ((var m v).kind ≡ g)
  lot_at put g v l h =
      let r = filter_at (λ v. slice_index_or (map key (variables m)) v 0 == lot (length (all_kinds m)) put g) (range_with_len 0 (length (map key (variables m)))) v h in
      let q = range_at 0 (length (map key (variables m))) v r.0 in
      let long : length (map key (variables m)) ≡ length (variables m) = length-map (variables m) key in
      let low : v < length (variables m) = omega (arith, q.1, long) in
      let at : key (var m v) ≡ lot (length (all_kinds m)) put g = sym (get_mapped_or key (variables m) v no_var 0 low) ∙ eqb-true (slice_index_or (map key (variables m)) v 0) (lot (length (all_kinds m)) put g) r.1 in
      let named = (var_listed m v low).1 in
      let same = same_lot (length (all_kinds m)) (var m v).put (var m v).kind put g named.kind l at in
      (low, same.0, same.1)

  lot_from : (v : ℕ) → v < length (variables m) → Member v (lot_of m (var m v).put (var m v).kind)
  lot_from v low =
      let long : length (map key (variables m)) ≡ length (variables m) = length-map (variables m) key in
      filter_from (λ w. slice_index_or (map key (variables m)) w 0 == lot (length (all_kinds m)) (var m v).put (var m v).kind) (range_with_len 0 (length (map key (variables m)))) v (range_from 0 (length (map key (variables m))) v (omega arith) (omega (arith, low, long)))
      (eq-eqb (slice_index_or (map key (variables m)) v 0) (lot (length (all_kinds m)) (var m v).put (var m v).kind) (get_mapped_or key (variables m) v no_var 0 low))

  abbrev pub of_put : ℕ → List ℕ
  of_put put = flat_map (lot_of m put) (range_with_len 0 (length (all_kinds m)))

  abbrev pub all_lots : List ℕ
  all_lots = flat_map of_put (range_with_len 0 (calls m))

  put_at : (put v : ℕ) → Member v (of_put put) → (v < length (variables m)) × ((var m v).put ≡ put)
  put_at put v h =
      let a = flat_at (lot_of m put) (range_with_len 0 (length (all_kinds m))) v h in
      let q = range_at 0 (length (all_kinds m)) a.0 a.1 in
      let r = lot_at put a.0 v (omega (arith, q.1)) a.2 in
      (r.0, r.1)

  lot_rises : (put g : ℕ) → Rising (λ (x y : ℕ). x ≢ y) (lot_of m put g)
  lot_rises put g = rising_weaker (λ (x y : ℕ). x < y) (λ (x y : ℕ). x ≢ y) (lot_of m put g) (λ x y l e. omega (arith, l, e)) (rising_filter (λ (x y : ℕ). x < y) (λ v. slice_index_or (map key (variables m)) v 0 == lot (length (all_kinds m)) put g) (range_with_len 0 (length (map key (variables m)))) (rising_range 0 (length (map key (variables m)))))

  lot_key : (put g v : ℕ) → Member v (lot_of m put g) → key (var m v) ≡ lot (length (all_kinds m)) put g
  lot_key put g v h =
      let r = filter_at (λ v. slice_index_or (map key (variables m)) v 0 == lot (length (all_kinds m)) put g) (range_with_len 0 (length (map key (variables m)))) v h in
      let q = range_at 0 (length (map key (variables m))) v r.0 in
      let long : length (map key (variables m)) ≡ length (variables m) = length-map (variables m) key in
      let low : v < length (variables m) = omega (arith, q.1, long) in
      sym (get_mapped_or key (variables m) v no_var 0 low) ∙ eqb-true (slice_index_or (map key (variables m)) v 0) (lot (length (all_kinds m)) put g) r.1

  apart_kinds : (put g h y w : ℕ) → g < h → Member y (lot_of m put g) → Member w (lot_of m put h) → y ≢ w
  apart_kinds put g h y w l a b e =
      let k : key (var m y) ≡ lot (length (all_kinds m)) put g = lot_key put g y a in
      let n : key (var m w) ≡ lot (length (all_kinds m)) put h = lot_key put h w b in
      let same : lot (length (all_kinds m)) put g ≡ lot (length (all_kinds m)) put h = sym k ∙ ap (λ (z : ℕ). key (var m z)) e ∙ n in
      omega (arith, l, same)

  lots_rise : Rising (λ (x y : ℕ). x ≢ y) all_lots
  lots_rise = rising_flat (λ (x y : ℕ). x ≢ y) (λ (x y : ℕ). x < y) of_put (range_with_len 0 (calls m)) (rising_range 0 (calls m))
      (λ p q l y w a b e. let i = put_at p y a in let j = put_at q w b in let same = ap (λ (z : ℕ). (var m z).put) e in omega (arith, l, i.1, j.1, same))
      (λ p. rising_flat (λ (x y : ℕ). x ≢ y) (λ (x y : ℕ). x < y) (lot_of m p) (range_with_len 0 (length (all_kinds m))) (rising_range 0 (length (all_kinds m))) (λ g h l y w a b. apart_kinds p g h y w l a b) (lot_rises p))

  pub all_lots_candidates : (r : Row) → IsCandidates m r (all_lots ++ [])
  all_lots_candidates r = rw (append-nil all_lots) (record {
    inside = λ k d l. (let a = flat_at of_put (range_with_len 0 (calls m)) (slice_index_or all_lots k d) (get_member all_lots k d l) in (put_at a.0 (slice_index_or all_lots k d) a.2).0);
    each = λ v t. contains_from all_lots v (let n = (var_listed m v t.inside).1 in
        flat_from of_put (range_with_len 0 (calls m)) (var m v).put v (range_from 0 (calls m) (var m v).put (omega arith) (omega (arith, n.put)))
        (flat_from (lot_of m (var m v).put) (range_with_len 0 (length (all_kinds m))) (var m v).kind v (range_from 0 (length (all_kinds m)) (var m v).kind (omega arith) (omega (arith, n.kind))) (lot_from v t.inside)));
    once = λ a b d l q. rising_get (λ (x y : ℕ). x ≢ y) all_lots a b d lots_rise l q;
  })

  pub lot_inside : (put g : ℕ) → g < length (all_kinds m) → All (λ v. v < length (variables m)) (lot_of m put g)
  lot_inside put g l k d q = (lot_at put g (slice_index_or (lot_of m put g) k d) l (get_member (lot_of m put g) k d q)).0

  -- a lot none of whose variables stands in the row
  pub none_stand : (r : Row) (put g : ℕ) → g < length (all_kinds m) → ((x : Var) → x.put ≡ put → x.kind ≡ g → coef m r x ≡ pos 0) → filter (stands m r) (lot_of m put g) ≡ []
  none_stand r put g l h = filter_same (stands m r) (λ v. false) (lot_of m put g) (λ v k. let a = lot_at put g v l k in rw (h (var m v) a.1 a.2) refl) ∙ filter_none (lot_of m put g)

-- the group of a lot
pub lot_group : (m : Voyage) (groups : List (List ℕ)) (put g : ℕ) → IsGrouped (map (λ (v : Var). lot (length (all_kinds m)) v.put v.kind) (variables m)) (calls m * length (all_kinds m)) groups → put < calls m → g < length (all_kinds m) → slice_index_or groups (lot (length (all_kinds m)) put g) [] ≡ lot_of m put g
lot_group m groups put g is l k = is.of (lot (length (all_kinds m)) put g) (subst (λ (n : ℕ). lot (length (all_kinds m)) put g < n) (mul_comm (length (all_kinds m)) (calls m)) (mul-add-lt put (length (all_kinds m)) g (calls m) l k))

-- what isn't loaded for a pair of the chain stands in none of its rows
pub not_crossing : (m : Voyage) (l p : ℕ) (c : List ℕ) (put g : ℕ) → crosses m l c (record { put = put; kind = g; lifted = 0; place = 0 }) ≡ false → (x : Var) → x.put ≡ put → x.kind ≡ g → coef m (Cross l p c) x ≡ pos 0
not_crossing m l p c put g h x e f = rw (e, f) (go (same_length (length_of l) (kind m g).long) (is_pair c put (kind m g).dest) h)
  where
    late : (a b : ℕ) → nat_lt 0 b ≡ false → nat_lt a b ≡ false
    late a b h = grind arith

    go : (a b : Bool) → (a && (b && nat_lt 0 (kind m g).dest)) ≡ false → bit (a && (b && nat_lt x.lifted (kind m g).dest)) ≡ pos 0
    go true true k = rw (late x.lifted (kind m g).dest k) refl
    go true false k = refl
    go false b k = refl

-- one more part
pub more_flat : (t : ℕ → Bool) (f : ℕ → List ℕ) (n : ℕ) (front old new : List ℕ) → old ≡ front ++ filter t (flat_map f (range_with_len 0 n)) → new ≡ old ++ filter t (f n) → new ≡ front ++ filter t (flat_map f (range_with_len 0 (n + 1)))
more_flat t f n front old new h e =
    e ∙ ap (λ (xs : List ℕ). xs ++ filter t (f n)) h ∙ append_assoc front (filter t (flat_map f (range_with_len 0 n))) (filter t (f n))
    ∙ ap (λ (xs : List ℕ). front ++ xs) (sym (ap (filter t) (flat_more f n) ∙ filter-append t (flat_map f (range_with_len 0 n)) (f n)))
