-- Variables added, one part after another.
use Rattle.std.proofs.Common.{◌≡◌, ℕ, ◌≤◌, ◌+◌, Bool, true, false, cond, ◌&&◌, List, [], ◌∷◌, ◌++◌, arith, refl, sym, subst, ◌∙◌, ap, length, length-append, append_assoc}
use Rattle.std.specs.Prelude.{flat_map, filter, map, nat_lt, nat_le}
use Rattle.std.proofs.lemmas.List.{length-map, append-nil}
use Rattle.stow_data.specs.Ship.{places}
use Rattle.zero_one_rows.specs.Variables.{Voyage, calls, kind, all_kinds, is_var, variables}
use Rattle.zero_one_rows.specs.Offering.{offered, may_put}
use Rattle.zero_one_rows.proofs.Filters.{filter_flat, filter_map_by, filter_none, flat_same}
use Rattle.std.specs.List.{range_with_len}
use Rattle.stow_data.proofs.Members.{range-more}
use Rattle.zero_one_rows.specs.declared.program.Var.{Var}
use Rattle.zero_one_rows.specs.Enumerated.{Adds, at_places, at_lift, at_lifts, at_put, IsListing}
use Rattle.zero_one_rows.specs.declared.listing.Listing.{Listing}
use Rattle.std.proofs.lemmas.Grind.{flat_map-append}

pub adds_none : (l : Listing) → Adds l l []
adds_none l = record { counted = omega arith; appended = λ h. sym (append-nil l.vars) }

pub adds_more : (a b c : Listing) (xs ys : List Var) → Adds a b xs → Adds b c ys → Adds a c (xs ++ ys)
adds_more a b c xs ys h k =
    let long = length-append xs ys in
    record {
      counted = omega (arith, h.counted, k.counted, long);
      appended = λ (low : c.total ≤ 200000). k.appended low ∙ ap (λ (zs : List Var). zs ++ ys) (h.appended (omega (arith, low, k.counted))) ∙ append_assoc a.vars xs ys;
    }

pub flat_more : {Y : Type 0} (f : ℕ → List Y) (n : ℕ) → flat_map f (range_with_len 0 (n + 1)) ≡ flat_map f (range_with_len 0 n) ++ f n
flat_more {Y} f n =
    let last : 0 + n ≡ n = omega arith in
    ap (flat_map f) (range-more 0 n ∙ ap (λ (k : ℕ). range_with_len 0 n ++ k ∷ []) last) ∙ flat_map-append f (range_with_len 0 n) (n ∷ []) ∙ ap (λ (ys : List Y). flat_map f (range_with_len 0 n) ++ ys) (append-nil (f n))

pub adds_flat : (a b c : Listing) (f : ℕ → List Var) (n : ℕ) → Adds a b (flat_map f (range_with_len 0 n)) → Adds b c (f n) → Adds a c (flat_map f (range_with_len 0 (n + 1)))
adds_flat a b c f n h k = rw (flat_more f n) (adds_more a b c (flat_map f (range_with_len 0 n)) (f n) h k)

-- no more variables than places
pub lift_few : (i g dest v : ℕ) (places : List ℕ) → length places ≤ 3000 → length (at_lift i g dest places v) ≤ 3000
lift_few i g dest v places h = go (nat_lt i v && nat_le v dest)
  where
    go : (b : Bool) → length (cond b (at_places i g v places) []) ≤ 3000
    go true = let e : length (at_places i g v places) ≡ length places = length-map places (λ (s : ℕ). record { put = i; kind = g; lifted = v; place = s }) in omega (arith, e, h)
    go false = omega arith

-- the list of variables, gathered place by place
split_test : {Y : Type 0} (a b : Bool) (t : ℕ → Bool) (f : ℕ → Y) (xs : List ℕ) → map f (filter (λ s. a && (b && t s)) xs) ≡ cond (a && b) (map f (filter t xs)) []
split_test true true t f xs = refl
split_test true false t f xs = ap (map f) (filter_none xs)
split_test false b t f xs = ap (map f) (filter_none xs)

lift_filtered : (m : Voyage) (i g v : ℕ) → filter (is_var m) (at_places i g v (range_with_len 0 (length (places m.ship)))) ≡ at_lift i g (kind m g).dest (offered m i g) v
lift_filtered m i g v =
    filter_map_by (is_var m) (λ s. record { put = i; kind = g; lifted = v; place = s }) (range_with_len 0 (length (places m.ship)))
    ∙ split_test (nat_lt i v) (nat_le v (kind m g).dest) (may_put m i g) (λ s. record { put = i; kind = g; lifted = v; place = s }) (range_with_len 0 (length (places m.ship)))

pub variables_gathered : (m : Voyage) → variables m ≡ flat_map (at_put m) (range_with_len 0 (calls m))
unfolding variables
variables_gathered m =
    filter_flat (is_var m) _ (range_with_len 0 (calls m))
    ∙ flat_same _ (at_put m) (range_with_len 0 (calls m)) (λ i _.
    filter_flat (is_var m) _ (range_with_len 0 (length (all_kinds m)))
    ∙ flat_same _ (λ g. at_lifts (calls m) i g (kind m g).dest (offered m i g)) (range_with_len 0 (length (all_kinds m))) (λ g _.
    filter_flat (is_var m) _ (range_with_len 0 (calls m + 1))
    ∙ flat_same _ (at_lift i g (kind m g).dest (offered m i g)) (range_with_len 0 (calls m + 1)) (λ v _. lift_filtered m i g v)))

pub lifts_same : (old new : Listing) (n d : ℕ) (places : List ℕ) (m_calls i g dest : ℕ) (offers : List ℕ) → n ≡ m_calls → d ≡ dest → places ≡ offers → Adds old new (at_lifts n i g d places) → Adds old new (at_lifts m_calls i g dest offers)
lifts_same old new n d places w i g dest offers e f h k =
    let a : Adds old new (at_lifts w i g d places) = subst (λ (z : ℕ). Adds old new (at_lifts z i g d places)) e k in
    let b : Adds old new (at_lifts w i g dest places) = subst (λ (z : ℕ). Adds old new (at_lifts w i g z places)) f a in
    subst (λ (zs : List ℕ). Adds old new (at_lifts w i g dest zs)) h b

-- the whole list
pub listing_whole : (m : Voyage) (n : ℕ) (old new : Listing) → n ≡ calls m → old.total ≡ 0 → old.vars ≡ [] → Adds old new (flat_map (at_put m) (range_with_len 0 n)) → IsListing m new
listing_whole m n old new e z none h =
    let all : flat_map (at_put m) (range_with_len 0 n) ≡ variables m = ap (λ (k : ℕ). flat_map (at_put m) (range_with_len 0 k)) e ∙ sym (variables_gathered m) in
    let k : Adds old new (variables m) = subst (λ (xs : List Var). Adds old new xs) all h in
    record {
      counted = omega (arith, k.counted, z);
      whole = λ low. k.appended low ∙ ap (λ (xs : List Var). xs ++ variables m) none;
    }
