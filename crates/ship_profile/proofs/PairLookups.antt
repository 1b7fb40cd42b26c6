-- The pairs of one separation more.
use Rattle.std.proofs.Common.{◌≡◌, ℕ, Bool, true, false, cond, ◌||◌, ◌&&◌, List, [], ◌∷◌, ◌++◌, refl, sym, ap, ◌∙◌}
use Rattle.std.specs.Prelude.{bytes_eq}
use Rattle.std.specs.List.{list_any}
use Rattle.std.specs.Ordering.{is_eq, nat_cmp, ordering_then}
use Rattle.std.specs.Cmp.{tied_then}
use Rattle.std.specs.Cmp.Lexicographic.{slice_cmp}
use Rattle.std.specs.BTreeMap.{is_at}
use Rattle.std.specs.BTreeSet.{BTreeSet, contains}
use Rattle.std.proofs.lemmas.List.Folds.{list_any-append}
use Rattle.std.proofs.lemmas.Map.Text.{is_eq-slice_cmp}
use Rattle.stow_data.specs.declared.geometry.Separation.{Separation}
use Rattle.ship_profile.specs.declared.class_pair.ClassPair.{ClassPair}
use Rattle.ship_profile.specs.Separations.{is_same_pair}
use Rattle.ship_profile.specs.ClassPairs.{ArePairs, pair_order, pair_of}

at_pair : (a b c d : List ℕ) → is_eq (ordering_then (slice_cmp nat_cmp a c) (slice_cmp nat_cmp b d)) ≡ (bytes_eq a c && bytes_eq b d)
at_pair a b c d = sym (tied_then (slice_cmp nat_cmp a c) (slice_cmp nat_cmp b d)) ∙ rw (is_eq-slice_cmp a c, is_eq-slice_cmp b d) refl

or_found : (b old : Bool) → cond b true old ≡ (b || old)
or_found true old = refl
or_found false old = refl

pair_entered : (a b c d : List ℕ) (old : Bool) → cond (is_eq (ordering_then (slice_cmp nat_cmp a c) (slice_cmp nat_cmp b d))) true old ≡ ((bytes_eq a c && bytes_eq b d) || old)
pair_entered a b c d old = ap (λ r. cond r true old) (at_pair a b c d) ∙ or_found (bytes_eq a c && bytes_eq b d) old

both_orders : (p q old : Bool) → (p || (q || old)) ≡ ((p || q) || old)
both_orders true q old = refl
both_orders false q old = refl

turned : (a b c d : Bool) (old : Bool) → ((a && b) || ((c && d) || old)) ≡ (((a && b) || (d && c)) || old)
turned a b true true old = both_orders (a && b) true old
turned a b true false old = both_orders (a && b) false old
turned a b false true old = both_orders (a && b) false old
turned a b false false old = both_orders (a && b) false old

-- a pair is found where it was entered in either order, or before
pub in_either_order : (d e : Separation) (old : Bool) → cond (is_at (pair_order (pair_of d)) (pair_of e)) true (cond (is_at (pair_order (record { a = d.b; b = d.a })) (pair_of e)) true old) ≡ (is_same_pair d e || old)
in_either_order d e old =
    ap (λ r. cond (is_at (pair_order (pair_of d)) (pair_of e)) true r) (pair_entered d.b d.a e.a e.b old) ∙ pair_entered d.a d.b e.a e.b ((bytes_eq d.b e.a && bytes_eq d.a e.b) || old)
    ∙ turned (bytes_eq d.a e.a) (bytes_eq d.b e.b) (bytes_eq d.b e.a) (bytes_eq d.a e.b) old

last_first : (a b : Bool) → (a || b) ≡ (b || (a || false))
last_first true true = refl
last_first true false = refl
last_first false true = refl
last_first false false = refl

pub one_pair_more : (old new : BTreeSet ClassPair) (before : List Separation) (d : Separation) → ((e : Separation) → contains pair_order new (pair_of e) ≡ (is_same_pair d e || contains pair_order old (pair_of e))) → ArePairs old before → ArePairs new (before ++ d ∷ [])
one_pair_more old new before d more pairs = record {
  same = λ e. more e ∙ ap (λ r. is_same_pair d e || r) (pairs.same e) ∙ last_first (is_same_pair d e) (list_any (λ c. is_same_pair c e) before) ∙ sym (list_any-append (λ c. is_same_pair c e) before (d ∷ []));
}
