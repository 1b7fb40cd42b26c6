-- The ids of one booking more.
use Rattle.std.proofs.Common.{◌≡◌, ℕ, Bool, true, false, cond, ◌||◌, List, [], ◌∷◌, ◌++◌, refl, sym, ap, ◌∙◌}
use Rattle.std.specs.Str.{bytes_eq}
use Rattle.std.specs.BTreeMap.{is_at}
use Rattle.std.specs.BTreeSet.{BTreeSet, contains}
use Rattle.std.proofs.lemmas.List.Folds.{list_any-append}
use Rattle.std.proofs.lemmas.Map.Text.{is_eq-slice_cmp}
use Rattle.bookings.specs.declared.shipment.Booking.{Booking}
use Rattle.bookings.specs.Ids.{AreIds, name_order}
use Rattle.bookings.specs.Reading.{has_id}

pub entered : (id other : List ℕ) (old : Bool) → cond (is_at (name_order id) other) true old ≡ (bytes_eq id other || old)
entered id other old = rw (is_eq-slice_cmp id other) (by_test (bytes_eq id other))
  where
    by_test : (b : Bool) → cond b true old ≡ (b || old)
    by_test true = refl
    by_test false = refl

turned : (a b : Bool) → (a || b) ≡ (b || (a || false))
turned true true = refl
turned true false = refl
turned false true = refl
turned false false = refl

pub one_id_more : (old new : BTreeSet (List ℕ)) (before : List Booking) (b : Booking) → ((other : List ℕ) → contains name_order new other ≡ (bytes_eq b.id other || contains name_order old other)) → AreIds old before → AreIds new (before ++ b ∷ [])
one_id_more old new before b more ids = record {
  same = λ id. more id ∙ ap (λ r. bytes_eq b.id id || r) (ids.same id) ∙ turned (bytes_eq b.id id) (has_id id before) ∙ sym (list_any-append (λ c. bytes_eq c.id id) before (b ∷ []));
}
