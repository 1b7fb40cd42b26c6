-- The ids of one container more.
use Rattle.std.proofs.Common.{◌≡◌, ℕ, Bool, true, false, ◌||◌, List, [], ◌∷◌, ◌++◌, refl, sym, ap, ◌∙◌}
use Rattle.std.specs.List.{list_any}
use Rattle.std.specs.Str.{bytes_eq}
use Rattle.std.specs.BTreeSet.{BTreeSet, contains}
use Rattle.std.proofs.lemmas.List.Folds.{list_any-append}
use Rattle.stow_data.specs.declared.cargoes.Container.{Container}
use Rattle.bookings.specs.declared.shipment.Booking.{Booking}
use Rattle.bookings.specs.Ids.{AreIds, name_order}
use Rattle.bookings.specs.Reading.{has_id}
use Rattle.arrival_plan.specs.Ids.{AreNames}

or_none : (a : Bool) → a ≡ (a || false)
or_none true = refl
or_none false = refl

-- with no container yet
pub names_first : (ids : BTreeSet (List ℕ)) (bookings : List Booking) → AreIds ids bookings → AreNames ids bookings []
names_first ids bookings are = record { same = λ id. are.same id ∙ or_none (has_id id bookings) }

turned : (new booked before : Bool) → (new || (booked || before)) ≡ (booked || (before || (new || false)))
turned true true before = refl
turned true false true = refl
turned true false false = refl
turned false true before = refl
turned false false true = refl
turned false false false = refl

pub one_name_more : (old new : BTreeSet (List ℕ)) (bookings : List Booking) (before : List Container) (c : Container) → ((other : List ℕ) → contains name_order new other ≡ (bytes_eq c.id other || contains name_order old other)) → AreNames old bookings before → AreNames new bookings (before ++ c ∷ [])
one_name_more old new bookings before c more are = record {
  same = λ id. more id ∙ ap (λ (r : Bool). bytes_eq c.id id || r) (are.same id) ∙ turned (bytes_eq c.id id) (has_id id bookings) (list_any (λ d. bytes_eq d.id id) before) ∙ ap (λ (r : Bool). has_id id bookings || r) (sym (list_any-append (λ d. bytes_eq d.id id) before (c ∷ [])));
}
