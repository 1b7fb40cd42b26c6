-- An open place can take the container.
use Rattle.std.proofs.Common.{◌≡◌, ℕ, suc, ◌+◌, ◌<◌, ◌≤◌, Bool, true, false, List, ◌∷◌, length, drop, get_or, Option, Some, None, refl, sym, ◌∙◌, ap, subst, arith, inl, inr, ⊎_elim}
use Rattle.std.specs.Prelude.{slice_get}
use Rattle.std.proofs.Math.Seq.{drop-cons}
use Rattle.std.proofs.lemmas.List.{drop_all}
use Rattle.std.proofs.lemmas.Option.{same_Some, slice_get_within, slice_get-get_or}
use Rattle.stow_data.specs.declared.geometry.Place.{Place}
use Rattle.stow_data.specs.declared.geometry.Span.{Span}
use Rattle.stow_data.specs.declared.geometry.Span.TheVariants.{Fore, Aft, Both}
use Rattle.stow_data.specs.declared.cargoes.Container.{Container}
use Rattle.stow_data.specs.Ship.{Ship, places, TakesSide}
use Rattle.stow_data.specs.Shipment.{Cargo}
use Rattle.stow_data.specs.Plans.{Plan}
use Rattle.stowage_rules.specs.Plan.{Holds, IsWellFormed}
use Rattle.stowage_rules.specs.Faults.{IsLeast}
use Rattle.stowage_rules.proofs.Items.{slice_get_in}
use Rattle.stow_data.specs.Plans.{container_at}
use Rattle.greedy_loader.specs.Kept.{CanStand}
use Rattle.greedy_loader.specs.Quays.{GoesAboard, IsLoaded, AreWaiting}
use Rattle.greedy_loader.proofs.Putting.{put_from}
use Rattle.greedy_loader.specs.Rule.{IsChoice, IsClean, IsOpen, IsOpenAt}

pub some_side : (span : Span) → (side : Bool) × TakesSide span side
some_side Fore = (false, refl)
some_side Aft = (true, refl)
some_side Both = (false, tt)

-- nothing stands at an open place
pub open_free : (ship : Ship) (cargo : Cargo) (plan : Plan) (x : Container) (p : ℕ) (place : Place) (o : Option ℕ) → slice_get (places ship) p ≡ Some place → IsOpenAt ship cargo plan x place → slice_get plan p ≡ Some o → o ≡ None
open_free ship cargo plan x p place None is open_ at = refl
open_free ship cargo plan x p place (Some d) is open_ at =
    let s = some_side place.span in
    absurd (open_.empty s.0 s.1 (d, record { number = p; place = place; is_place = is; has_half = record { same_stack = refl; same_tier = refl; side = s.1 }; holds = at }))

pub can_stand : (ship : Ship) (cargo : Cargo) (plan : Plan) (x : Container) (p c : ℕ) (place : Place) → IsWellFormed ship cargo plan → IsOpenAt ship cargo plan x place → slice_get (places ship) p ≡ Some place → slice_get cargo.containers c ≡ Some x → ((q : ℕ) → Holds plan q c → ⊥) → CanStand ship cargo plan p c place x
can_stand ship cargo plan x p c place formed open_ is known fresh =
    let l = slice_get_within (places ship) p place is in
    let at = slice_get_in plan p (omega (arith, l, formed.each_place)) in
    record {
      is_place = is;
      free = at.1 ∙ ap (λ (z : Option ℕ). Some z) (open_free ship cargo plan x p place at.0 is open_ at.1);
      is_container = known;
      fresh = fresh;
      length_fits = open_.fits.length_fits;
      empty = open_.empty;
    }

-- what is chosen is open
pub chosen_open : (ship : Ship) (cargo : Cargo) (plan : Plan) (x : Container) (p : ℕ) → IsChoice ship cargo plan x (Some p) → IsOpen ship cargo plan x p
chosen_open ship cargo plan x p h = ⊎_elim
    (λ (a : IsLeast (IsClean ship cargo plan x) p). record { place = a.holds.place; is_place = a.holds.is_place; is_open = a.holds.is_open })
    (λ (b : ((q : ℕ) → IsClean ship cargo plan x q → ⊥) × IsLeast (IsOpen ship cargo plan x) p). b.1.holds) h

pub may_stand : (ship : Ship) (cargo : Cargo) (plan : Plan) (y : Container) (p c : ℕ) → IsWellFormed ship cargo plan → ((q : ℕ) → Holds plan q c → ⊥) → slice_get cargo.containers c ≡ Some y → IsChoice ship cargo plan y (Some p) → (place : Place) (x : Container) → slice_get (places ship) p ≡ Some place → slice_get cargo.containers c ≡ Some x → CanStand ship cargo plan p c place x
may_stand ship cargo plan y p c formed fresh at chosen place x is known =
    let open_ = chosen_open ship cargo plan y p chosen in
    let here : IsOpenAt ship cargo plan x place = subst (λ (z : Container). IsOpenAt ship cargo plan z place) (same_Some y x (sym at ∙ known)) (subst (λ (z : Place). IsOpenAt ship cargo plan y z) (same_Some open_.place place (sym open_.is_place ∙ is)) open_.is_open) in
    can_stand ship cargo plan x p c place formed here is known fresh

-- ## One after the other

next_of : (xs : List ℕ) (i x : ℕ) → i < length xs → x ≡ get_or xs i x → drop i xs ≡ x ∷ drop (i + 1) xs
next_of xs i x l is =
    let s : suc i ≡ i + 1 = omega arith in
    drop-cons xs i x l ∙ (ap (λ (z : ℕ). z ∷ drop (suc i) xs) (sym is) ∙ ap (λ (k : ℕ). x ∷ drop k xs) s)

pub item_at : (xs : List ℕ) (i x : ℕ) → i < length xs → x ≡ get_or xs i x → slice_get xs i ≡ Some x
item_at xs i x l is = slice_get-get_or xs i x l ∙ ap (λ (z : ℕ). Some z) (sym is)

-- one container more went aboard
pub aboard_more : (ship : Ship) (cargo : Cargo) (first plan after : Plan) (quay : List ℕ) (i c : ℕ) → i < length quay → c ≡ get_or quay i c → GoesAboard ship cargo plan c true after → ((end : Option Plan) → IsLoaded ship cargo plan (drop i quay) end → IsLoaded ship cargo first quay end) → (end : Option Plan) → IsLoaded ship cargo after (drop (i + 1) quay) end → IsLoaded ship cargo first quay end
aboard_more ship cargo first plan after quay i c l is goes leads end h =
    leads end (subst (λ (z : List ℕ). IsLoaded ship cargo plan z end) (sym (next_of quay i c l is)) (inl (goes.0, goes.1, subst (λ (z : Plan). IsLoaded ship cargo z (drop (i + 1) quay) end) goes.2 h)))

-- one found no place
pub aboard_none : (ship : Ship) (cargo : Cargo) (first plan : Plan) (quay : List ℕ) (i c : ℕ) → i < length quay → c ≡ get_or quay i c → IsChoice ship cargo plan (container_at cargo c) None → ((end : Option Plan) → IsLoaded ship cargo plan (drop i quay) end → IsLoaded ship cargo first quay end) → IsLoaded ship cargo first quay None
aboard_none ship cargo first plan quay i c l is none leads =
    leads None (subst (λ (z : List ℕ). IsLoaded ship cargo plan z None) (sym (next_of quay i c l is)) (inr (none, refl)))

pub aboard_all : (ship : Ship) (cargo : Cargo) (first plan : Plan) (quay : List ℕ) (i : ℕ) → length quay ≤ i → ((end : Option Plan) → IsLoaded ship cargo plan (drop i quay) end → IsLoaded ship cargo first quay end) → IsLoaded ship cargo first quay (Some plan)
aboard_all ship cargo first plan quay i l leads = leads (Some plan) (subst (λ (z : List ℕ). IsLoaded ship cargo plan z (Some plan)) (sym (drop_all i quay l)) refl)

-- the rest waits ashore
pub ashore_more : (ship : Ship) (cargo : Cargo) (first plan after : Plan) (quay : List ℕ) (i c : ℕ) → i < length quay → c ≡ get_or quay i c → AreWaiting cargo first quay → GoesAboard ship cargo plan c true after → ((k d : ℕ) → i ≤ k → slice_get quay k ≡ Some d → (q : ℕ) → Holds plan q d → ⊥) → (k d : ℕ) → i + 1 ≤ k → slice_get quay k ≡ Some d → (q : ℕ) → Holds after q d → ⊥
ashore_more ship cargo first plan after quay i c l is waiting goes ashore k d m at q h = ⊎_elim
    (λ (e : (q ≡ goes.0) × (d ≡ c)). let same : i ≡ k = waiting.once i k d (item_at quay i c l is ∙ ap (λ (z : ℕ). Some z) (sym e.1)) at in omega arith)
    (λ (o : Holds plan q d). ashore k d (omega arith) at q o)
    (put_from plan goes.0 c q d (subst (λ (z : Plan). Holds z q d) goes.2 h))
