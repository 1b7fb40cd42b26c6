-- What an open place asks, part by part.
use Rattle.std.specs.Prelude.{◌≡◌, ◌↔◌, ◌⊎◌, ℕ, ◌<◌, ◌≤◌, ◌+◌, Bool, true, false, not, IsTrue, List, Some, None, slice_get, slice_index_or, length}
use Rattle.std.specs.Bool.{MatchBool}
use Rattle.std.specs.List.{AllWithin, HoldsAt}
use Rattle.std.proofs.Common.{refl, sym, ◌∙◌, ap, subst, arith, inl, inr, ⊎_elim}
use Rattle.std.proofs.lemmas.Option.{same_Some, slice_get_within, none-some, slice_get-get_or}
use Rattle.std.proofs.lemmas.Bool.{both_ways, cases_Bool, cases_eq, not-true, not_from_false}
use Rattle.stow_data.specs.declared.geometry.Place.{Place}
use Rattle.stow_data.specs.declared.geometry.Separation.{Separation}
use Rattle.stow_data.specs.declared.cargoes.Container.{Container}
use Rattle.stow_data.specs.Ship.{Ship, places, Fits, FitsAt, LiesUnder}
use Rattle.stow_data.specs.Shipment.{Cargo}
use Rattle.stow_data.specs.Plans.{Plan}
use Rattle.stowage_rules.specs.Plan.{Stands}
use Rattle.stow_data.specs.Near.{near}
use Rattle.voyage_meaning.specs.Moves.{IsBare}
use Rattle.greedy_loader.specs.Kept.{AreLaden}
use Rattle.greedy_loader.specs.Rule.{AreSeparated, IsApartBy, IsOpen, IsOpenAt}

-- separations past the last keep all apart
pub apart_all : (ship : Ship) (cargo : Cargo) (plan : Plan) (x : Container) (place : Place) (m : ℕ) → length ship.separations ≤ m → ((e : ℕ) → e < m → (q : ℕ) → IsApartBy ship cargo plan x place q e) → (q e : ℕ) → IsApartBy ship cargo plan x place q e
apart_all ship cargo plan x place m l all q e d rule other y is stands named = all e (let i : e < length ship.separations = slice_get_within ship.separations e rule is in omega arith) q d rule other y is stands named

-- no separation names a container without a class
pub classless : (ship : Ship) (cargo : Cargo) (plan : Plan) (x : Container) (place : Place) → x.class ≡ None → (q e : ℕ) → IsApartBy ship cargo plan x place q e
classless ship cargo plan x place none q e d rule other y is stands named = absurd (⊎_elim
    (λ (a : (x.class ≡ Some rule.a) × (y.class ≡ Some rule.b)). none-some rule.a (sym none ∙ a.0))
    (λ (b : (x.class ≡ Some rule.b) × (y.class ≡ Some rule.a)). none-some rule.b (sym none ∙ b.0)) named)

-- nor does one keep it from such
pub has_some_class : (rule : Separation) (x y : Container) → AreSeparated rule x y → y.class ≡ None → ⊥
has_some_class rule x y named none = ⊎_elim
    (λ (a : (x.class ≡ Some rule.a) × (y.class ≡ Some rule.b)). none-some rule.b (sym none ∙ a.1))
    (λ (b : (x.class ≡ Some rule.b) × (y.class ≡ Some rule.a)). none-some rule.a (sym none ∙ b.1)) named

pub fits_place : (ship : Ship) (p : ℕ) (place : Place) (x : Container) → slice_get (places ship) p ≡ Some place → FitsAt ship p x.long x.reefer → Fits place x.long x.reefer
fits_place ship p place x is fits = subst (λ (z : Place). Fits z x.long x.reefer) (same_Some fits.place place (sym fits.is_place ∙ is)) fits.fits

pub open_place : (ship : Ship) (cargo : Cargo) (plan : Plan) (x : Container) (p : ℕ) (place : Place) → slice_get (places ship) p ≡ Some place → IsOpen ship cargo plan x p → IsOpenAt ship cargo plan x place
open_place ship cargo plan x p place is at = subst (λ (z : Place). IsOpenAt ship cargo plan x z) (same_Some at.place place (sym at.is_place ∙ is)) at.is_open

-- the cover over a stack is bare where its flag says so
pub uncovered_by : (ship : Ship) (plan : Plan) (laden : List Bool) (s k n : ℕ) (flag : Bool) → AreLaden ship plan laden → n ≡ k → slice_get laden n ≡ Some flag → LiesUnder ship s k → ((j : ℕ) → LiesUnder ship s j → Some k ≡ Some j) → IsTrue (not flag) ↔ ((j : ℕ) → LiesUnder ship s j → IsBare ship plan j)
uncovered_by ship plan laden s k n flag are e at under only =
    let was = are k flag (ap (slice_get laden) (sym e) ∙ at) in (
      λ h j u. subst (λ (z : ℕ). IsBare ship plan z) (same_Some k j (only j u)) (was.0 (not-true flag h)),
      λ all. not_from_false flag (was.1 (all k under)),
    )

-- what one separation asks at one place: nothing of a place that isn't near
pub apart_far : (ship : Ship) (cargo : Cargo) (plan : Plan) (x : Container) (place other : Place) (q e : ℕ) (rule : Separation) → slice_get ship.separations e ≡ Some rule → slice_get (places ship) q ≡ Some other → near ship rule.level place other ≡ false → IsApartBy ship cargo plan x place q e
apart_far ship cargo plan x place other q e rule is at far f r o z named there says =
    let one : r ≡ rule = same_Some r rule (sym named ∙ is) in
    let two : o ≡ other = same_Some o other (sym there.is_place ∙ at) in
    subst (λ (w : Place). near ship r.level place w ≡ false) (sym two) (subst (λ (w : Separation). near ship w.level place other ≡ false) (sym one) far)

-- and of a near one that the classes there aren't separated
pub apart_near : (ship : Ship) (cargo : Cargo) (plan : Plan) (x y : Container) (place other : Place) (q e d : ℕ) (rule : Separation) (b : Bool) → slice_get ship.separations e ≡ Some rule → Stands ship cargo plan q d other y → near ship rule.level place other ≡ true → (IsTrue b ↔ AreSeparated rule x y) → IsTrue (not b) ↔ IsApartBy ship cargo plan x place q e
apart_near ship cargo plan x y place other q e d rule b is stands close says = (
  λ h f r o z named there apart.
      let one : r ≡ rule = same_Some r rule (sym named ∙ is) in
      let who : f ≡ d = same_Some f d (same_Some (Some f) (Some d) (sym there.holds ∙ stands.holds)) in
      let two : z ≡ y = same_Some z y (sym there.is_container ∙ (ap (slice_get cargo.containers) who ∙ stands.is_container)) in
      absurd (both_ways b (not-true b h) (says.1 (subst (λ (w : Container). AreSeparated rule x w) two (subst (λ (w : Separation). AreSeparated w x z) one apart)))),
  λ all. not_from_false b (⊎_elim
      (λ (t : b ≡ true). absurd (both_ways (near ship rule.level place other) (all d rule other y is stands (says.0 t)) close))
      (λ (f : b ≡ false). f)
      (cases_Bool b)),
)

-- a separation that doesn't name the class keeps the container from none
pub apart_unnamed : (ship : Ship) (cargo : Cargo) (plan : Plan) (x : Container) (place : Place) (e : ℕ) (rule : Separation) → slice_get ship.separations e ≡ Some rule → ((x.class ≡ Some rule.a) ⊎ (x.class ≡ Some rule.b) → ⊥) → (q : ℕ) → IsApartBy ship cargo plan x place q e
apart_unnamed ship cargo plan x place e rule is unnamed q d r other y named stands says =
    let one : r ≡ rule = same_Some r rule (sym named ∙ is) in
    absurd (⊎_elim
    (λ (a : (x.class ≡ Some rule.a) × (y.class ≡ Some rule.b)). unnamed (inl a.0))
    (λ (b : (x.class ≡ Some rule.b) × (y.class ≡ Some rule.a)). unnamed (inr b.0))
    (subst (λ (w : Separation). AreSeparated w x y) one says))

-- what holds of all, if it holds of each item of a list
pub tells_all_items : (P : ℕ → Type 0) (xs : List ℕ) (r : Bool) → MatchBool r (AllWithin P xs 0 (length xs)) ((k : ℕ) × (k < length xs) × HoldsAt (λ q. P q → ⊥) xs k)
    → (((k q : ℕ) → k < length xs → slice_index_or xs k q ≡ q → P q) → (q : ℕ) → P q) → (IsTrue r → (q : ℕ) → P q) × (((q : ℕ) → P q) → IsTrue r)
tells_all_items P xs true h whole = (λ e. whole (λ k q l at. subst P at (h k q (omega arith) l)), λ x. refl)
tells_all_items P xs false h whole = (λ e. absurd (both_ways false refl e), λ all. absurd (h.2 0 (all (slice_index_or xs h.0 0))))

-- what a test says of what it answers, as one thing for a search to find
pub record Told (P : Type 0) : Type 0 where
  pub holds : P

pub told_true : {P : Type 0} {b : Bool} → (IsTrue b → P) × (P → IsTrue b) → true ≡ b → Told P
told_true d e = record { holds = d.0 (sym e) }

pub told_false : {P : Type 0} {b : Bool} → (IsTrue b → P) × (P → IsTrue b) → false ≡ b → Told (P → ⊥)
told_false d e = record { holds = λ x. both_ways _ (sym e) (d.1 x) }
