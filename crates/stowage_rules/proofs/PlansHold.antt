-- Well-formed plans, from what holds place by place.
use Rattle.std.specs.Prelude.{◌≡◌, ℕ, ◌<◌, ◌≤◌, ◌↔◌, Bool, true, false, length, slice_get, slice_index_or, Some, ◌==◌, ◌&&◌, IsTrue}
use Rattle.std.proofs.Common.{refl, sym, ◌∙◌, subst, arith}
use Rattle.std.proofs.lemmas.Bool.{and_from, and_parts, both_ways, eq-eqb, eqb-true, false_from_ne_true}
use Rattle.std.proofs.lemmas.Option.{slice_get-get_or, slice_get_within, same_Some}
use Rattle.stow_data.specs.declared.geometry.Half.{Half}
use Rattle.stow_data.specs.declared.geometry.Place.{Place}
use Rattle.stow_data.specs.declared.geometry.Span.{Span}
use Rattle.stow_data.specs.declared.geometry.Span.TheVariants.{Fore, Aft, Both}
use Rattle.stow_data.specs.declared.cargoes.Container.{Container}
use Rattle.stow_data.specs.Ship.{Ship, places, HasHalf, Takes, TakesSide, half_at}
use Rattle.stow_data.specs.Ship as ship
use Rattle.stow_data.specs.Shipment.{Cargo}
use Rattle.stow_data.specs.Plans.{Plan, no_place}
use Rattle.stowage_rules.specs.Plan.{Holds, IsWellFormed}
use Rattle.stow_data.specs.Near.{has_column_in_common, meets}
use Rattle.stowage_rules.specs.Departure.{HoldsAboard}
use Rattle.stowage_rules.specs.Places.{FitsAt, StandsAlone, StandsAloneAt, IsSomewhere, AboardAt}
use Rattle.stowage_rules.proofs.Fillers.{from}

pub all_fit : (ship : Ship) (cargo : Cargo) (plan : Plan) (m : ℕ) → length plan ≤ m → ((n : ℕ) → n < m → FitsAt ship cargo plan n) → (n : ℕ) → FitsAt ship cargo plan n
all_fit ship cargo plan m l all = λ n c held. all n (let i : n < length plan = slice_get_within plan n (Some c) held in omega arith) c held

pub alone_at : (ship : Ship) (plan : Plan) (p m : ℕ) → length plan ≤ m → ((q : ℕ) → q < m → StandsAlone ship plan p q) → StandsAloneAt ship plan p
alone_at ship plan p m l all = λ q. record {
  apart = λ h c d x y. (all q (let i : q < length plan = slice_get_within plan q (Some d) y.holds in omega arith)).apart h c d x y;
  once = λ c x y. (all q (let i : q < length plan = slice_get_within plan q (Some c) y in omega arith)).once c x y;
}

pub all_alone : (ship : Ship) (plan : Plan) (m : ℕ) → length plan ≤ m → ((p : ℕ) → p < m → StandsAloneAt ship plan p) → (p : ℕ) → StandsAloneAt ship plan p
all_alone ship plan m l all = λ p q. record {
  apart = λ h c d x y. (all p (let i : p < length plan = slice_get_within plan p (Some c) x.holds in omega arith) q).apart h c d x y;
  once = λ c x y. (all p (let i : p < length plan = slice_get_within plan p (Some c) x in omega arith) q).once c x y;
}

pub nowhere : (plan : Plan) (c m : ℕ) → length plan ≤ m → ((p : ℕ) → p < m → Holds plan p c → ⊥) → IsSomewhere plan c → ⊥
nowhere plan c m l none x = none x.0 (let i : x.0 < length plan = slice_get_within plan x.0 (Some c) x.1 in omega arith) x.1

pub all_aboard : (cargo : Cargo) (call : ℕ) (plan : Plan) (m : ℕ) → length cargo.containers ≤ m → ((c : ℕ) → c < m → AboardAt cargo call plan c) → HoldsAboard cargo call plan
all_aboard cargo call plan m l all = λ c container is. all c (let i : c < length cargo.containers = slice_get_within cargo.containers c container is in omega arith) container is

-- places have a half-cell in common exactly where they meet
column : (a b : Span) (side : Bool) → TakesSide a side → TakesSide b side → has_column_in_common a b ≡ true
column Fore Fore side x y = refl
column Fore Aft side x y = absurd (both_ways side x y)
column Fore Both side x y = refl
column Aft Fore side x y = absurd (both_ways side y x)
column Aft Aft side x y = refl
column Aft Both side x y = refl
column Both b side x y = refl

pub meets_from : (p q : Place) (h : Half) → HasHalf p h → HasHalf q h → meets p q ≡ true
meets_from p q h x y = and_from (p.stack == q.stack) ((p.tier == q.tier) && has_column_in_common p.span q.span) (eq-eqb p.stack q.stack (sym x.same_stack ∙ y.same_stack)) (and_from (p.tier == q.tier) (has_column_in_common p.span q.span) (eq-eqb p.tier q.tier (sym x.same_tier ∙ y.same_tier)) (column p.span q.span h.aft x.side y.side))

side_of : (a b : Span) → has_column_in_common a b ≡ true → (side : Bool) × TakesSide a side × TakesSide b side
side_of Fore Fore h = (false, refl, refl)
side_of Fore Aft h = absurd (both_ways false refl h)
side_of Fore Both h = (false, refl, tt)
side_of Aft Fore h = absurd (both_ways false refl h)
side_of Aft Aft h = (true, refl, refl)
side_of Aft Both h = (true, refl, tt)
side_of Both Fore h = (false, tt, refl)
side_of Both Aft h = (true, tt, refl)
side_of Both Both h = (false, tt, tt)

pub meeting_half : (p q : Place) → meets p q ≡ true → (h : Half) × HasHalf p h × HasHalf q h
meeting_half p q m =
    let a = and_parts (p.stack == q.stack) ((p.tier == q.tier) && has_column_in_common p.span q.span) m in
    let b = and_parts (p.tier == q.tier) (has_column_in_common p.span q.span) a.1 in
    let s = side_of p.span q.span b.1 in
    (half_at p s.0, record { same_stack = refl; same_tier = refl; side = s.1 }, record { same_stack = eqb-true p.stack q.stack a.0; same_tier = eqb-true p.tier q.tier b.0; side = s.2 })

pub well_formed_from : (ship : Ship) (cargo : Cargo) (plan : Plan) → length plan ≡ length (places ship) → ((n : ℕ) → FitsAt ship cargo plan n) → ((n : ℕ) → StandsAloneAt ship plan n) → IsWellFormed ship cargo plan
well_formed_from ship cargo plan each fit alone = record {
  each_place = each;
  known = λ p c held. let box = fit p c held in (box.0, box.1);
  fits = λ p c place container stands. let box = fit p c stands.holds in subst (λ (k : Container). Takes place k.long) (same_Some box.0 container (sym box.1 ∙ stands.is_container)) (box.2 place stands.is_place);
  apart = λ h c d x y. (alone x.number y.number).apart h c d (from x) (from y);
  once = λ p q c x y. (alone p q).once c x y;
}

pub fit_from : (ship : Ship) (cargo : Cargo) (plan : Plan) → IsWellFormed ship cargo plan → (n : ℕ) → FitsAt ship cargo plan n
fit_from ship cargo plan formed n c held =
    let box = formed.known n c held in
    (box.0, box.1, λ place is. formed.fits n c place box.0 (record { is_place = is; holds = held; is_container = box.1 }))

pub alone_from : (ship : Ship) (cargo : Cargo) (plan : Plan) → IsWellFormed ship cargo plan → (n : ℕ) → StandsAloneAt ship plan n
alone_from ship cargo plan formed p q = record {
  apart = λ h c d x y. formed.apart h c d (record { number = p; place = x.place; is_place = x.is_place; has_half = x.has_half; holds = x.holds }) (record { number = q; place = y.place; is_place = y.is_place; has_half = y.has_half; holds = y.holds });
  once = λ c x y. formed.once p q c x y;
}

-- two filled places
pub alone_pair : (ship : Ship) (plan : Plan) (p q c d : ℕ) (first second : Place) → slice_get (places ship) p ≡ Some first → slice_get (places ship) q ≡ Some second → Holds plan p c → Holds plan q d → (c ≡ d → ⊥) → meets first second ≡ false → StandsAlone ship plan p q
alone_pair ship plan p q c d first second is_p is_q held_p held_q other far = record {
  apart = λ h e f x y.
      let m = meets_from x.place y.place h x.has_half y.has_half in
      let a : x.place ≡ first = same_Some x.place first (sym x.is_place ∙ is_p) in
      let b : y.place ≡ second = same_Some y.place second (sym y.is_place ∙ is_q) in
      absurd (both_ways (meets first second) far (subst (λ (z : Place). meets first z ≡ true) b (subst (λ (z : Place). meets z y.place ≡ true) a m)));
  once = λ e x y.
      let a : c ≡ e = same_Some c e (same_Some (Some c) (Some e) (sym held_p ∙ x)) in
      let b : d ≡ e = same_Some d e (same_Some (Some d) (Some e) (sym held_q ∙ y)) in
      absurd (other (a ∙ sym b));
}

pub far_from : (ship : Ship) (plan : Plan) (p q c d : ℕ) (first second : Place) → slice_get (places ship) p ≡ Some first → slice_get (places ship) q ≡ Some second → Holds plan p c → Holds plan q d → (p ≡ q → ⊥) → StandsAlone ship plan p q → meets first second ≡ false
far_from ship plan p q c d first second is_p is_q held_p held_q other alone = false_from_ne_true (meets first second) (λ m.
    let h = meeting_half first second m in
    other (alone.apart h.0 c d (record { place = first; is_place = is_p; has_half = h.1; holds = held_p }) (record { place = second; is_place = is_q; has_half = h.2; holds = held_q })))

-- what the ship answers of a length says whether what stands at the place fits there
pub fits_here : (s : Ship) (cargo : Cargo) (plan : Plan) (p c : ℕ) (box : Container) (answer : Bool) → p < length (places s) → Holds plan p c → slice_get cargo.containers c ≡ Some box
    → (IsTrue answer ↔ ship.FitsAt s p box.long false) → IsTrue answer ↔ FitsAt s cargo plan p
fits_here s cargo plan p c box answer low holds known says = (here, back)
  where
    only : (d : ℕ) → Holds plan p d → c ≡ d
    only d h = same_Some c d (same_Some (Some c) (Some d) (sym holds ∙ h))

    here : IsTrue answer → FitsAt s cargo plan p
    here said d h =
        let at = says.0 said in
        (box, subst (λ (k : ℕ). slice_get cargo.containers k ≡ Some box) (only d h) known, λ place is. subst (λ (z : Place). Takes z box.long) (same_Some at.place place (sym at.is_place ∙ is)) at.fits.length_fits)

    back : FitsAt s cargo plan p → IsTrue answer
    back fits =
        let r = fits c holds in
        let place : Place = slice_index_or (places s) p no_place in
        let is = slice_get-get_or (places s) p no_place low in
        let same : r.0 ≡ box = same_Some r.0 box (sym r.1 ∙ known) in
        says.1 (record { place = place; is_place = is; fits = record { length_fits = subst (λ (k : Container). Takes place k.long) same (r.2 place is); has_plug = λ cold. absurd (both_ways false refl cold) } })
