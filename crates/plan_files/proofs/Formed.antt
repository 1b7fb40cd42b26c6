-- A plan that is shown is well formed, and holds exactly what is aboard.
use Rattle.std.proofs.Common.{◌≡◌, ◌≢◌, ℕ, ◌<◌, ◌≤◌, List, sym, ap, subst, ◌∙◌, arith, ⊎_elim}
use Rattle.std.specs.Prelude.{slice_get}
use Rattle.std.proofs.lemmas.Bool.{cases_eq, cases_lt}
use Rattle.std.proofs.lemmas.Option.{get_or_from_slice_get, same_Some, slice_get_within}
use Rattle.stow_data.specs.declared.geometry.Half.{Half}
use Rattle.stow_data.specs.declared.cargoes.Container.{Container}
use Rattle.stow_data.specs.Ship.{Ship, Takes}
use Rattle.stow_data.specs.Shipment.{Cargo, IsAboard, IsCargo}
use Rattle.stow_data.specs.Profile.{IsShip}
use Rattle.stow_data.specs.Plans.{Plan}
use Rattle.stowage_rules.specs.Plan.{Fills, Holds, IsWellFormed}
use Rattle.stowage_rules.specs.Departure.{HoldsAboard}
use Rattle.plan_files.specs.Shown.{CellGroup, IsAboardGroup, IsCellOf, Says, SharesHalf, Shows, SomeSays}
use Rattle.plan_files.proofs.Pairs.{all_pairs_at}
use Rattle.plan_files.proofs.SoFar.{one_container, one_place}

module _ (ship : Ship) (cargo : Cargo) (call : ℕ) (rules : IsShip ship) (shipped : IsCargo cargo) (groups : List CellGroup) (plan : Plan) (h : Shows ship cargo call groups plan) where
  said : (p c : ℕ) → Holds plan p c → SomeSays ship cargo groups p c
  said p c k = (h.holds p c).0 k

  -- one group says one place
  same_place : (p q c d : ℕ) (x : SomeSays ship cargo groups p c) (y : SomeSays ship cargo groups q d) → x.index ≡ y.index → p ≡ q
  same_place p q c d x y e =
      let same : x.group ≡ y.group = same_Some x.group y.group (sym x.is_group ∙ (ap (slice_get groups) e ∙ y.is_group)) in
      one_place ship cargo call rules shipped y.group p q c d (subst (λ (g : CellGroup). Says ship cargo g p c) same x.says) y.says

  shares : (half : Half) (c d : ℕ) (x : Fills ship plan half c) (y : Fills ship plan half d) (a : SomeSays ship cargo groups x.number c) (b : SomeSays ship cargo groups y.number d) → SharesHalf ship a.group b.group
  shares half c d x y a b =
      let first : IsCellOf ship a.group x.place = record { number = x.number; is_place = x.is_place; cell = a.says.cell } in
      let second : IsCellOf ship b.group y.place = record { number = y.number; is_place = y.is_place; cell = b.says.cell } in
      record { first = x.place; has_first = first; second = y.place; has_second = second; half = half; in_first = x.has_half; in_second = y.has_half }

  apart : (half : Half) (c d : ℕ) (x : Fills ship plan half c) (y : Fills ship plan half d) → x.number ≡ y.number
  apart half c d x y =
      let a = said x.number c x.holds in
      let b = said y.number d y.holds in
      ⊎_elim (λ (e : a.index ≡ b.index). same_place x.number y.number c d a b e)
      (λ (ne : a.index ≡ b.index → ⊥). ⊎_elim
      (λ (l : a.index < b.index). absurd (all_pairs_at (λ g k. SharesHalf ship g k → ⊥) groups a.index b.index a.group b.group h.halves_differ a.is_group b.is_group l (shares half c d x y a b)))
      (λ (l : b.index ≤ a.index). absurd (all_pairs_at (λ g k. SharesHalf ship g k → ⊥) groups b.index a.index b.group a.group h.halves_differ b.is_group a.is_group (omega arith) (shares half d c y x b a)))
      (cases_lt a.index b.index))
      (cases_eq a.index b.index)

  once : (p q c : ℕ) → Holds plan p c → Holds plan q c → p ≡ q
  once p q c x y =
      let a = said p c x in
      let b = said q c y in
      let one : a.says.container ≡ b.says.container = same_Some a.says.container b.says.container (sym a.says.is_container ∙ b.says.is_container) in
      let id : a.group.id ≡ b.group.id = a.says.same_id ∙ (ap (λ (z : Container). z.id) one ∙ sym b.says.same_id) in
      ⊎_elim (λ (e : a.index ≡ b.index). same_place p q c c a b e)
      (λ (ne : a.index ≡ b.index → ⊥). ⊎_elim
      (λ (l : a.index < b.index). absurd (all_pairs_at (λ (g k : CellGroup). g.id ≢ k.id) groups a.index b.index a.group b.group h.ids_differ a.is_group b.is_group l id))
      (λ (l : b.index ≤ a.index). absurd (all_pairs_at (λ (g k : CellGroup). g.id ≢ k.id) groups b.index a.index b.group a.group h.ids_differ b.is_group a.is_group (omega arith) (sym id)))
      (cases_lt a.index b.index))
      (cases_eq a.index b.index)

  pub shown_formed : IsWellFormed ship cargo plan
  shown_formed = record {
    each_place = h.each_place;
    known = λ p c k. let a = said p c k in (a.says.container, a.says.is_container);
    fits = λ p c place container stands.
        let a = said p c stands.holds in
        let one : a.says.container ≡ container = same_Some a.says.container container (sym a.says.is_container ∙ stands.is_container) in
        subst (λ (z : Container). Takes place z.long) one (a.says.fits place stands.is_place);
    apart = apart;
    once = once;
  }

  pub shown_aboard : HoldsAboard cargo call plan
  shown_aboard c container is = (
    λ k.
        let a = said k.0 c k.1 in
        let b : IsAboardGroup ship cargo call a.group = subst (IsAboardGroup ship cargo call) (get_or_from_slice_get groups a.index a.group a.group a.is_group) (h.each_aboard a.index a.group (slice_get_within groups a.index a.group a.is_group)) in
        let number : b.number ≡ c = one_container ship cargo call rules shipped a.group b.place k.0 b.number c b.says a.says in
        let one : b.says.container ≡ container = same_Some b.says.container container (sym b.says.is_container ∙ (ap (slice_get cargo.containers) number ∙ is)) in
        subst (IsAboard call) one b.aboard,
    λ aboard. let at = h.all_aboard c container is aboard in (at.0, (h.holds at.0 c).1 at.1),
  )
