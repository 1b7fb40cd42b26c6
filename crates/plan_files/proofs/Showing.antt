-- The groups of a departure show it, and the groups of all departures are a legal file set.
use Rattle.std.proofs.Common.{◌≡◌, ◌≢◌, ℕ, suc, ◌+◌, ◌-◌, ◌<◌, ◌≤◌, List, [], ◌∷◌, length, get_or, map, Option, Some, None, refl, sym, ◌∙◌, ap, subst, arith, inl, inr, ⊎_elim}
use Rattle.std.specs.Prelude.{slice_get, slice_index_or}
use Rattle.std.proofs.lemmas.Bool.{cases_eq, cases_lt}
use Rattle.std.proofs.lemmas.Option.{get_or_from_slice_get, slice_get-get_or, slice_get_within}
use Rattle.stow_data.specs.declared.geometry.Place.{Place}
use Rattle.stow_data.specs.declared.geometry.Stack.{Stack}
use Rattle.stow_data.specs.declared.cargoes.Container.{Container}
use Rattle.stow_data.specs.Ship.{Ship, places, number_in, HasNumber}
use Rattle.stow_data.specs.Profile.{IsShip}
use Rattle.stow_data.specs.Shipment.{Cargo, IsCargo, IsShipped}
use Rattle.stow_data.proofs.Members.{Member, member_of, index_of, flat_at, flat_from, range_from}
use Rattle.stow_data.proofs.Listed.{place_from}
use Rattle.stowage_rules.specs.Plan.{Holds, Fills}
use Rattle.stowage_rules.specs.Departure.{IsStowed, AreDepartures}
use Rattle.plan_files.specs.Shown.{CellGroup, Says, SomeSays, IsAboardGroup, SharesHalf, Shows, ShowAll, IsLegalFileSet}
use Rattle.stow_data.specs.Plans.{Plan, place_at, container_at, held, place_numbers, no_place, no_container, no_stack}
use Rattle.plan_files.specs.DepartureFile.{cell_at, cells, number_at, port_of, shown_from}
use Rattle.stow_data.proofs.PlanLookups.{held_is, is_held, place_is}
use Rattle.plan_files.proofs.Pairs.{InPairs, pairs_flat, pairs_range, all_pairs, all_pairs_at}
use Rattle.plan_files.proofs.Numbers.{number_once}

-- the cell group of a container at a place
abbrev cell_of : Ship → Cargo → ℕ → ℕ → CellGroup
cell_of ship cargo p c = cell_at ship cargo p (container_at cargo c)

in_group : (ship : Ship) (cargo : Cargo) (p : ℕ) (o : Option ℕ) (g : CellGroup) → Member g (shown_from ship cargo p o) → (c : ℕ) × (o ≡ Some c) × (g ≡ cell_of ship cargo p c)
in_group ship cargo p None g m = absurd m
in_group ship cargo p (Some c) g (inl e) = (c, refl, e)
in_group ship cargo p (Some c) g (inr n) = absurd n

one_group : (ship : Ship) (cargo : Cargo) (p : ℕ) (o : Option ℕ) (R : CellGroup → CellGroup → Type 0) → InPairs R (shown_from ship cargo p o)
one_group ship cargo p None R = tt
one_group ship cargo p (Some c) R = (λ y m. absurd m, tt)

-- an id is that of one container alone
pub id_once : (cargo : Cargo) (c d : ℕ) (x y : Container) → IsCargo cargo → slice_get cargo.containers c ≡ Some x → slice_get cargo.containers d ≡ Some y → x.id ≡ y.id → c ≡ d
id_once cargo c d x y shipped h k same = ⊎_elim (λ (e : c ≡ d). e)
    (λ (ne : c ≡ d → ⊥). ⊎_elim
    (λ (l : c < d). absurd (all_pairs_at (λ (a b : Container). a.id ≢ b.id) cargo.containers c d x y shipped.ids_differ h k l same))
    (λ (l : d ≤ c). absurd (all_pairs_at (λ (a b : Container). a.id ≢ b.id) cargo.containers d c y x shipped.ids_differ k h (omega arith) (sym same)))
    (cases_lt c d))
    (cases_eq c d)

-- a container's port of discharge is one of the rotation
pub has_port : (cargo : Cargo) (c : ℕ) (x : Container) → IsCargo cargo → slice_get cargo.containers c ≡ Some x → slice_get cargo.rotation (x.dest - 1) ≡ Some (port_of cargo x.dest)
has_port cargo c x shipped h =
    let r : IsShipped (length cargo.rotation) x = subst (IsShipped (length cargo.rotation)) (get_or_from_slice_get cargo.containers c x x h) (shipped.each_shipped c x (slice_get_within cargo.containers c x h)) in
    slice_get-get_or cargo.rotation (x.dest - 1) [] (omega (arith, r.later, r.in_rotation))

-- the number of a place
numbered : (ship : Ship) (p : ℕ) (place : Place) → slice_get (places ship) p ≡ Some place → HasNumber ship p (number_at ship p)
numbered ship p place h =
    let from = place_from ship p place h in
    let same : place_at ship p ≡ place = place_is ship p place h in
    let stack : slice_index_or ship.stacks (place_at ship p).stack no_stack ≡ from.stack_at =
    ap (λ (z : Place). slice_index_or ship.stacks z.stack no_stack) same ∙ get_or_from_slice_get ship.stacks place.stack from.stack_at no_stack from.is_stack in
    record {
      place = place;
      is_place = h;
      stack = from.stack_at;
      is_stack = from.is_stack;
      is_number = ap (λ (z : Stack). number_in z place) (sym stack) ∙ ap (λ (z : Place). number_in (slice_index_or ship.stacks (place_at ship p).stack no_stack) z) (sym same);
    }

module _ (ship : Ship) (cargo : Cargo) (call : ℕ) (plan : Plan) (rules : IsShip ship) (shipped : IsCargo cargo) (stowed : IsStowed ship cargo call plan) where
  -- a cell group is that of a container at its place
  record IsCell (g : CellGroup) (p c : ℕ) : Type 0 where
    holds : Holds plan p c
    is_cell : g ≡ cell_of ship cargo p c

  place_of : (p c : ℕ) → Holds plan p c → (place : Place) × (slice_get (places ship) p ≡ Some place)
  place_of p c h =
      let l : p < length plan = slice_get_within plan p (Some c) h in
      (place_at ship p, slice_get-get_or (places ship) p no_place (omega (arith, stowed.well_formed.each_place)))

  cell_from : (g : CellGroup) → Member g (cells ship cargo plan) → (p : ℕ) × (c : ℕ) × IsCell g p c
  unfolding cells
  cell_from g m =
      let b = flat_at (λ (p : ℕ). shown_from ship cargo p (held plan p)) (place_numbers ship) g m in
      let d = in_group ship cargo b.0 (held plan b.0) g b.2 in
      (b.0, d.0, record { holds = is_held plan b.0 d.0 d.1; is_cell = d.2 })

  cell_in : (p c : ℕ) → Holds plan p c → Member (cell_of ship cargo p c) (cells ship cargo plan)
  unfolding cells
  cell_in p c h =
      let at : held plan p ≡ Some c = held_is plan p (Some c) h in
      let l : p < length plan = slice_get_within plan p (Some c) h in
      flat_from (λ (q : ℕ). shown_from ship cargo q (held plan q)) (place_numbers ship) p (cell_of ship cargo p c)
      (range_from 0 (length (places ship)) p (omega arith) (omega (arith, stowed.well_formed.each_place)))
      (subst (λ (o : Option ℕ). Member (cell_of ship cargo p c) (shown_from ship cargo p o)) (sym at) (inl refl))

  says : (p c : ℕ) → Holds plan p c → Says ship cargo (cell_of ship cargo p c) p c
  says p c h =
      let known = stowed.well_formed.known p c h in
      let same : container_at cargo c ≡ known.0 = get_or_from_slice_get cargo.containers c known.0 no_container known.1 in
      let place = place_of p c h in
      record {
        container = known.0;
        is_container = known.1;
        same_id = ap (λ (x : Container). x.id) same;
        cell = numbered ship p place.0 place.1;
        fits = λ at is_place. stowed.well_formed.fits p c at known.0 (record { is_place = is_place; holds = h; is_container = known.1 });
        discharge = has_port cargo c known.0 shipped known.1 ∙ ap (λ (x : Container). Some (port_of cargo x.dest)) (sym same);
      }

  -- a cell group says one thing alone
  says_that : (g : CellGroup) (p c q d : ℕ) → IsCell g p c → Says ship cargo g q d → Holds plan q d
  says_that g p c q d cell s =
      let own = says p c cell.holds in
      let here : HasNumber ship q (number_at ship p) = subst (λ (z : CellGroup). HasNumber ship q (z.bay, z.row, z.tier)) cell.is_cell s.cell in
      let place : p ≡ q = number_once ship p q (number_at ship p) rules own.cell here in
      let id : own.container.id ≡ s.container.id = sym own.same_id ∙ ap (λ (z : CellGroup). z.id) (sym cell.is_cell) ∙ s.same_id in
      let container : c ≡ d = id_once cargo c d own.container s.container shipped own.is_container s.is_container id in
      subst (λ (z : ℕ). Holds plan z d) place (subst (λ (z : ℕ). Holds plan p z) container cell.holds)

  aboard_group : (g : CellGroup) → Member g (cells ship cargo plan) → IsAboardGroup ship cargo call g
  aboard_group g m =
      let f = cell_from g m in
      let s : Says ship cargo g f.0 f.1 = subst (λ (z : CellGroup). Says ship cargo z f.0 f.1) (sym f.2.is_cell) (says f.0 f.1 f.2.holds) in
      record { place = f.0; number = f.1; says = s; aboard = (stowed.aboard f.1 s.container s.is_container).0 (f.0, f.2.holds) }

  cells_pairs : (R : CellGroup → CellGroup → Type 0) → ((p q c d : ℕ) → p < q → Holds plan p c → Holds plan q d → R (cell_of ship cargo p c) (cell_of ship cargo q d)) → InPairs R (cells ship cargo plan)
  unfolding cells
  cells_pairs R h =
      pairs_flat R (λ (q : ℕ). shown_from ship cargo q (held plan q)) (place_numbers ship) (λ q. one_group ship cargo q (held plan q) _)
      (pairs_range _ 0 (length (places ship)) (λ i j l x y a b.
      let c = in_group ship cargo i (held plan i) x a in
      let d = in_group ship cargo j (held plan j) y b in
      let r : R (cell_of ship cargo i c.0) (cell_of ship cargo j d.0) = h i j c.0 d.0 l (is_held plan i c.0 c.1) (is_held plan j d.0 d.1) in
      subst (λ (z : CellGroup). R z y) (sym c.2) (subst (λ (z : CellGroup). R (cell_of ship cargo i c.0) z) (sym d.2) r)))

  one_id : (p q c d : ℕ) → p < q → Holds plan p c → Holds plan q d → (cell_of ship cargo p c).id ≢ (cell_of ship cargo q d).id
  one_id p q c d l h k same =
      let x = says p c h in
      let y = says q d k in
      let e : c ≡ d = id_once cargo c d x.container y.container shipped x.is_container y.is_container (sym x.same_id ∙ same ∙ y.same_id) in
      let once : p ≡ q = stowed.well_formed.once p q d (subst (λ (z : ℕ). Holds plan p z) e h) k in
      absurd (omega arith)

  no_half : (p q c d : ℕ) → p < q → Holds plan p c → Holds plan q d → SharesHalf ship (cell_of ship cargo p c) (cell_of ship cargo q d) → ⊥
  no_half p q c d l h k s =
      let x = says p c h in
      let y = says q d k in
      let at : p ≡ s.has_first.number = number_once ship p s.has_first.number (number_at ship p) rules x.cell s.has_first.cell in
      let to : q ≡ s.has_second.number = number_once ship q s.has_second.number (number_at ship q) rules y.cell s.has_second.cell in
      let first : Fills ship plan s.half c = record { number = s.has_first.number; place = s.first; is_place = s.has_first.is_place; has_half = s.in_first; holds = subst (λ (z : ℕ). Holds plan z c) at h } in
      let second : Fills ship plan s.half d = record { number = s.has_second.number; place = s.second; is_place = s.has_second.is_place; has_half = s.in_second; holds = subst (λ (z : ℕ). Holds plan z d) to k } in
      let same : s.has_first.number ≡ s.has_second.number = stowed.well_formed.apart s.half c d first second in
      omega arith

  some_says : (p c : ℕ) → Holds plan p c → SomeSays ship cargo (cells ship cargo plan) p c
  some_says p c h =
      let i = index_of (cells ship cargo plan) (cell_of ship cargo p c) (cell_in p c h) in
      record { index = i.0; group = cell_of ship cargo p c; is_group = i.1; says = says p c h }

  said : (p c : ℕ) → SomeSays ship cargo (cells ship cargo plan) p c → Holds plan p c
  said p c s =
      let f = cell_from s.group (member_of (cells ship cargo plan) s.index s.group s.is_group) in
      says_that s.group f.0 f.1 p c f.2 s.says

-- the groups of a departure show it
pub groups_show : (ship : Ship) (cargo : Cargo) (call : ℕ) (plan : Plan) → IsShip ship → IsCargo cargo → IsStowed ship cargo call plan → Shows ship cargo call (cells ship cargo plan) plan
groups_show ship cargo call plan rules shipped stowed = record {
  each_aboard = λ k d l. aboard_group ship cargo call plan rules shipped stowed _ (member_of (cells ship cargo plan) k (get_or (cells ship cargo plan) k d) (slice_get-get_or (cells ship cargo plan) k d l));
  ids_differ = all_pairs _ (cells ship cargo plan) (cells_pairs ship cargo call plan rules shipped stowed (λ (g h : CellGroup). g.id ≢ h.id) (one_id ship cargo call plan rules shipped stowed));
  halves_differ = all_pairs _ (cells ship cargo plan) (cells_pairs ship cargo call plan rules shipped stowed (λ (g h : CellGroup). SharesHalf ship g h → ⊥) (no_half ship cargo call plan rules shipped stowed));
  all_aboard = λ c container known aboard. let at = (stowed.aboard c container known).1 aboard in (at.0, some_says ship cargo call plan rules shipped stowed at.0 c at.1);
  each_place = stowed.well_formed.each_place;
  holds = λ p c. (some_says ship cargo call plan rules shipped stowed p c, said ship cargo call plan rules shipped stowed p c);
}

show_all : (ship : Ship) (cargo : Cargo) (call : ℕ) (plans : List Plan) → IsShip ship → IsCargo cargo → AreDepartures ship cargo call plans → ShowAll ship cargo call (map (cells ship cargo) plans) plans
show_all ship cargo call [] rules shipped legal = tt
show_all ship cargo call (plan ∷ plans) rules shipped legal = (groups_show ship cargo call plan rules shipped legal.0.stowed, show_all ship cargo (suc call) plans rules shipped legal.1)

-- the groups of the departures of a voyage are a legal file set
pub groups_legal : (ship : Ship) (cargo : Cargo) (plans : List Plan) → IsShip ship → IsCargo cargo → length plans + 1 ≡ length cargo.rotation → AreDepartures ship cargo 1 plans
    → IsLegalFileSet ship cargo (map (cells ship cargo) plans) plans
groups_legal ship cargo plans rules shipped each legal = record { each_call = each; shown = show_all ship cargo 1 plans rules shipped legal; legal = legal }
