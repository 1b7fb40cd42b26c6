-- What the variables are: where those of the arrival stand, and whether places have the lengths of kinds.
use Rattle.std.proofs.Common.{◌≡◌, ℕ, zero, suc, ◌<◌, ◌≤◌, Bool, true, false, cond, not, ◌&&◌, ltb, leb, Option, Some, None, length, refl, ap, sym, subst, arith, ◌∙◌, ◌⊎◌, inl, inr, ⊎_elim}
use Rattle.std.specs.Prelude.{◌==◌, nat_le, slice_get, slice_index_or}
use Rattle.std.proofs.lemmas.Bool.{and_parts, and_from, both_ways, eqb-true, eq-eqb, ltb-true, leb-true, ne_eqb, cond-true, cond-false, not-true}
use Rattle.stow_data.specs.declared.geometry.Place.{Place}
use Rattle.stow_data.specs.declared.geometry.Half.{Half}
use Rattle.stow_data.specs.declared.geometry.Span.{Span}
use Rattle.stow_data.specs.declared.geometry.Span.TheVariants.{Fore, Aft, Both}
use Rattle.stow_data.specs.declared.cargoes.Container.{Container}
use Rattle.stow_data.specs.Ship.{places, length_in, fits, HasHalf, TakesSide}
use Rattle.stow_data.proofs.Fitting.{fits_said}
use Rattle.stow_data.specs.Plans.{container_at, held, no_container}
use Rattle.stow_data.specs.Kinds.{kind_of, kind_number}
use Rattle.stow_data.proofs.PlanLookups.{is_place, is_held, container_is}
use Rattle.stowage_rules.specs.Plan.{Holds}
use Rattle.stowage_rules.specs.Departure.{HasArrival}
use Rattle.zero_one_rows.specs.declared.program.Var.{Var}
use Rattle.zero_one_rows.specs.Variables.{Voyage, kind, place, variables, var, arrived}
use Rattle.zero_one_rows.specs.Listed.{IsNamed}
use Rattle.zero_one_rows.specs.Rows.{covers, takes}
use Rattle.zero_one_rows.proofs.VariableList.{var_listed}
use Rattle.crossing_law.proofs.KindFacts.{kind_alike, alike_long}

-- half-cells of a place, as a test and as a record
takes_side : (span : Span) (side : Bool) → takes span side ≡ true → TakesSide span side
takes_side Fore side h = not-true side h
takes_side Aft side h = h
takes_side Both side h = tt

side_taken : (span : Span) (side : Bool) → TakesSide span side → takes span side ≡ true
side_taken Fore side h = ap not h
side_taken Aft side h = h
side_taken Both side h = refl

pub has_half_from : (p : Place) (h : Half) → covers p h ≡ true → HasHalf p h
has_half_from p h e =
    let a = and_parts (p.stack == h.stack) ((p.tier == h.tier) && takes p.span h.aft) e in
    let b = and_parts (p.tier == h.tier) (takes p.span h.aft) a.1 in
    record { same_stack = sym (eqb-true _ _ a.0); same_tier = sym (eqb-true _ _ b.0); side = takes_side p.span h.aft b.1 }

pub covers_from : (p : Place) (h : Half) → HasHalf p h → covers p h ≡ true
covers_from p h e = and_from _ _ (eq-eqb _ _ (sym e.same_stack)) (and_from _ _ (eq-eqb _ _ (sym e.same_tier)) (side_taken p.span h.aft e.side))

option_cases : (o : Option ℕ) → (o ≡ None) ⊎ ((c : ℕ) × (o ≡ Some c))
option_cases None = inl refl
option_cases (Some c) = inr (c, refl)

-- the kind of a container, by number
abbrev pub kind_at : Voyage → ℕ → ℕ
kind_at m c = kind_number m.ship.weight_step m.cargo.containers (slice_index_or m.cargo.containers c no_container)

arrived_none : (m : Voyage) (g p : ℕ) → held m.cargo.arrival p ≡ None → arrived m g p ≡ false
arrived_none m g p e = rw e refl

pub arrived_some : (m : Voyage) (g p c : ℕ) → held m.cargo.arrival p ≡ Some c → arrived m g p ≡ (kind_at m c == g)
arrived_some m g p c e = rw e refl

-- a container of kind g arrived at place p
pub record Arrived (m : Voyage) (g p : ℕ) : Type 0 where
  pub number : ℕ
  pub holds : Holds m.cargo.arrival p number
  pub of_kind : kind_at m number ≡ g

pub arrived_is : (m : Voyage) (g p : ℕ) → arrived m g p ≡ true → Arrived m g p
arrived_is m g p h = ⊎_elim
    (λ (e : held m.cargo.arrival p ≡ None). absurd (both_ways (arrived m g p) (arrived_none m g p e) h))
    (λ (r : (c : ℕ) × (held m.cargo.arrival p ≡ Some c)). record { number = r.0; holds = is_held m.cargo.arrival p r.0 r.1; of_kind = eqb-true _ _ (sym (arrived_some m g p r.0 r.1) ∙ h) })
    (option_cases (held m.cargo.arrival p))

-- what a variable is
pub record IsVariable (m : Voyage) (x : Var) : Type 0 where
  pub later : x.put < x.lifted
  pub lifted : x.lifted ≤ (kind m x.kind).dest
  pub arrives : x.put ≡ 0 → Arrived m x.kind x.place
  pub fitting : (x.put ≡ 0 → ⊥) → fits (place m x.place) (kind m x.kind).long (kind m x.kind).reefer ≡ true
  pub named : IsNamed m x

abbrev may_stand : Voyage → Var → Bool
may_stand m x = cond (x.put == 0) (arrived m x.kind x.place) (nat_le (kind m x.kind).first x.put && fits (place m x.place) (kind m x.kind).long (kind m x.kind).reefer)

pub variable_is : (m : Voyage) (v : ℕ) → v < length (variables m) → IsVariable m (var m v)
variable_is m v lt =
    let l = var_listed m v lt in
    let x = var m v in
    let a = and_parts (ltb x.put x.lifted) (leb x.lifted (kind m x.kind).dest && may_stand m x) l.0 in
    let b = and_parts (leb x.lifted (kind m x.kind).dest) (may_stand m x) a.1 in
    record {
      later = ltb-true _ _ a.0;
      lifted = leb-true _ _ b.0;
      arrives = λ e. arrived_is m x.kind x.place (sym (cond-true (x.put == 0) _ _ (eq-eqb _ _ e)) ∙ b.1);
      fitting = λ n. (and_parts (leb (kind m x.kind).first x.put) _ (sym (cond-false (x.put == 0) _ _ (ne_eqb _ _ n)) ∙ b.1)).1;
      named = l.1;
    }

module _ (m : Voyage) (arr : HasArrival m.ship m.cargo) where
  -- a container of the arrival is one of the cargo
  pub arrived_container : (p c : ℕ) → Holds m.cargo.arrival p c → slice_get m.cargo.containers c ≡ Some (container_at m.cargo c)
  arrived_container p c h = let r = arr.well_formed.known p c h in r.1 ∙ ap (λ (z : Container). Some z) (sym (container_is m.cargo c r.0 r.1))

  kind_long : (g p : ℕ) → p < length (places m.ship) → Arrived m g p → (kind m g).long ≡ length_in (place m p).span
  kind_long g p lt a =
      let c = arrived_container p a.number a.holds in
      let long : (kind m (kind_at m a.number)).long ≡ (container_at m.cargo a.number).long = alike_long (kind m (kind_at m a.number)) (kind_of m.ship.weight_step (container_at m.cargo a.number)) (kind_alike m.ship.weight_step m.cargo.containers a.number (container_at m.cargo a.number) c) in
      subst (λ (k : ℕ). (kind m k).long ≡ (container_at m.cargo a.number).long) a.of_kind long
      ∙ arr.well_formed.fits p a.number (place m p) (container_at m.cargo a.number) (record { is_place = is_place m.ship p lt; holds = a.holds; is_container = c })

  -- a variable's place has its kind's length
  pub place_long : (v : ℕ) → v < length (variables m) → (kind m (var m v).kind).long ≡ length_in (place m (var m v).place).span
  place_long v lt =
      let x = var m v in
      let i = variable_is m v lt in
      let n = i.named in
      ⊎_elim
      (λ (z : x.put ≡ 0). kind_long x.kind x.place n.place (i.arrives z))
      (λ (nz : x.put ≡ 0 → ⊥). (fits_said (place m x.place) (kind m x.kind).long (kind m x.kind).reefer (i.fitting nz)).length_fits)
      (zero_or x.put)
    where
      zero_or : (n : ℕ) → (n ≡ 0) ⊎ (n ≡ 0 → ⊥)
      zero_or zero = inl refl
      zero_or (suc n) = inr (λ e. omega (arith, e))
