-- Each closed set of filled places is lifted by some legal moves, which cost exactly what it does.
use Rattle.std.specs.Prelude.{◌≡◌, ℕ, Bool, true, false, List, [], ◌∷◌, Option, Some, None, slice_get, ◌||◌, ◌&&◌, not, ◌==◌, length, ◌<◌, suc, zero, nat_eq}
use Rattle.std.specs.List.{list_any}
use Rattle.std.proofs.Common.{refl, sym, ◌∙◌, ap, arith, inl, inr, ⊎_elim}
use Rattle.std.proofs.lemmas.Bool.{and_from, and_parts, and_cases, both_ways, or_cases, or_left, or_right, or_parts, eq-eqb, eqb-true, false_from_ne_true, not-true, not-false, cases_eq}
use Rattle.std.proofs.lemmas.Map.Views.{list_any-from_Contains, Contains-from_any}
use Rattle.std.proofs.lemmas.Cmp.{nat_eq_equiv}
use Rattle.std.proofs.lemmas.Option.{none-some, same_Some, slice_get_within}
use Rattle.stow_data.specs.declared.geometry.Cover.{Cover}
use Rattle.stow_data.specs.declared.cargoes.Container.{Container}
use Rattle.stow_data.specs.declared.geometry.Place.{Place}
use Rattle.voyage_meaning.specs.declared.moves.Move.{Move}
use Rattle.stow_data.specs.Ship.{Ship, places, LiesUnder, StandsOn}
use Rattle.stow_data.specs.Shipment.{Cargo}
use Rattle.stow_data.specs.Plans.{Plan}
use Rattle.stowage_rules.specs.Plan.{Holds}
use Rattle.stowage_rules.specs.Departure.{IsStowed, IsDeparture}
use Rattle.voyage_meaning.specs.Moves.{lift_cost, cost_of_moves}
use Rattle.voyage_meaning.specs.Voyage.{LeadsTo, start}
use Rattle.plan_lifts.specs.Least.{IsClosed, IsDivided, counted}
use Rattle.plan_lifts.proofs.Order.{over_is_later}
use Rattle.plan_lifts.proofs.Upper.{Facts, moves, moves_reach}
use Rattle.plan_lifts.proofs.Exact.{moves_cost}

-- tests of two cells, and of one
abbrev pub same_cell : Option (Option ℕ) → Option (Option ℕ) → Bool
same_cell None None = true
same_cell (Some None) (Some None) = true
same_cell (Some (Some c)) (Some (Some d)) = c == d
same_cell _ _ = false

pub same_cell_true : (a b : Option (Option ℕ)) → same_cell a b ≡ true → a ≡ b
same_cell_true None None h = refl
same_cell_true (Some None) (Some None) h = refl
same_cell_true (Some (Some c)) (Some (Some d)) h = ap (λ (x : ℕ). Some (Some x)) (eqb-true c d h)
same_cell_true None (Some o) h = absurd (both_ways false refl h)
same_cell_true (Some None) None h = absurd (both_ways false refl h)
same_cell_true (Some (Some c)) None h = absurd (both_ways false refl h)
same_cell_true (Some None) (Some (Some d)) h = absurd (both_ways false refl h)
same_cell_true (Some (Some c)) (Some None) h = absurd (both_ways false refl h)

pub same_cell_itself : (a : Option (Option ℕ)) → same_cell a a ≡ true
same_cell_itself None = refl
same_cell_itself (Some None) = refl
same_cell_itself (Some (Some c)) = eq-eqb c c refl

abbrev pub is_held : Option (Option ℕ) → Bool
is_held (Some (Some c)) = true
is_held (Some None) = false
is_held None = false

pub held_by : (a : Option (Option ℕ)) → is_held a ≡ true → (c : ℕ) × (a ≡ Some (Some c))
held_by (Some (Some c)) h = (c, refl)
held_by (Some None) h = absurd (both_ways false refl h)
held_by None h = absurd (both_ways false refl h)

-- a number below n that passes
abbrev some_below : (ℕ → Bool) → ℕ → Bool
some_below f zero = false
some_below f (suc n) = f n || some_below f n

some_below_from : (f : ℕ → Bool) (n k : ℕ) → k < n → f k ≡ true → some_below f n ≡ true
some_below_from f zero k l h = absurd (omega arith)
some_below_from f (suc n) k l h = ⊎_elim (λ (e : k ≡ n). or_left (f n) (some_below f n) (ap f (sym e) ∙ h)) (λ (ne : k ≡ n → ⊥). or_right (f n) (some_below f n) (some_below_from f n k (omega arith) h)) (cases_eq k n)

some_below_at : (f : ℕ → Bool) (n : ℕ) → some_below f n ≡ true → (k : ℕ) × (f k ≡ true)
some_below_at f zero h = absurd (both_ways false refl h)
some_below_at f (suc n) h = ⊎_elim (λ (x : f n ≡ true). (n, x)) (λ (x : some_below f n ≡ true). some_below_at f n x) (or_cases (f n) (some_below f n) h)

-- whether a place stands on a cover; whether it lies under cover k
abbrev on_some : List Cover → Option Place → Bool
on_some covers None = false
on_some covers (Some p) = list_any (λ (c : Cover). list_any (nat_eq p.stack) c.on) covers

abbrev under_cover : Option Cover → Option Place → Bool
under_cover None o = false
under_cover (Some c) None = false
under_cover (Some c) (Some p) = list_any (nat_eq p.stack) c.under

any_at : (covers : List Cover) (t : Cover → Bool) (k : ℕ) (c : Cover) → slice_get covers k ≡ Some c → t c ≡ true → list_any t covers ≡ true
any_at [] t k c is h = absurd (none-some c is)
any_at (d ∷ ds) t zero c is h = or_left (t d) (list_any t ds) (ap t (same_Some d c is) ∙ h)
any_at (d ∷ ds) t (suc k) c is h = or_right (t d) (list_any t ds) (any_at ds t k c is h)

any_from : (covers : List Cover) (t : Cover → Bool) → list_any t covers ≡ true → (k : ℕ) × (c : Cover) × (slice_get covers k ≡ Some c) × (t c ≡ true)
any_from [] t h = absurd (both_ways false refl h)
any_from (d ∷ ds) t h = ⊎_elim (λ (x : t d ≡ true). (0, d, refl, x)) (λ (x : list_any t ds ≡ true). let r = any_from ds t x in (suc r.0, r.1, r.2, r.3)) (or_cases (t d) (list_any t ds) h)

on_true : (ship : Ship) (place : Place) (k : ℕ) → StandsOn ship place.stack k → on_some ship.covers (Some place) ≡ true
on_true ship place k on = any_at ship.covers (λ (c : Cover). list_any (nat_eq place.stack) c.on) k on.cover on.is_cover (list_any-from_Contains {eq = nat_eq} nat_eq_equiv place.stack on.cover.on on.named)

on_from : (ship : Ship) (place : Place) → on_some ship.covers (Some place) ≡ true → (k : ℕ) × StandsOn ship place.stack k
on_from ship place h =
    let r = any_from ship.covers (λ (c : Cover). list_any (nat_eq place.stack) c.on) h in
    (r.0, record { cover = r.1; is_cover = r.2; named = Contains-from_any {eq = nat_eq} (λ x y. eqb-true x y) place.stack r.1.on r.3 })

under_true : (ship : Ship) (place : Place) (k : ℕ) → LiesUnder ship place.stack k → under_cover (slice_get ship.covers k) (Some place) ≡ true
under_true ship place k under = ap (λ (o : Option Cover). under_cover o (Some place)) under.is_cover ∙ list_any-from_Contains {eq = nat_eq} nat_eq_equiv place.stack under.cover.under under.named

under_from : (ship : Ship) (k : ℕ) (c : Option Cover) (o : Option Place) → slice_get ship.covers k ≡ c → under_cover c o ≡ true → (place : Place) × (o ≡ Some place) × LiesUnder ship place.stack k
under_from ship k None o is h = absurd (both_ways false refl h)
under_from ship k (Some c) None is h = absurd (both_ways false refl h)
under_from ship k (Some c) (Some p) is h = (p, refl, record { cover = c; is_cover = is; named = Contains-from_any {eq = nat_eq} (λ x y. eqb-true x y) p.stack c.under h })

-- the moves of a closed set of filled places lead from the old plan to the new one, and cost what the set does
pub closed_leads : (ship : Ship) (cargo : Cargo) (earlier : ℕ) (old new : Plan) (lifted : ℕ → Bool)
    → IsDivided ship
    → ((c : ℕ) (container : Container) → slice_get cargo.containers c ≡ Some container → container.load < container.dest)
    → IsStowed ship cargo earlier old → IsDeparture ship cargo (suc earlier) new
    → IsClosed ship old new lifted → ((p : ℕ) → lifted p ≡ true → (c : ℕ) × Holds old p c)
    → (ms : List Move) × LeadsTo ship cargo (suc earlier) old ms new × (cost_of_moves cargo (suc earlier) (start ship cargo (suc earlier) old) ms ≡ counted (lift_cost cargo (suc earlier)) lifted old)
closed_leads ship cargo earlier old new lifted divided in_order before departs closed only =
    let reach = moves_reach ship cargo (suc earlier) old new lifted moved deck opened due facts in (
      moves ship cargo (suc earlier) old new lifted moved deck opened due facts,
      record { allowed = reach.0; plan = reach.1.plan; quay_empty = reach.1.quay_empty; covers_on = reach.1.covers_on; departure = departs },
      moves_cost ship cargo (suc earlier) old new lifted moved deck opened due facts,
    )
  where
    moved : ℕ → Bool
    moved p = lifted p || not (same_cell (slice_get old p) (slice_get new p))

    due : ℕ → Bool
    due p = moved p && is_held (slice_get new p)

    deck : ℕ → Bool
    deck p = on_some ship.covers (slice_get (places ship) p)

    opened : ℕ → Bool
    opened k = some_below (λ q. moved q && under_cover (slice_get ship.covers k) (slice_get (places ship) q)) (length (places ship))

    facts : Facts ship cargo (suc earlier) old new lifted moved deck opened due
    facts = record {
      old_formed = before.well_formed;
      old_aboard = λ c container known. let iff = before.aboard c container known in
          ((λ x. let r = iff.0 x in (omega (arith, r.loaded), omega (arith, r.stays))), (λ r. iff.1 (record { loaded = omega (arith, r.0); stays = omega (arith, r.1) })));
      new_stowed = departs.stowed;
      in_order = in_order;
      closed = closed;
      only = only;
      moved_true = λ p m. ⊎_elim (λ (x : lifted p ≡ true). inl x)
          (λ (x : not (same_cell (slice_get old p) (slice_get new p)) ≡ true). inr (λ e. both_ways (same_cell (slice_get old p) (slice_get new p)) (not-true (same_cell (slice_get old p) (slice_get new p)) x) (ap (λ (o : Option (Option ℕ)). same_cell o (slice_get new p)) e ∙ same_cell_itself (slice_get new p))))
          (or_cases (lifted p) (not (same_cell (slice_get old p) (slice_get new p))) m);
      moved_false = λ p m. let parts = or_parts (lifted p) (not (same_cell (slice_get old p) (slice_get new p))) m in
          (parts.0, same_cell_true (slice_get old p) (slice_get new p) (not-false (same_cell (slice_get old p) (slice_get new p)) parts.1));
      due_true = λ p d. let parts = and_parts (moved p) (is_held (slice_get new p)) d in (parts.0, held_by (slice_get new p) parts.1);
      due_false = λ p d. ⊎_elim (λ (x : moved p ≡ false). inl x)
          (λ (x : is_held (slice_get new p) ≡ false). inr (λ c held. both_ways (is_held (slice_get new p)) x (ap is_held held)))
          (and_cases (moved p) (is_held (slice_get new p)) d);
      later = over_is_later ship;
      deck_same = λ p q over. ap (on_some ship.covers) over.is_upper ∙ (ap (λ (s : ℕ). list_any (λ (c : Cover). list_any (nat_eq s) c.on) ship.covers) over.same_stack ∙ sym (ap (on_some ship.covers) over.is_lower));
      deck_stands = λ p k place is on. ap (on_some ship.covers) is ∙ on_true ship place k on;
      deck_not_under = λ p k place is under. ap (on_some ship.covers) is ∙ false_from_ne_true (on_some ship.covers (Some place)) (λ h. let on = on_from ship place h in divided place.stack k on.0 under on.1);
      opened_by = λ k q place is under m. some_below_from (λ q. moved q && under_cover (slice_get ship.covers k) (slice_get (places ship) q)) (length (places ship)) q (slice_get_within (places ship) q place is)
          (and_from (moved q) (under_cover (slice_get ship.covers k) (slice_get (places ship) q)) m (ap (under_cover (slice_get ship.covers k)) is ∙ under_true ship place k under));
      opened_for = λ k o.
          let r = some_below_at (λ q. moved q && under_cover (slice_get ship.covers k) (slice_get (places ship) q)) (length (places ship)) o in
          let parts = and_parts (moved r.0) (under_cover (slice_get ship.covers k) (slice_get (places ship) r.0)) r.1 in
          let u = under_from ship k (slice_get ship.covers k) (slice_get (places ship) r.0) refl parts.1 in
          (r.0, (u.0, u.1, u.2), parts.0);
    }
