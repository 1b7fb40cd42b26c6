-- A ship on which nothing stands.
use Rattle.std.proofs.Common.{◌≡◌, ℕ, zero, suc, ◌<◌, ◌∙◌, false, List, [], ◌∷◌, length, Option, Some, None, refl, sym, ap, subst, arith}
use Rattle.std.specs.Prelude.{slice_get, zip, sum_by, replicate}
use Rattle.std.proofs.lemmas.List.{length-replicate}
use Rattle.std.proofs.lemmas.Option.{none-some, same_Some}
use Rattle.std.proofs.lemmas.List.Elements.{All-nil}
use Rattle.std.proofs.lemmas.List.Sums.{sum_by-cons}
use Rattle.stow_data.specs.declared.geometry.Place.{Place}
use Rattle.stow_data.specs.Ship.{Ship, places}
use Rattle.stow_data.specs.Shipment.{Cargo}
use Rattle.stow_data.specs.Plans.{Plan}
use Rattle.stowage_rules.specs.Plan.{Holds, IsWellFormed}
use Rattle.stowage_rules.specs.Departure.{weight_in}
use Rattle.greedy_loader.specs.declared.layout.Layout.{Layout}
use Rattle.greedy_loader.specs.Kept.{IsKept, AreTops, AreWeights, AreLaden, AreEarliest, AreClassed}
use Rattle.greedy_loader.proofs.Putting.{weighs_none}

-- the plan of a ship on which nothing stands
abbrev pub bare_plan : Ship → Plan
bare_plan ship = replicate (length (places ship)) None

filled_with : {X : Type 0} (n k : ℕ) (x y : X) → slice_get (replicate n x) k ≡ Some y → y ≡ x
filled_with zero k x y h = absurd (none-some y h)
filled_with (suc n) zero x y h = sym (same_Some x y h)
filled_with (suc n) (suc k) x y h = filled_with n k x y h

none_holds : (n p c : ℕ) → Holds (replicate n None) p c → ⊥
none_holds zero p c h = none-some (Some c) h
none_holds (suc n) zero c h = none-some c (same_Some None (Some c) h)
none_holds (suc n) (suc p) c h = none_holds n p c h

pub bare_formed : (ship : Ship) (cargo : Cargo) → IsWellFormed ship cargo (bare_plan ship)
bare_formed ship cargo = record {
  each_place = length-replicate (length (places ship)) None;
  known = λ p c h. absurd (none_holds (length (places ship)) p c h);
  fits = λ p c place y s. absurd (none_holds (length (places ship)) p c s.holds);
  apart = λ h c d x y. absurd (none_holds (length (places ship)) x.number c x.holds);
  once = λ p q c h i. absurd (none_holds (length (places ship)) p c h);
}

weightless : (f : Place × Option ℕ → ℕ) (ps : List Place) (n : ℕ) → ((place : Place) → f (place, None) ≡ 0) → sum_by f (zip ps (replicate n None)) ≡ 0
weightless f [] n h = refl
weightless f (p ∷ ps) zero h = refl
weightless f (p ∷ ps) (suc n) h = omega (arith, sum_by-cons f (p, None) (zip ps (replicate n None)), h p, weightless f ps n h)

pub bare_weights : (ship : Ship) (cargo : Cargo) (n : ℕ) → AreWeights ship cargo (bare_plan ship) (replicate n 0)
bare_weights ship cargo n s w h = omega (arith, filled_with n s 0 w h, weightless (weight_in ship.weight_step cargo s) (places ship) (length (places ship)) (λ place. weighs_none ship.weight_step cargo s place))

pub bare_laden : (ship : Ship) (n : ℕ) → AreLaden ship (bare_plan ship) (replicate n false)
bare_laden ship n k flag h = (λ e p c place is on holds. none_holds (length (places ship)) p c holds, λ b. filled_with n k false flag h)

pub bare_earliest : (ship : Ship) (cargo : Cargo) (n : ℕ) → AreEarliest ship cargo (bare_plan ship) (replicate n (length cargo.rotation))
bare_earliest ship cargo n k m v h l = (λ e q d lower y s under. absurd (none_holds (length (places ship)) q d s.holds), λ none. let e = filled_with n k (length cargo.rotation) m h in omega (arith, e, l))

pub bare_classed : (ship : Ship) (cargo : Cargo) → AreClassed ship cargo (bare_plan ship) []
bare_classed ship cargo = record {
  inside = All-nil (λ (q : ℕ). q < length (places ship));
  each = λ q d place y s named. absurd (none_holds (length (places ship)) q d s.holds);
}

pub bare_tops : (ship : Ship) (cargo : Cargo) (tops : List ℕ) → AreTops ship cargo (bare_plan ship) tops
bare_tops ship cargo tops s t q d place y h stands same = absurd (none_holds (length (places ship)) q d stands.holds)

-- a layout of it
pub bare_kept : (ship : Ship) (cargo : Cargo) (layout : Layout) (n j k m t : ℕ) → layout.plan ≡ bare_plan ship → layout.weights ≡ replicate n 0 → n ≡ length ship.stacks → layout.tops ≡ replicate j 0 → j ≡ length ship.stacks → layout.laden ≡ replicate k false → k ≡ length ship.covers → layout.earliest ≡ replicate m t → m ≡ length ship.covers → t ≡ length cargo.rotation → layout.classed ≡ [] → IsKept ship cargo layout
bare_kept ship cargo layout n j k m t plan weights stacks tops stacks_too laden covers earliest covers_too calls classed = record {
  formed = subst (λ (z : Plan). IsWellFormed ship cargo z) (sym plan) (bare_formed ship cargo);
  each_stack = ap length weights ∙ (length-replicate n 0 ∙ stacks);
  each_stack_too = ap length tops ∙ (length-replicate j 0 ∙ stacks_too);
  each_cover = ap length laden ∙ (length-replicate k false ∙ covers);
  each_cover_too = ap length earliest ∙ (length-replicate m t ∙ covers_too);
  weights = subst (λ (z : Plan). AreWeights ship cargo z layout.weights) (sym plan) (subst (AreWeights ship cargo (bare_plan ship)) (sym weights) (bare_weights ship cargo n));
  tops = subst (λ (z : Plan). AreTops ship cargo z layout.tops) (sym plan) (bare_tops ship cargo layout.tops);
  laden = subst (λ (z : Plan). AreLaden ship z layout.laden) (sym plan) (subst (AreLaden ship (bare_plan ship)) (sym laden) (bare_laden ship k));
  earliest = subst (λ (z : Plan). AreEarliest ship cargo z layout.earliest) (sym plan) (subst (AreEarliest ship cargo (bare_plan ship)) (sym (earliest ∙ ap (replicate m) calls)) (bare_earliest ship cargo m));
  classed = subst (λ (z : Plan). AreClassed ship cargo z layout.classed) (sym plan) (subst (AreClassed ship cargo (bare_plan ship)) (sym classed) (bare_classed ship cargo));
}
