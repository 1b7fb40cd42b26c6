-- A place far above all that stands in its stack isn't open.
use Rattle.std.proofs.Common.{◌≡◌, ℕ, ◌+◌, ◌-◌, ◌<◌, ◌≤◌, List, Some, sym, arith}
use Rattle.std.specs.Prelude.{slice_get}
use Rattle.stow_data.specs.declared.geometry.Place.{Place}
use Rattle.stow_data.specs.declared.cargoes.Container.{Container}
use Rattle.stow_data.specs.Ship.{Ship}
use Rattle.stow_data.specs.Shipment.{Cargo}
use Rattle.stow_data.specs.Plans.{Plan}
use Rattle.stowage_rules.specs.Plan.{IsWellFormed}
use Rattle.greedy_loader.specs.Kept.{AreTops}
use Rattle.greedy_loader.specs.Rule.{IsOpenAt}
use Rattle.greedy_loader.proofs.Aboard.{some_side}

pub too_high : (ship : Ship) (cargo : Cargo) (plan : Plan) (tops : List ℕ) (t : ℕ) (place : Place) → IsWellFormed ship cargo plan → AreTops ship cargo plan tops → slice_get tops place.stack ≡ Some t → t + 1 < place.tier → (x : Container) → IsOpenAt ship cargo plan x place → ⊥
too_high ship cargo plan tops t place formed are at high x open_ =
    let s = some_side place.span in
    let next : place.tier ≡ place.tier - 1 + 1 = omega (arith, high) in
    let below = open_.borne (s.0) (place.tier - 1) (s.1) next in
    let fills = below.1 in
    let known = formed.known fills.number (below.0) fills.holds in
    let low : fills.place.tier ≤ t = are place.stack t fills.number (below.0) fills.place (known.0) at (record { is_place = fills.is_place; holds = fills.holds; is_container = known.1 }) (sym fills.has_half.same_stack) in
    let tier : place.tier - 1 ≡ fills.place.tier = fills.has_half.same_tier in
    absurd (omega (arith, low, tier, high))
