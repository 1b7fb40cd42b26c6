-- The parts of a sailor, by how much there is.
use Rattle.std.specs.Prelude.{◌≡◌, length}
use Rattle.std.specs.Arc.{arc_value}
use Rattle.heuristic.specs.declared.sailing.Sailor.TheInside.{Inside}

-- a sailor's parts are those of one voyage
pub record IsSailor (s : Inside) : Type 0 where
  pub same_facts : arc_value s.facts ≡ s.ship_state
  pub same_leave : s.leave ≡ s.ship_state
  pub same_scope : s.scope ≡ s.ship_state.stacks
  pub same_trade : s.trade ≡ s.ship_state
  pub same_guide : s.guide ≡ s.ship_state
  pub each_turn : length s.order.items ≡ s.ship_state.kinds
