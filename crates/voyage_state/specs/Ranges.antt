-- Numbers for which the lists of a voyage have entries.
use Rattle.std.specs.Prelude.{ℕ, ◌<◌, ◌≤◌, IfSome}
use Rattle.voyage_state.specs.declared.sizes.Sizes.{Sizes}
use Rattle.voyage_state.specs.declared.facts.Spot.{Spot}
use Rattle.voyage_state.specs.declared.facts.StackFacts.{StackFacts}
use Rattle.voyage_state.specs.declared.facts.Arrived.{Arrived}
use Rattle.voyage_state.specs.declared.facts.Mark.{Mark}
use Rattle.voyage_state.specs.declared.ship_state.Planned.{Planned}

-- a place of a stack that there is, in one of the 40 tiers that a stack has at most
pub record IsSpot (stacks : ℕ) (spot : Spot) : Type 0 where
  pub in_stack : spot.stack < stacks
  pub in_tier : spot.tier < 40

-- a stack lies under and stands on covers that there are, and has at most 40 tiers
pub record IsStack (covers : ℕ) (s : StackFacts) : Type 0 where
  pub few_tiers : s.tiers ≤ 40
  pub is_under : IfSome s.over (λ c. c < covers)
  pub is_on : IfSome s.under (λ c. c < covers)

-- what arrives is of a kind that there is, and stands in a place that there is
pub record IsArrived (sizes : Sizes) (a : Arrived) : Type 0 where
  pub of_kind : a.kind < sizes.kinds
  pub at_spot : IsSpot sizes.stacks a.spot

-- the stays of a variable are among those that there are
abbrev pub IsMark : Sizes → Mark → Type 0
IsMark sizes m = m.stays < sizes.stays

-- a stay is one of a kind, a stack and a place that there are, from one call to another
pub record IsPlanned (sizes : Sizes) (p : Planned) : Type 0 where
  pub of_kind : p.kind < sizes.kinds
  pub in_stack : p.spot.stack < sizes.stacks
  pub in_place : p.place < sizes.places
  pub put_by : p.put ≤ sizes.calls
  pub lifted_by : p.lifted ≤ sizes.calls
