-- What is the same in every run, by how much there is.
use Rattle.std.specs.Prelude.{◌≡◌, All, length}
use Rattle.voyage_state.specs.declared.facts.Facts.TheInside.{Inside}
use Rattle.voyage_state.specs.Ranges.{IsArrived, IsMark, IsStack}

-- stacks, kinds and places are as many as there are, and what names one of them names one that there is
pub record AreFacts (f : Inside) : Type 0 where
  pub each_stack : length f.stacks.items ≡ f.sizes.stacks
  pub each_kind : length f.kinds.items ≡ f.sizes.kinds
  pub each_place : length f.places.items ≡ f.sizes.places
  pub bound : f.bonds ≡ f.sizes.stacks
  pub stacks_in : All (IsStack f.sizes.covers) f.stacks.items
  pub arrived_in : All (IsArrived f.sizes) f.arrived.items
  pub marks_in : All (IsMark f.sizes) f.marks.items
