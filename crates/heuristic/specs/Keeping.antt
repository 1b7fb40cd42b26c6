-- The kept voyage, by how much there is.
use Rattle.std.specs.Prelude.{◌≡◌, All, length}
use Rattle.heuristic.specs.declared.kept.Kept.TheInside.{Inside}
use Rattle.voyage_state.specs.Ranges.{IsPlanned}

-- for each stack its stays and what they cost
pub record IsKept (k : Inside) : Type 0 where
  pub each_list : length k.stays.items ≡ k.sizes.stacks
  pub each_cost : length k.costs.items ≡ k.sizes.stacks
  pub stays_in : All (λ list. All (IsPlanned k.sizes) list.items) k.stays.items
