-- The order on the quay.
use Rattle.std.specs.Prelude.{ℕ, ◌-◌, Bool, not, List, length}
use Rattle.std.specs.declared.cmp.Ordering.{Ordering}
use Rattle.std.specs.Ordering.{nat_cmp, bool_cmp, ordering_then, is_lt}
use Rattle.std.specs.List.Sorted.{IsSortedBy}
use Rattle.stow_data.specs.declared.geometry.Length.TheVariants.{Forty}
use Rattle.stow_data.specs.Ship.{same_length}
use Rattle.stow_data.specs.Shipment.{Cargo}
use Rattle.stow_data.specs.Plans.{container_at}

-- what the turn of a container depends on: how many calls follow its destination, whether it is no reefer, whether it is a 40-foot one, and its number
abbrev pub turn : Cargo → ℕ → ℕ × Bool × Bool × ℕ
turn cargo c = (length cargo.rotation - (container_at cargo c).dest, not (container_at cargo c).reefer, same_length (container_at cargo c).long Forty, c)

-- the latest destination comes first, then reefers, then 20 foot, then the lesser number
abbrev pub by_turn : ℕ × Bool × Bool × ℕ → ℕ × Bool × Bool × ℕ → Ordering
by_turn a b = ordering_then (ordering_then (ordering_then (nat_cmp (a.0) (b.0)) (bool_cmp (a.1) (b.1))) (bool_cmp (a.2) (b.2))) (nat_cmp (a.3) (b.3))

-- none comes behind one that its turn is before
abbrev pub IsInOrder : Cargo → List ℕ → Type 0
IsInOrder cargo quay = IsSortedBy (λ c d. is_lt (by_turn (turn cargo c) (turn cargo d))) quay
