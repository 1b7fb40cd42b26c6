-- The pairs of classes of separations.
use Rattle.std.specs.Prelude.{◌≡◌, List}
use Rattle.std.specs.List.{list_any}
use Rattle.std.specs.declared.cmp.Ordering.{Ordering}
use Rattle.std.specs.Ordering.{nat_cmp, ordering_then}
use Rattle.std.specs.Cmp.Lexicographic.{slice_cmp}
use Rattle.std.specs.BTreeSet.{BTreeSet, contains}
use Rattle.stow_data.specs.declared.geometry.Separation.{Separation}
use Rattle.ship_profile.specs.declared.class_pair.ClassPair.{ClassPair}
use Rattle.ship_profile.specs.Separations.{is_same_pair}

-- by the first class, then the second, byte by byte
abbrev pub pair_order : ClassPair → ClassPair → Ordering
pair_order p q = ordering_then (slice_cmp nat_cmp p.a q.a) (slice_cmp nat_cmp p.b q.b)

-- the two classes of a separation, as they stand
abbrev pub pair_of : Separation → ClassPair
pair_of e = record { a = e.a; b = e.b }

-- a look-up finds the pair of a separation exactly where one of these separations is of the same two classes, in either order
pub record ArePairs (pairs : BTreeSet ClassPair) (separations : List Separation) : Type 0 where
  pub same : (e : Separation) → contains pair_order pairs (pair_of e) ≡ list_any (λ d. is_same_pair d e) separations
