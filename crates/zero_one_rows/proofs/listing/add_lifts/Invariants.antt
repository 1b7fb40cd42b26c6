use Rattle.std.proofs.Common.{◌≤◌, ◌+◌, ◌*◌}
use Rattle.std.specs.Prelude.{flat_map}
use Rattle.std.specs.List.{range_with_len}
use Rattle.zero_one_rows.specs.Enumerated.{Adds, at_lift}
use Rattle.zero_one_rows.proofs.listing.add_lifts.Given as goal

abbrev pub invariant-loop-lifted : goal.invariant-loop-lifted
invariant-loop-lifted l = record { adds : Adds l.initial.listing l.listing (flat_map (λ v. at_lift l.put l.kind l.dest l.places v) (range_with_len 0 l.lifted)); most : l.listing.total ≤ l.initial.listing.total + l.lifted * 3000 }
